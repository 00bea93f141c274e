-- Limits, record sizes, and how much may be laid out. Document 01, "Records", "Refused because of the state".
use Rattle.std.specs.Prelude.{ℕ, ◌*◌, ◌/◌, min}
use Rattle.layout.specs.declared.limits.Room.{Room}

-- "40 base above 0xFF000000", "41 text above 65,536 bytes"
abbrev pub base_limit : ℕ
base_limit = 0xFF000000

abbrev pub text_limit : ℕ
text_limit = 65536

-- "42 data above 65,536 bytes", "43 bss above 1,048,576", "44 reserved words above 16,384"
abbrev pub data_limit : ℕ
data_limit = 65536

abbrev pub bss_limit : ℕ
bss_limit = 1048576

abbrev pub word_limit : ℕ
word_limit = 16384

-- "45 labels above 1,024", "46 equates above 256", "47 label words above 1,024", "48 items above 2,048"
abbrev pub label_limit : ℕ
label_limit = 1024

abbrev pub equate_limit : ℕ
equate_limit = 256

abbrev pub label_word_limit : ℕ
label_word_limit = 1024

abbrev pub item_limit : ℕ
item_limit = 2048

-- "Label, 16 bytes", "Equate, 24 bytes", "Item, 24 bytes"
abbrev pub label_size : ℕ
label_size = 16

abbrev pub equate_size : ℕ
equate_size = 24

abbrev pub item_size : ℕ
item_size = 24

-- what the caller lends: so many words, and so many bytes for the data and the three kinds of record
pub record Lent : Type 0 where
  pub words : ℕ
  pub data_bytes : ℕ
  pub label_bytes : ℕ
  pub equate_bytes : ℕ
  pub item_bytes : ℕ

-- "buffers of every limit's full size": what the bench program lends
abbrev pub full : Lent
full =
    record {
      words = word_limit;
      data_bytes = data_limit;
      label_bytes = label_limit * label_size;
      equate_bytes = equate_limit * equate_size;
      item_bytes = item_limit * item_size;
    }

-- how much may be laid out: each limit met with "the lent length" or "the lent records"
abbrev pub room_of : Lent → Room
room_of k =
    record {
      words = min word_limit k.words;
      bytes = min data_limit k.data_bytes;
      labels = min label_limit (k.label_bytes / label_size);
      equates = min equate_limit (k.equate_bytes / equate_size);
      items = min item_limit (k.item_bytes / item_size);
    }
