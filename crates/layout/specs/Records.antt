-- Records: each kind's fields once, their bytes, and records read back from them. Document 01, "Records".
use Rattle.std.specs.Prelude.{ℕ, ◌+◌, ◌*◌, List, [], ◌∷◌, ◌++◌, map, length, take, drop, ℤ}
use Rattle.numbers.specs.Ints.{bits, signed_of}
use Rattle.layout.specs.declared.records.LabelRecord.{LabelRecord}
use Rattle.layout.specs.declared.records.EquateRecord.{EquateRecord}
use Rattle.layout.specs.declared.records.ItemRecord.{ItemRecord}
use Rattle.layout.specs.Limits.{label_size, equate_size, item_size}
use Rattle.layout.specs.Bytes.{little_endian, padded, together}
use Rattle.layout.specs.Pieces.{Piece}

-- "Little-endian, one fixed size, no header, fields of 4 bytes unless said"
pub record RecordField : Type 0 where
  pub width : ℕ
  pub number : ℕ

abbrev pub four : ℕ → RecordField
four v = record { width = 4; number = v }

abbrev pub eight : ℕ → RecordField
eight v = record { width = 8; number = v }

unfoldable pub field_bytes : List RecordField → List ℕ
field_bytes [] = []
field_bytes (f ∷ fs) = little_endian f.width f.number ++ field_bytes fs

-- "Label, 16 bytes: name start in the text, name length, address, line"
abbrev pub label_fields : LabelRecord → List RecordField
label_fields r = four r.start ∷ four r.len ∷ four r.address ∷ four r.line ∷ []

-- "Equate, 24 bytes, in text order: name start, name length, line, value (8 bytes), round"
abbrev pub equate_fields : EquateRecord → List RecordField
equate_fields r = four r.start ∷ four r.len ∷ four r.line ∷ eight (bits 64 r.value) ∷ four r.round ∷ []

-- "Item, 24 bytes, in text order: address, line, kind (..), first word's index, source start, source length"
abbrev pub item_fields : ItemRecord → List RecordField
item_fields r = four r.address ∷ four r.line ∷ four r.kind ∷ four r.first ∷ four r.start ∷ four r.len ∷ []

-- a record of a name or a source, by where it starts and its length
abbrev pub label_record : Piece → ℕ → ℕ → LabelRecord
label_record name address line = record { start = name.at; len = length name.bytes; address = address; line = line }

abbrev pub equate_record : Piece → ℕ → ℤ → ℕ → EquateRecord
equate_record name line value round = record { start = name.at; len = length name.bytes; line = line; value = value; round = round }

abbrev pub item_record : ℕ → ℕ → ℕ → ℕ → Piece → ItemRecord
item_record address line kind first source =
    record { address = address; line = line; kind = kind; first = first; start = source.at; len = length source.bytes }

-- records one after the other in n bytes, and zeros after them: f gives a record's fields
abbrev pub table_of : {A : Type 0} → ℕ → (A → List RecordField) → List A → List ℕ
table_of n f xs = padded n (together (map (λ x. field_bytes (f x)) xs))

-- ---- read back

-- the number that bytes stand for, the low byte first
unfoldable pub little_endian_value : List ℕ → ℕ
little_endian_value [] = 0
little_endian_value (b ∷ bs) = b + 256 * little_endian_value bs

-- the number in the four bytes at a place
abbrev pub four_at : List ℕ → ℕ → ℕ
four_at b at = little_endian_value (take 4 (drop at b))

-- the number in the eight bytes at a place
abbrev pub eight_at : List ℕ → ℕ → ℕ
eight_at b at = little_endian_value (take 8 (drop at b))

-- the kth record of a table
abbrev pub label_record_at : List ℕ → ℕ → LabelRecord
label_record_at b k =
    record {
      start = four_at b (k * label_size);
      len = four_at b (k * label_size + 4);
      address = four_at b (k * label_size + 8);
      line = four_at b (k * label_size + 12);
    }

abbrev pub equate_record_at : List ℕ → ℕ → EquateRecord
equate_record_at b k =
    record {
      start = four_at b (k * equate_size);
      len = four_at b (k * equate_size + 4);
      line = four_at b (k * equate_size + 8);
      value = signed_of 64 (eight_at b (k * equate_size + 12));
      round = four_at b (k * equate_size + 20);
    }

abbrev pub item_record_at : List ℕ → ℕ → ItemRecord
item_record_at b k =
    record {
      address = four_at b (k * item_size);
      line = four_at b (k * item_size + 4);
      kind = four_at b (k * item_size + 8);
      first = four_at b (k * item_size + 12);
      start = four_at b (k * item_size + 16);
      len = four_at b (k * item_size + 20);
    }
