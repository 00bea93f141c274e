-- What a caller holds after the call, the counts and the lent buffers, read back as a layout. Document 01, "Records".
use Rattle.std.specs.Prelude.{ℕ, zero, suc, List, [], ◌∷◌, take, drop}
use Rattle.layout.specs.declared.records.LabelRecord.{LabelRecord}
use Rattle.layout.specs.declared.records.EquateRecord.{EquateRecord}
use Rattle.layout.specs.declared.records.ItemRecord.{ItemRecord}
use Rattle.layout.specs.Pieces.{Piece, piece}
use Rattle.layout.specs.Addresses.{LabelAt}
use Rattle.layout.specs.Layouts.{EquateAt, ItemAt, Layout, Counts, Buffers}
use Rattle.layout.specs.Records.{label_record_at, equate_record_at, item_record_at}

-- a piece of the text t by its start and length
abbrev pub piece_in : List ℕ → ℕ → ℕ → Piece
piece_in t start len = piece start (take len (drop start t))

-- what a record says of the text
abbrev pub label_from : List ℕ → LabelRecord → LabelAt
label_from t r = record { name = piece_in t r.start r.len; address = r.address; line = r.line }

abbrev pub equate_from : List ℕ → EquateRecord → EquateAt
equate_from t r = record { name = piece_in t r.start r.len; line = r.line; value = r.value; round = r.round }

abbrev pub item_from : List ℕ → ItemRecord → ItemAt
item_from t r =
    record { address = r.address; line = r.line; kind = r.kind; first = r.first; source = piece_in t r.start r.len }

-- the kth and those after it, n in all
unfoldable pub counted : {A : Type 0} → (ℕ → A) → ℕ → ℕ → List A
counted f k zero = []
counted f k (suc n) = f k ∷ counted f (suc k) n

abbrev pub held_layout : List ℕ → Counts → Buffers → Layout
held_layout t c b =
    record {
      words = take c.words b.words;
      data_bytes = take c.data_bytes b.data_bytes;
      data_base = c.data_base;
      bss_size = c.bss_size;
      labels = counted (λ k. label_from t (label_record_at b.labels k)) 0 c.labels;
      equates = counted (λ k. equate_from t (equate_record_at b.equates k)) 0 c.equates;
      items = counted (λ k. item_from t (item_record_at b.items k)) 0 c.items;
      evaluations = c.evaluations;
    }
