-- The whole layout: the stages in document 01's order, and the call's answer. Document 01, "Records", "Order".
use Rattle.std.specs.Prelude.{ℕ, suc, ◌+◌, List, [], ◌∷◌, ◌++◌, map, Bool, true, false, cond, ltb, eqb, length, replicate, ℤ}
use Rattle.std.specs.Prelude.{Option, None, Some}
use Rattle.std.specs.Prelude.{Result, Ok, Err}
use Rattle.numbers.specs.Results.{and_then}
use Rattle.encoder.specs.Encoding.{encoded}
use Rattle.layout.specs.declared.state.Section.TheVariants as section
use Rattle.layout.specs.declared.pseudo.Pseudo.{Pseudo}
use Rattle.layout.specs.Bytes.{padded}
use Rattle.layout.specs.Refusals.{Refusal, at_line}
use Rattle.layout.specs.Limits.{base_limit, text_limit, Lent, room_of}
use Rattle.layout.specs.Pieces.{Piece, lines, line_pieces}
use Rattle.layout.specs.Pseudos.{pseudo_operands, item_kind}
use Rattle.layout.specs.State.{ItemLine, Equate, State, start}
use Rattle.layout.specs.Stage.{line_stage}
use Rattle.layout.specs.Addresses.{section_start, LabelAt, placed, ordered, label_address, fill}
use Rattle.layout.specs.Rounds.{Found, Known, pending_equate, constant, Turns, rounds}
use Rattle.layout.specs.Expansions.{expansion}
use Rattle.layout.specs.Records.{RecordField, label_record, label_fields, equate_record, equate_fields, item_record, item_fields, table_of}

-- an equate with its value and round, and an item with its first word's index
pub record EquateAt : Type 0 where
  pub name : Piece
  pub line : ℕ
  pub value : ℤ
  pub round : ℕ

pub record ItemAt : Type 0 where
  pub address : ℕ
  pub line : ℕ
  pub kind : ℕ
  pub first : ℕ
  pub source : Piece

-- an accepted layout
pub record Layout : Type 0 where
  pub words : List ℕ
  pub data_bytes : List ℕ
  pub data_base : ℕ
  pub bss_size : ℕ
  pub labels : List LabelAt
  pub equates : List EquateAt
  pub items : List ItemAt
  pub evaluations : ℕ

-- ---- items to words

-- "An ordinary instruction line yields an item and one text word 0"; a pseudo yields its expansion's words, of which the encoder
-- refuses none (`emission-refused`)
abbrev pub emission : (List ℕ → Option ℤ) → (List ℕ → Option ℕ) → Option Pseudo → List ℕ → Result (List ℕ) ℕ
emission const label None s = Ok (0 ∷ [])
emission const label (Some p) s = and_then (expansion const label p (pseudo_operands s)) encoded

-- the words and the items so far
pub record Emitted : Type 0 where
  pub words : List ℕ
  pub items : List ItemAt

-- an item whose first word stands after so many
abbrev pub item_at : ℕ → ItemLine → ℕ → ItemAt
item_at base x n = record { address = base + x.offset; line = x.line; kind = item_kind x.item; first = n; source = x.source }

-- "then pseudos in order"
unfoldable pub emit : ℕ → (List ℕ → Option ℤ) → (List ℕ → Option ℕ) → List ItemLine → List ℕ → List ItemAt → Result Emitted Refusal
emit base const label [] ws is = Ok (record { words = ws; items = is })
emit base const label (x ∷ xs) ws is =
    and_then (at_line x.line (emission const label x.item x.source.bytes)) (λ vs.
    emit base const label xs (ws ++ vs) (is ++ item_at base x (length ws) ∷ []))

-- ---- the stages

abbrev pub cons_found : Known → Option Found → List EquateAt → List EquateAt
cons_found k None es = es
cons_found k (Some f) es = record { name = k.equate.name; line = k.equate.line; value = f.value; round = f.round } ∷ es

-- the equates with their values, in text order; when the rounds are through, every one has its value (`all_end`)
unfoldable pub found_equates : List Known → List EquateAt
found_equates [] = []
found_equates (k ∷ ks) = cons_found k k.found (found_equates ks)

-- a refusal where a test holds
abbrev pub refuse_if : Bool → ℕ → ℕ → Result Unit Refusal
refuse_if true n line = Err (record { number = n; line = line })
refuse_if false n line = Ok tt

-- "1 byte above 127": at the line of the first
unfoldable pub check_bytes : ℕ → List ℕ → Result Unit Refusal
check_bytes line [] = Ok tt
check_bytes line (b ∷ bs) =
    elim (ltb 127 b) [ true ↦ Err (record { number = 1; line = line }) | false ↦ check_bytes (cond (eqb b 10) (suc line) line) bs ]

-- the rounds of all equates, from the first on
abbrev pub resolve : ℕ → State → List Equate → Result Turns Refusal
resolve base σ es = rounds base σ (suc (length es)) 1 (map pending_equate es) 0

-- what is accepted
abbrev pub layout : ℕ → State → List ℕ → Turns → Emitted → Layout
layout base σ bytes x e =
    record {
      words = e.words;
      data_bytes = bytes;
      data_base = section_start base σ section.Data;
      bss_size = σ.rest.own.bss;
      labels = ordered (map (placed base σ) σ.labels);
      equates = found_equates x.known;
      items = e.items;
      evaluations = x.evaluations;
    }

-- after the lines: "13 in text order; equates by round ..; then pseudos in order"
unfoldable pub after_lines : ℕ → State → Result Layout Refusal
after_lines base σ =
    and_then (fill (label_address base σ) σ.rest.own.stored.label_words σ.rest.own.stored.bytes) (λ bytes.
    and_then (resolve base σ σ.rest.equates) (λ x.
    and_then (emit base (constant x.known) (label_address base σ) σ.rest.own.items.list [] []) (λ e.
    Ok (layout base σ bytes x e))))

-- "Order: 40, 41, 1; then lines in order ..": accepted, or refused with a number and a line
unfoldable pub layout_of : List ℕ → ℕ → Lent → Result Layout Refusal
layout_of t base k =
    and_then (refuse_if (ltb base_limit base) 40 0) (λ _.
    and_then (refuse_if (ltb text_limit (length t)) 41 0) (λ _.
    and_then (check_bytes 0 t) (λ _.
    and_then (line_stage (room_of k) 0 (line_pieces 0 (lines t)) start) (after_lines base))))

-- ---- the call's whole answer: "refused ones included, the answer and the content of each output"

-- what is counted
pub record Counts : Type 0 where
  pub words : ℕ
  pub data_bytes : ℕ
  pub data_base : ℕ
  pub bss_size : ℕ
  pub labels : ℕ
  pub equates : ℕ
  pub items : ℕ
  pub evaluations : ℕ

-- what the lent buffers hold
pub record Buffers : Type 0 where
  pub words : List ℕ
  pub data_bytes : List ℕ
  pub labels : List ℕ
  pub equates : List ℕ
  pub items : List ℕ

-- number 0: accepted
pub record Answer : Type 0 where
  pub number : ℕ
  pub line : ℕ
  pub counts : Counts
  pub buffers : Buffers

abbrev pub counts_of : Layout → Counts
counts_of l =
    record {
      words = length l.words;
      data_bytes = length l.data_bytes;
      data_base = l.data_base;
      bss_size = l.bss_size;
      labels = length l.labels;
      equates = length l.equates;
      items = length l.items;
      evaluations = l.evaluations;
    }

-- a record's fields
abbrev pub label_row : LabelAt → List RecordField
label_row x = label_fields (label_record x.name x.address x.line)

abbrev pub equate_row : EquateAt → List RecordField
equate_row x = equate_fields (equate_record x.name x.line x.value x.round)

abbrev pub item_row : ItemAt → List RecordField
item_row x = item_fields (item_record x.address x.line x.kind x.first x.source)

-- "Output after the used part is zero"
abbrev pub buffers_of : Lent → Layout → Buffers
buffers_of k l =
    record {
      words = padded k.words l.words;
      data_bytes = padded k.data_bytes l.data_bytes;
      labels = table_of k.label_bytes label_row l.labels;
      equates = table_of k.equate_bytes equate_row l.equates;
      items = table_of k.item_bytes item_row l.items;
    }

-- the order's demand 1: "after a refusal every lent output is all zeros and every count 0"
abbrev pub no_counts : Counts
no_counts = record { words = 0; data_bytes = 0; data_base = 0; bss_size = 0; labels = 0; equates = 0; items = 0; evaluations = 0 }

abbrev pub zero_buffers : Lent → Buffers
zero_buffers k =
    record {
      words = replicate k.words 0;
      data_bytes = replicate k.data_bytes 0;
      labels = replicate k.label_bytes 0;
      equates = replicate k.equate_bytes 0;
      items = replicate k.item_bytes 0;
    }

abbrev pub answer_of : Lent → Result Layout Refusal → Answer
answer_of k (Ok l) = record { number = 0; line = 0; counts = counts_of l; buffers = buffers_of k l }
answer_of k (Err r) = record { number = r.number; line = r.line; counts = no_counts; buffers = zero_buffers k }

-- what the call gives for a text, a base and what is lent
abbrev pub call_of : List ℕ → ℕ → Lent → Answer
call_of t base k = answer_of k (layout_of t base k)
