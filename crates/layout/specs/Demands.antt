-- The order's demand 3: what holds of every accepted layout, and of the refusal 17; and of every accepted layout what document 02's W-202 says. Said of
-- the text and the records alone; σ is what the lines say, as the line stage reads it (`BeforeRounds`).
use Rattle.std.specs.Prelude.{ℕ, suc, ◌+◌, ◌-◌, ◌*◌, ◌%◌, ◌^◌, ◌≤◌, ◌<◌, max, ◌≡◌, ◌↔◌, List, [], ◌∷◌, ◌++◌, Bool, true, false, cond, ltb, ℤ, pos, negsuc, length, take, drop}
use Rattle.std.specs.Prelude.{Option, None, Some}
use Rattle.std.specs.Prelude.{Ok}
use Rattle.numbers.specs.Text.{same}
use Rattle.numbers.specs.Numbers.{imm_of, imm64_of}
use Rattle.numbers.specs.Registers.{register_of}
use Rattle.encoder.specs.Run.{LoadsIn}
use Rattle.layout.specs.declared.state.Section.TheVariants as section
use Rattle.layout.specs.declared.pseudo.Pseudo.TheVariants.{Li, La}
use Rattle.layout.specs.Bytes.{little_endian}
use Rattle.layout.specs.Pieces.{lines, line_pieces}
use Rattle.layout.specs.Limits.{base_limit, text_limit, Lent, room_of}
use Rattle.layout.specs.Pseudos.{pseudo_operands, reserved_words, item_kind}
use Rattle.layout.specs.State.{Label, Equate, ItemLine, LabelWord, State, start}
use Rattle.layout.specs.Stage.{line_stage}
use Rattle.layout.specs.Addresses.{LabelAt, address_at, label_address, fill}
use Rattle.layout.specs.Rounds.{or_else, as_number}
use Rattle.layout.specs.Layouts.{EquateAt, ItemAt, Layout, check_bytes, Answer}
use Rattle.layout.specs.Terms.{Term, terms_of, signed_sum, is_used}
use Rattle.layout.specs.Chains.{Among, name_of, Chained, NamesFirst, Conditions}
use Rattle.layout.specs.Held.{held_layout}

-- ---- "the final labels and equates", as the records have them

unfoldable pub recorded_value : List EquateAt → List ℕ → Option ℤ
recorded_value [] n = None
recorded_value (r ∷ rs) n = elim (same r.name.bytes n) [ true ↦ Some r.value | false ↦ recorded_value rs n ]

unfoldable pub recorded_address : List LabelAt → List ℕ → Option ℕ
recorded_address [] n = None
recorded_address (r ∷ rs) n = elim (same r.name.bytes n) [ true ↦ Some r.address | false ↦ recorded_address rs n ]

-- "Equates are looked up before labels; a name in neither is undefined"
abbrev pub final_value : Layout → List ℕ → Option ℤ
final_value l n = or_else (recorded_value l.equates n) (as_number (recorded_address l.labels n))

-- ---- rounds

-- the largest of the rounds of those equates that are used, each with so many more; 0 where none is
unfoldable pub largest : (List ℕ → Bool) → ℕ → List EquateAt → ℕ
largest used more [] = 0
largest used more (r ∷ rs) = max (cond (used r.name.bytes) (r.round + more) 0) (largest used more rs)

-- "the largest of 1, the rounds of the equates it uses that stand above it, and one more than the rounds of those that stand below"
abbrev pub lawful_round : (List ℕ → Bool) → List EquateAt → List EquateAt → ℕ
lawful_round used above below = max 1 (max (largest used 0 above) (largest used 1 below))

unfoldable pub sum_of_rounds : List EquateAt → ℕ
sum_of_rounds [] = 0
sum_of_rounds (r ∷ rs) = r.round + sum_of_rounds rs

-- ---- equates

-- what holds of things of the text and their records, one after the other: each has its record, and others stand above and below that
abbrev pub OneByOne : {A B : Type 0} → (A → List B → B → List B → Type 0) → List A → List B → List B → Type 0
OneByOne P [] above [] = Unit
OneByOne P [] above (r ∷ rs) = ⊥
OneByOne P (x ∷ xs) above [] = ⊥
OneByOne P (x ∷ xs) above (r ∷ rs) = P x above r rs × OneByOne P xs (above ++ r ∷ []) rs

pub record EquateHolds (base : ℕ) (σ : State) (l : Layout) (e : Equate) (above : List EquateAt) (r : EquateAt) (below : List EquateAt) : Type 0 where
  pub name : r.name ≡ e.name
  pub line : r.line ≡ e.line
  -- "each equate's recorded value is its signed sum under the final labels and equates, `.` being its own line's address"
  pub terms : List Term
  pub well_formed : terms_of e ≡ Some terms
  pub value : signed_sum (final_value l) (pos (address_at base σ e.place)) terms ≡ Some r.value
  -- "no equate name is shared or a label"
  pub unshared : recorded_value (above ++ below) (name_of e) ≡ None
  pub no_label : recorded_address l.labels (name_of e) ≡ None
  -- "An equate's recorded round is the largest of .."; none uses itself
  pub round : r.round ≡ lawful_round (is_used e) above below
  pub not_itself : is_used e (name_of e) ≡ false

-- ---- label words

-- "each label word holds its label's address": four bytes of the data, little-endian
pub record LabelWordHolds (l : Layout) (w : LabelWord) : Type 0 where
  pub address : ℕ
  pub known : recorded_address l.labels w.name ≡ Some address
  pub small : address < 2 ^ 32
  pub stands : take 4 (drop w.at l.data_bytes) ≡ little_endian 4 address

-- ---- items

-- "the item's words, up to the next item's or the end"
abbrev pub ends_at : Layout → List ItemAt → ℕ
ends_at l [] = length l.words
ends_at l (i ∷ below) = i.first

abbrev pub item_words : Layout → ItemAt → List ItemAt → List ℕ
item_words l i below = take (ends_at l below - i.first) (drop i.first l.words)

-- the index of the first word at a line or below it: of the first item there, or the words' end where there is none
unfoldable pub word_from : ℕ → Layout → List ItemAt → ℕ
word_from line l [] = length l.words
word_from line l (i ∷ below) = elim (ltb i.line line) [ true ↦ word_from line l below | false ↦ i.first ]

-- what an li's second operand says: "its written number" where `parse_imm` takes one, as it is written, and else "its name's value"
abbrev pub li_says : Option ℤ → Option ℤ → Option ℤ → Option ℤ
li_says (Some z) written named = written
li_says None written named = named

abbrev pub li_value : Layout → List ℕ → Option ℤ
li_value l b = li_says (imm_of b) (imm64_of b) (recorded_value l.equates b)

-- what an la's says: its name's address
abbrev pub la_value : Layout → List ℕ → Option ℤ
la_value l b = as_number (recorded_address l.labels b)

-- a number modulo 2^32
abbrev pub modulo32 : ℤ → ℕ
modulo32 (pos n) = n % 2 ^ 32
modulo32 (negsuc n) = 2 ^ 32 - suc (n % 2 ^ 32)

-- an item's words leave in the register that its first operand names what its second one says, "x0 excepted": there too they run, "any other word
-- fails the demand", and change no register
pub record Loads (source : List ℕ) (ws : List ℕ) (says : List ℕ → Option ℤ) : Type 0 where
  pub first : List ℕ
  pub second : List ℕ
  pub operands : pseudo_operands source ≡ first ∷ second ∷ []
  pub register : ℕ
  pub is_register : register_of first ≡ Some register
  pub value : ℤ
  pub said : says second ≡ Some value
  pub loads : LoadsIn ws register (modulo32 value)

pub record ItemHolds (base : ℕ) (l : Layout) (x : ItemLine) (above : List ItemAt) (i : ItemAt) (below : List ItemAt) : Type 0 where
  pub address : i.address ≡ base + x.offset
  pub line : i.line ≡ x.line
  pub kind : i.kind ≡ item_kind x.item
  pub source : i.source ≡ x.source
  -- document 02, W-202: "Each item's address then equals the base plus four times its first word's index"
  pub at_word : i.address ≡ base + 4 * i.first
  -- and its words are as many as its kind and source say, which is what it reserves
  pub sized : length (item_words l i below) ≡ reserved_words x.item x.source.bytes
  -- "each li or la item's words, run in order by themselves whatever the registers hold, leave its written number, or its name's value or address,
  -- modulo 2^32 in its register, x0 excepted"
  pub li : x.item ≡ Some Li → Loads x.source.bytes (item_words l i below) (li_value l)
  pub la : x.item ≡ Some La → Loads x.source.bytes (item_words l i below) (la_value l)

-- ---- the whole

-- "Where nothing before the rounds refuses": the lines say σ, and with the label words filled in the data are these bytes
pub record BeforeRounds (t : List ℕ) (base : ℕ) (k : Lent) (σ : State) (bytes : List ℕ) : Type 0 where
  pub low : base ≤ base_limit
  pub short : length t ≤ text_limit
  pub plain : check_bytes 0 t ≡ Ok tt
  pub read : line_stage (room_of k) 0 (line_pieces 0 (lines t)) start ≡ Ok σ
  pub filled : fill (label_address base σ) σ.rest.own.stored.label_words σ.rest.own.stored.bytes ≡ Ok bytes

-- "In every accepted layout .."
pub record Holds (base : ℕ) (σ : State) (l : Layout) : Type 0 where
  -- the final labels are the text's, each at its line's address
  pub labels : (n : List ℕ) → recorded_address l.labels n ≡ label_address base σ n
  pub equates : OneByOne (EquateHolds base σ l) σ.rest.equates [] l.equates
  pub label_words : (w : LabelWord) → Among w σ.rest.own.stored.label_words → LabelWordHolds l w
  pub items : OneByOne (ItemHolds base l) σ.rest.own.items.list [] l.items
  -- document 02, W-202: the words emitted are the words reserved
  pub words : length l.words ≡ σ.rest.own.items.words
  -- so no label of the text section is "four bytes off", nor is an equate's `.` there: each is the address of the first word at its line or below it, or
  -- of the words' end
  pub text_labels : (x : Label) → Among x σ.labels → x.place.section ≡ section.Text
      → recorded_address l.labels x.name.bytes ≡ Some (base + 4 * word_from x.line l l.items)
  pub text_dots : (e : Equate) → Among e σ.rest.equates → e.place.section ≡ section.Text
      → address_at base σ e.place ≡ base + 4 * word_from e.line l l.items
  -- "Its evaluations are the sum of the n equates' rounds, at most n(n+1)/2"
  pub evaluations : l.evaluations ≡ sum_of_rounds l.equates
  pub few : 2 * l.evaluations ≤ length l.equates * suc (length l.equates)

-- demand 3, and W-202 of accepted layouts, of an answer to a call with this text, this base and so much lent
pub record Demanded (t : List ℕ) (base : ℕ) (k : Lent) (a : Answer) : Type 0 where
  -- of an accepted layout, as the caller holds it
  pub accepted : a.number ≡ 0
      → (σ : State) × (bytes : List ℕ) × BeforeRounds t base k σ bytes × Holds base σ (held_layout t a.counts a.buffers)
  -- "The refusal \"unresolved\" names the first line whose equate starts a chain .."
  pub unresolved : a.number ≡ 17 → (σ : State) × (bytes : List ℕ) × BeforeRounds t base k σ bytes × NamesFirst σ a.line
  -- "under document 01's conditions it comes exactly when there is such a chain"
  pub exactly : (σ : State) (bytes : List ℕ) → BeforeRounds t base k σ bytes → Conditions base σ → (a.number ≡ 17) ↔ Chained σ
