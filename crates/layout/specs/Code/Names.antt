-- Names while the equates are resolved: equates with what is found of them so far, labels with their addresses, and the look-up in both.
use Rattle.std.specs.Prelude.{ℕ, ◌≤◌, ◌≡◌, List, map, true, length, ℤ, pos}
use Rattle.std.specs.Prelude.{Option, None, Some}
use Rattle.numbers.specs.Ints.{in64}
use Rattle.layout.specs.declared.equates.Equates.{Equates}
use Rattle.layout.specs.declared.names.Names.{Names}
use Rattle.layout.specs.Limits.{text_limit, equate_limit}
use Rattle.layout.specs.State.{State}
use Rattle.layout.specs.Rounds.{Found, Known, look}
use Rattle.layout.specs.Records.{RecordField, equate_record, equate_fields, table_of}
use Rattle.layout.specs.Code.Steps.{Exists}
use Rattle.layout.specs.Code.Fits.{Each, EquateFits}
use Rattle.layout.specs.Code.Index.{Indexed}
use Rattle.layout.specs.Code.Stands.{label_store}
use Rattle.layout.specs.Code.Placed.{LabelsPlaced}

-- ---- equates

-- value and round as a record has them: 0 while the equate is pending
abbrev pub value_so_far : Option Found → ℤ
value_so_far None = pos 0
value_so_far (Some f) = f.value

abbrev pub round_so_far : Option Found → ℕ
round_so_far None = 0
round_so_far (Some f) = f.round

abbrev pub known_fields : Known → List RecordField
known_fields k = equate_fields (equate_record k.equate.name k.equate.line (value_so_far k.found) (round_so_far k.found))

abbrev pub known_name : Known → List ℕ
known_name k = k.equate.name.bytes

-- what is found fits its fields, and its round tells it from what is pending
pub record FoundFits (f : Found) : Type 0 where
  pub from : 1 ≤ f.round
  pub to : f.round ≤ equate_limit
  pub value : in64 f.value ≡ true

abbrev pub MaybeFits : Option Found → Type 0
MaybeFits None = Unit
MaybeFits (Some f) = FoundFits f

pub record KnownFits (t : List ℕ) (k : Known) : Type 0 where
  pub equate : EquateFits t k.equate
  pub found : MaybeFits k.found

-- a buffer that holds the records of so many equates of a text, and zeros after them
pub record EquateRecords (t b : List ℕ) (count : ℕ) (ks : List Known) : Type 0 where
  pub text : length t ≤ text_limit
  pub counted : count ≡ length ks
  pub few : length ks ≤ equate_limit
  pub fits : Each (KnownFits t) ks
  pub records : b ≡ table_of (length b) known_fields ks

-- and the index of their names
pub record EquateTable (t b ix : List ℕ) (count : ℕ) (ks : List Known) : Type 0 where
  pub rows : EquateRecords t b count ks
  pub indexed : Indexed (map known_name ks) ix

-- the code's equates are found some way
abbrev pub EquatesSearchable : Equates → Type 0
EquatesSearchable e = Exists (EquateTable e.text.now e.records.now e.index.now e.count)

-- P holds of whatever equates these are
abbrev pub WhereKnown : Equates → (List Known → Type 0) → Type 0
WhereKnown e P = (ks : List Known) → EquateTable e.text.now e.records.now e.index.now e.count ks → P ks

-- ---- equates and labels

-- what names are looked up in: the base, what the lines gave, and the equates so far
pub record Scope : Type 0 where
  pub base : ℕ
  pub state : State
  pub known : List Known

unfoldable pub look_in : Scope → List ℕ → Option ℤ
look_in s n = look s.base s.state s.known n

-- labels' text, records and index, and equates'
pub record NamesStand (t l n : List ℕ) (c : ℕ) (u e x : List ℕ) (m : ℕ) (s : Scope) : Type 0 where
  pub labels : LabelsPlaced t s.base s.state c (label_store l n)
  pub equates : EquateTable u e x m s.known

-- the code's names stand for these
abbrev pub StandFor : Names → Scope → Type 0
StandFor n = NamesStand n.labels.now.text.now n.labels.now.records.now n.labels.now.index.now n.labels.now.count n.equates.now.text.now n.equates.now.records.now n.equates.now.index.now n.equates.now.count

-- they stand for something
abbrev pub NamesReady : Names → Type 0
NamesReady n = Exists (StandFor n)

-- P holds of whatever they stand for
abbrev pub NamesKnown : Names → (Scope → Type 0) → Type 0
NamesKnown n P = (s : Scope) → StandFor n s → P s
