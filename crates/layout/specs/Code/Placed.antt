-- Addresses in the code: where the sections start, the labels' records with their addresses, and what filling label words comes to.
use Rattle.std.specs.Prelude.{Result}
use Rattle.std.specs.Prelude.{ℕ, ◌≤◌, ◌≡◌, List, map, length}
use Rattle.layout.specs.declared.limits.Room.{Room}
use Rattle.layout.specs.declared.labels.Labels.{Labels}
use Rattle.layout.specs.declared.addresses.Starts.{Starts}
use Rattle.layout.specs.declared.state.Section.TheVariants as section
use Rattle.layout.specs.declared.state.Place.{Place}
use Rattle.layout.specs.Limits.{base_limit, text_limit, data_limit}
use Rattle.layout.specs.Bytes.{padded}
use Rattle.layout.specs.State.{State}
use Rattle.layout.specs.Addresses.{section_start, placed, label_address, fill}
use Rattle.layout.specs.Code.Places.{place_code, PlaceFits}
use Rattle.layout.specs.Code.Index.{Indexed, Distinct}
use Rattle.layout.specs.Code.Steps.{Agrees}
use Rattle.layout.specs.Code.Stands.{LabelStore, label_store, data_store, label_name, LabelsStand, StoredStand}
use Rattle.layout.specs.Code.Lent.{OverCall}
use Rattle.layout.specs.Code.Orders.{LabelTable}
use Rattle.layout.specs.declared.refusal.RefusedAt.{RefusedAt}
use Rattle.layout.specs.Code.Numbers.{numbered_at}

-- where the sections start: the one place where the base comes in
pub record StartsAt (s : Starts) (base : ℕ) (σ : State) : Type 0 where
  pub base_limit : base ≤ base_limit
  pub size_limit : length σ.rest.own.stored.bytes ≤ data_limit
  pub text : s.text ≡ section_start base σ section.Text
  pub data_start : s.«data» ≡ section_start base σ section.Data
  pub bss : s.bss ≡ section_start base σ section.Bss

-- a place's code, and where the sections start: it has an address
pub record PlaceCoded (s : Starts) (code : ℕ) : Type 0 where
  pub base : ℕ
  pub state : State
  pub place : Place
  pub starts : StartsAt s base state
  pub fits : PlaceFits place
  pub is : code ≡ place_code place

-- ---- labels

-- the labels' records with their addresses, and the index of their names
pub record LabelsPlaced (t : List ℕ) (base : ℕ) (σ : State) (count : ℕ) (b : LabelStore) : Type 0 where
  pub table : LabelTable t b.records count (map (placed base σ) σ.labels)
  pub indexed : Indexed (map label_name σ.labels) b.index
  pub distinct : Distinct (map label_name σ.labels)

-- labels as the line stage leaves them, and where the sections start
pub record Unplaced (b : List ℕ) (count : ℕ) (s : Starts) : Type 0 where
  pub text : List ℕ
  pub room : Room
  pub index : List ℕ
  pub base : ℕ
  pub state : State
  pub short : length text ≤ text_limit
  pub starts : StartsAt s base state
  pub labels : LabelsStand text room count (label_store b index) state.labels

-- whatever labels the buffer stood for, it then has their addresses
abbrev pub Places : OverCall → ℕ → Starts → Type 0
Places l count s =
    (u : Unplaced l.entry.now count s) → LabelsPlaced u.text u.base u.state count (label_store l.exit.now u.index)

-- P holds of every base and state whose labels these are, with their addresses
abbrev pub WherePlaced : Labels → (ℕ → State → Type 0) → Type 0
WherePlaced l P =
    (base : ℕ) (σ : State) → LabelsPlaced l.text.now base σ l.count (label_store l.records.now l.index.now) → P base σ

-- ---- label words

-- labels with their addresses, and so many label words with the data that they are in
pub record Unfilled (t l n : List ℕ) (count : ℕ) (w : List ℕ) (words : ℕ) (d : List ℕ) : Type 0 where
  pub base : ℕ
  pub state : State
  pub room : Room
  pub size : ℕ
  pub labels : LabelsPlaced t base state count (label_store l n)
  pub stored : StoredStand t room (record { bytes = size; label_words = words }) (data_store d w) state.rest.own.stored

-- all of so many label words are filled, and the data are what that leaves
pub record FillLeft (words : ℕ) (d : List ℕ) (n : ℕ) (bytes : List ℕ) : Type 0 where
  pub counted : n ≡ words
  pub stored : d ≡ padded (length d) bytes

-- what is lent is to be filled, and what it then has
abbrev pub FillReady : Labels → List ℕ → ℕ → List ℕ → Type 0
FillReady l w words d = Unfilled l.text.now l.records.now l.index.now l.count w words d

abbrev pub Fills : Labels → List ℕ → ℕ → OverCall → Result ℕ RefusedAt → Type 0
Fills l w words d r =
    (u : FillReady l w words d.entry.now)
    → Agrees (FillLeft words d.exit.now) (numbered_at r)
    (fill (label_address u.base u.state) u.state.rest.own.stored.label_words u.state.rest.own.stored.bytes)
