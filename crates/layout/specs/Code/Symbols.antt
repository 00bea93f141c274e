-- Symbols resolved once the lines are read: what that asks of the buffers, and what it leaves.
use Rattle.std.specs.Prelude.{ℕ, ◌+◌, ◌*◌, ◌≤◌, ◌≡◌, List, [], length}
use Rattle.std.specs.Prelude.{Result, Ok}
use Rattle.numbers.specs.Results.{and_then}
use Rattle.layout.specs.declared.limits.Room.{Room}
use Rattle.layout.specs.declared.state.Counters.{Counters}
use Rattle.layout.specs.Refusals.{Refusal}
use Rattle.layout.specs.Bytes.{padded}
use Rattle.layout.specs.Limits.{base_limit, text_limit, equate_limit}
use Rattle.layout.specs.State.{State}
use Rattle.layout.specs.Addresses.{label_address, fill}
use Rattle.layout.specs.Rounds.{Turns}
use Rattle.layout.specs.Layouts.{resolve}
use Rattle.layout.specs.Code.Index.{buckets, Indexed}
use Rattle.layout.specs.Code.Steps.{Agrees}
use Rattle.layout.specs.Code.Stands.{LabelsStand, EquatesStand, StoredStand, label_store, equate_store, data_store}
use Rattle.layout.specs.Code.Lent.{OverCall}
use Rattle.layout.specs.Code.Placed.{LabelsPlaced}
use Rattle.layout.specs.Code.Resolves.{ResolveLeft}
use Rattle.layout.specs.declared.refusal.RefusedAt.{RefusedAt}
use Rattle.layout.specs.Code.Numbers.{numbered_at}

-- what the lines left, with room for the index of the equates' names and for how far their sums come
pub record SymbolsStand (t : List ℕ) (base : ℕ) (st : Counters) (l n e ix x w d lw : List ℕ) : Type 0 where
  pub room : Room
  pub state : State
  pub text : length t ≤ text_limit
  pub base_limit : base ≤ base_limit
  pub labels : LabelsStand t room st.labels (label_store l n) state.labels
  pub equates : EquatesStand t room st.rest.equates (equate_store e x) state.rest.equates
  pub stored : StoredStand t room st.rest.own.stored (data_store d lw) state.rest.own.stored
  pub index : Indexed [] ix
  pub index_room : buckets + equate_limit ≤ length ix
  pub partials_room : equate_limit * 2 ≤ length w

abbrev pub SymbolsReady : List ℕ → ℕ → Counters → List ℕ → List ℕ → List ℕ → List ℕ → List ℕ → List ℕ → List ℕ → List ℕ
    → Type 0
SymbolsReady t base st l n e ix x w d lw = SymbolsStand t base st l n e ix x w d lw

-- the data with the label words filled, and the equates after their rounds
pub record Symbols : Type 0 where
  pub bytes : List ℕ
  pub turns : Turns

abbrev pub symbols_of : ℕ → State → Result Symbols Refusal
symbols_of base σ =
    and_then (fill (label_address base σ) σ.rest.own.stored.label_words σ.rest.own.stored.bytes) (λ bytes.
    and_then (resolve base σ σ.rest.equates) (λ x. Ok (record { bytes = bytes; turns = x })))

-- labels with their addresses, the data, and the equates with their values
pub record SymbolsLeft (t : List ℕ) (base : ℕ) (σ : State) (st : Counters) (l n e ix d : List ℕ) (count : ℕ) (y : Symbols) : Type 0 where
  pub labels : LabelsPlaced t base σ st.labels (label_store l n)
  pub bytes : d ≡ padded (length d) y.bytes
  pub resolved : ResolveLeft t e ix st.rest.equates count y.turns

abbrev pub SymbolsResolve : List ℕ → ℕ → Counters → OverCall → List ℕ → OverCall → OverCall → List ℕ → OverCall → OverCall → List ℕ
    → Result ℕ RefusedAt → Type 0
SymbolsResolve t base st l n e ix x w d lw r =
    (s : SymbolsReady t base st l.entry.now n e.entry.now ix.entry.now x w.entry.now d.entry.now lw)
    → Agrees (SymbolsLeft t base s.state st l.exit.now n e.exit.now ix.exit.now d.exit.now)
    (numbered_at r) (symbols_of base s.state)
