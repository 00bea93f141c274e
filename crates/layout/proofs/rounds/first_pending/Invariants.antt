-- `rounds::first_pending`: from here on the first pending one is the whole list's.
use Prim.Native.Nat.{ℕ, ◌-◌}
use mathlib.Core.Path.{◌≡◌}
use mathlib.Core.List.{List}
use lib.ListN.{drop}
use Rattle.layout.specs.Rounds.{Known, first_pending}
use Rattle.layout.specs.Code.Names.{EquateTable}
use Rattle.layout.proofs.rounds.first_pending.Given as goal

abbrev pub invariant-loop-i : goal.invariant-loop-i
invariant-loop-i l = (t ix : List ℕ) (ks : List Known) → EquateTable t l.equates ix l.count ks → first_pending (drop l.i ks) ≡ first_pending ks

abbrev pub decreases-loop-i : goal.decreases-loop-i
decreases-loop-i l = l.count - l.i
