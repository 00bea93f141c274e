-- `table::first_in`: the invariant says that the row found from here on is the row found from the slot's first.
use Prim.Native.Nat.{ℕ}
use mathlib.Core.Path.{◌≡◌}
use mathlib.Core.List.{List}
use mathlib.Core.Bool.{Bool}
use Rattle.numbers.specs.Code.Tables.{first, TestsRows}
use Rattle.numbers.proofs.Rows.{rows_ahead}
use Rattle.numbers.proofs.table.first_in.Given as goal

abbrev pub invariant-loop-row : goal.invariant-loop-row
invariant-loop-row g l =
    (test : List ℕ → Bool) → TestsRows (goal.F-post g l.is) l.table test
    → first test (rows_ahead l.table l.row l.end) ≡ first test (rows_ahead l.table l.initial.row l.end)
