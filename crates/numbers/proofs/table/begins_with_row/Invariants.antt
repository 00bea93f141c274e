-- `table::begins_with_row`: the invariant says that what is left of the text begins with what is left of the name where the whole text
-- begins with the whole name.
use Prim.Native.Nat.{◌-◌, ◌≤◌}
use mathlib.Core.Path.{◌≡◌}
use lib.ListN.{drop}
use Rattle.numbers.specs.Text.{starts_with}
use Rattle.numbers.specs.Code.Tables.{row_name}
use Rattle.numbers.proofs.Rows.{row_at}
use Rattle.numbers.proofs.table.begins_with_row.Given as goal

abbrev pub invariant-loop-i : goal.invariant-loop-i
invariant-loop-i l = (l.i ≤ 16) × (starts_with (row_name (row_at l.table l.at)) l.s ≡ starts_with (row_name (drop l.i (row_at l.table l.at))) (drop l.i l.s))

abbrev pub decreases-loop-i : goal.decreases-loop-i
decreases-loop-i l = 16 - l.i
