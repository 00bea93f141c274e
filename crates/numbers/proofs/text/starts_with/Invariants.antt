-- `text::starts_with`: the invariant says that the rest of the text begins with the rest of the prefix just where the text begins with the prefix.
use Prim.Native.Nat.{◌≤◌, ◌-◌}
use mathlib.Core.Path.{◌≡◌}
use lib.ListN.{length, drop}
use Rattle.numbers.specs.Text.{starts_with}
use Rattle.numbers.proofs.text.starts_with.Given as goal

abbrev pub invariant-loop-i : goal.invariant-loop-i
invariant-loop-i l = (l.i ≤ length l.prefix) × (length l.prefix ≤ length l.s) × (starts_with (drop l.i l.prefix) (drop l.i l.s) ≡ starts_with l.prefix l.s)

abbrev pub decreases-loop-i : goal.decreases-loop-i
decreases-loop-i l = length l.prefix - l.i
