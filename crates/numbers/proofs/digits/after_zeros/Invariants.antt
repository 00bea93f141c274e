-- `digits::after_zeros`: what was passed is a multiple of fifteen and leaves a zero.
use Prim.Native.Nat.{◌-◌, ◌%◌, ◌≤◌}
use mathlib.Core.Path.{◌≡◌}
use lib.ListN.{length, drop}
use Rattle.numbers.specs.Code.Starts.{leading_zeros}
use Rattle.numbers.proofs.digits.after_zeros.Given as goal

abbrev pub invariant-loop-i : goal.invariant-loop-i
invariant-loop-i l = (l.at ≤ l.i) × ((l.i - l.at) % 15 ≡ 0) × (l.i - l.at ≤ leading_zeros (drop l.at l.s) - 1)

abbrev pub decreases-loop-i : goal.decreases-loop-i
decreases-loop-i l = length l.s - l.i
