-- `strings::mark_blocks`: neither a quote nor a backslash stands before i, which is whole blocks away.
use Prim.Native.Nat.{◌+◌, ◌-◌, ◌%◌, ◌≤◌}
use mathlib.Core.Path.{◌≡◌}
use lib.ListN.{length, drop}
use Rattle.numbers.specs.Code.Strings.{plain_len}
use Rattle.numbers.proofs.strings.mark_blocks.Given as goal

abbrev pub invariant-loop-i : goal.invariant-loop-i
invariant-loop-i l = (l.i ≤ length l.s) × (l.at ≤ l.i) × ((l.i - l.at) % 16 ≡ 0) × (l.i ≤ l.at + plain_len (drop l.at l.s))

abbrev pub decreases-loop-i : goal.decreases-loop-i
decreases-loop-i l = length l.s - l.i
