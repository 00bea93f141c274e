-- `short::digits_at`: the digits from i on up to the comma, after the value so far, give what all of them give.
use Prim.Native.Nat.{◌+◌, ◌-◌, ◌*◌, ◌^◌, ◌≤◌}
use mathlib.Core.Path.{◌≡◌}
use lib.ListN.{length, drop}
use Rattle.numbers.specs.Text.{byte, index_of, before}
use Rattle.numbers.specs.Numbers.{digits_from}
use Rattle.numbers.proofs.short.digits_at.Given as goal

abbrev pub invariant-loop-i : goal.invariant-loop-i
invariant-loop-i l = (l.first ≤ l.i) × (l.i - l.first ≤ length l.s - l.first) × (l.value ≤ 2 ^ 28 * l.base - 1) × (l.i + index_of (byte ",") (drop l.i l.s) ≡ l.first + index_of (byte ",") (drop l.first l.s))
    × (digits_from l.base (2 ^ 28 * l.base - 1) l.value (before (byte ",") (drop l.i l.s)) ≡ digits_from l.base (2 ^ 28 * l.base - 1) 0 (before (byte ",") (drop l.first l.s)))

abbrev pub decreases-loop-i : goal.decreases-loop-i
decreases-loop-i l = length l.s - l.i
