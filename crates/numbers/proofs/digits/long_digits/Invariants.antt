-- `digits::long_digits`: the digits from i on, after the value so far, give what all of them give.
use Prim.Native.Nat.{◌≤◌}
use mathlib.Core.Path.{◌≡◌}
use lib.ListN.{drop}
use Rattle.numbers.specs.Numbers.{digits_from}
use Rattle.numbers.proofs.digits.long_digits.Given as goal

abbrev pub invariant-loop-b : goal.invariant-loop-b
invariant-loop-b l = (l.value ≤ l.limit) × (digits_from l.base l.limit l.value (drop l.b-index l.digits) ≡ digits_from l.base l.limit 0 l.s)
