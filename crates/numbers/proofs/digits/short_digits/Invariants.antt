-- `digits::short_digits`: as `long_digits`, but the value after i digits is below 16^i, and so below 2^60.
use Prim.Native.Nat.{◌^◌, ◌<◌}
use mathlib.Core.Path.{◌≡◌}
use lib.ListN.{drop}
use Rattle.numbers.specs.Numbers.{digits_from}
use Rattle.numbers.proofs.digits.short_digits.Given as goal

abbrev pub invariant-loop-b : goal.invariant-loop-b
invariant-loop-b l = (l.value < 16 ^ l.b-index) × (digits_from l.base l.limit l.value (drop l.b-index l.s) ≡ digits_from l.base l.limit 0 l.s)
