-- `imm::negative`: digits whose value is at most 2^63 are an i64 after a minus, made without passing its range.
use Prim.Native.Nat.{◌-◌, ◌≤◌}
use mathlib.Core.Path.{◌≡◌, refl, sym, ◌∙◌}
use native.Mathlib.Omega.{arith}
use mir.Syntax.{w64}
use mir.Val.{to_z}
use mir.Facts.{to_z-of_z, to_z_pos}
use lib.IntN.{pos}
use Rattle.numbers.proofs.Values.{digits_within}
use Rattle.numbers.proofs.Integers.{minus_magnitude, magnitude_fits}
use Rattle.numbers.proofs.imm.negative.Goals as goal
use Rattle.numbers.proofs.imm.negative.Goals.{Else-n-eq0}

pub returns-then-n-eq0 : goal.returns-then-n-eq0
returns-then-n-eq0 c = rw (← c.parse_digits.ensures, c.in_ok-n.was, c.if-n-eq0.true) refl

-- what was read is within its limit
small : (c : Else-n-eq0) → c.in_ok-n.n ≤ 9223372036854775808
small c = digits_within _ _ _ _ (sym c.parse_digits.ensures ∙ c.in_ok-n.was)

pub overflow_cast-result : goal.overflow_cast-result
overflow_cast-result c = omega (arith, small c, c.if-n-eq0.false)

-- the machine reads n - 1 as an i64
less_one : (c : Else-n-eq0) → to_z w64 (c.in_ok-n.n - 1) ≡ pos (c.in_ok-n.n - 1)
less_one c = to_z_pos w64 (omega (arith, small c, c.if-n-eq0.false))

pub overflow_sub-result-2 : goal.overflow_sub-result-2
overflow_sub-result-2 c = rw (less_one c, minus_magnitude _ c.if-n-eq0.false) (magnitude_fits _ c.if-n-eq0.false (small c))

pub returns : goal.returns
returns c =
    rw (
      ← c.parse_digits.ensures,
      c.in_ok-n.was,
      less_one c,
      minus_magnitude _ c.if-n-eq0.false,
      to_z-of_z (magnitude_fits _ c.if-n-eq0.false (small c)),
    )
    refl
