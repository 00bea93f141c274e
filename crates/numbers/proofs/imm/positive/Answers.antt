-- `imm::positive`: digits whose value is at most 2^63 - 1 are an i64.
use Prim.Native.Nat.{◌≤◌}
use mathlib.Core.Path.{refl, sym, ◌∙◌}
use native.Mathlib.Omega.{arith}
use mir.Syntax.{w64}
use mir.Facts.{to_z_pos}
use Rattle.numbers.proofs.Values.{digits_within}
use Rattle.numbers.proofs.imm.positive.Goals as goal
use Rattle.numbers.proofs.imm.positive.Goals.{In_ok-n}

-- what was read is within its limit
small : (c : In_ok-n) → c.in_ok-n.n ≤ 9223372036854775807
small c = digits_within _ _ _ _ (sym c.parse_digits.ensures ∙ c.in_ok-n.was)

pub overflow_cast-result : goal.overflow_cast-result
overflow_cast-result c = omega (arith, small c)

pub returns : goal.returns
returns c = rw (← c.parse_digits.ensures, c.in_ok-n.was, to_z_pos w64 {n = c.in_ok-n.n} (omega (arith, small c))) refl
