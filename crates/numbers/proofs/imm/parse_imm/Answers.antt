-- `imm::parse_imm`: the value that was read, within 32 signed bits, or less 2^32 within 32 bits without a sign.
use Prim.Native.Nat.{◌^◌}
use mathlib.Core.Path.{◌≡◌, refl, sym, ◌∙◌}
use mathlib.Core.Bool.{true, false}
use lib.IntN.{ℤ, pos, ◌-ℤ◌}
use mir.Syntax.{w32, w64}
use mir.Val.{SFits, to_z, of_z}
use mir.Facts.{to_z-of_z, sfits_widen}
use Rattle.numbers.specs.Ints.{is_signed32}
use Rattle.numbers.specs.Numbers.{imm_of}
use Rattle.numbers.proofs.Integers.{signed32_fits, upper_fits}
use borrow.Author.Rules.{rules}
use Rattle.numbers.proofs.imm.parse_imm.Goals as goal
use Rattle.numbers.proofs.imm.parse_imm.Goals.{Else-in_signed32, Then-in_signed32, Then-in_unsigned32}

-- the machine reads the value back from its bits
read : (v : ℤ) → SFits w64 v → to_z w64 (of_z w64 v) ≡ v
read v f = to_z-of_z f

signed : (c : Then-in_signed32) → is_signed32 c.in_ok-v.v ≡ true
signed c = rw (read c.in_ok-v.v (search rules)) at (sym c.in_signed32.ensures ∙ c.if-in_signed32.true)

narrow : (c : Then-in_signed32) → SFits w32 c.in_ok-v.v
narrow c = signed32_fits _ (signed c)

unsigned : (c : Else-in_signed32) → is_signed32 c.in_ok-v.v ≡ false
unsigned c = rw (read c.in_ok-v.v (search rules)) at (sym c.in_signed32.ensures ∙ c.if-in_signed32.false)

upper : (c : Then-in_unsigned32) → SFits w32 (c.in_ok-v.v -ℤ pos (2 ^ 32))
upper c = upper_fits c.in_ok-v.v (rw (read c.in_ok-v.v (search rules)) at (sym c.in_signed32.ensures ∙ c.if-in_signed32.false)) (rw (read c.in_ok-v.v (search rules)) at (sym c.in_unsigned32.ensures ∙ c.if-in_unsigned32.true))

pub overflow_cast-result : goal.overflow_cast-result
overflow_cast-result c = rw (read c.in_ok-v.v (search rules)) (narrow c)

pub returns-then-in_signed32 : goal.returns-then-in_signed32
unfolding imm_of
returns-then-in_signed32 c = rw (← c.parse_imm64.ensures, c.in_ok-v.was, read c.in_ok-v.v (search rules), to_z-of_z (narrow c), signed c) refl

pub overflow_sub-result : goal.overflow_sub-result
overflow_sub-result c = rw (read c.in_ok-v.v (search rules)) (sfits_widen tt (upper c))

pub overflow_cast-result-then-in_unsigned32 : goal.overflow_cast-result-then-in_unsigned32
overflow_cast-result-then-in_unsigned32 c = rw (read c.in_ok-v.v (search rules), to_z-of_z (sfits_widen {w' = w64} tt (upper c))) (upper c)

pub returns-then-in_unsigned32 : goal.returns-then-in_unsigned32
unfolding imm_of
returns-then-in_unsigned32 c =
    rw (
      ← c.parse_imm64.ensures,
      c.in_ok-v.was,
      read c.in_ok-v.v (search rules),
      to_z-of_z (sfits_widen {w' = w64} tt (upper c)),
      to_z-of_z (upper c),
      unsigned (goal.at.returns-then-in_unsigned32 c).Else-in_signed32,
      rw (read c.in_ok-v.v (search rules)) at (sym c.in_unsigned32.ensures ∙ c.if-in_unsigned32.true),
    )
    refl

pub returns : goal.returns
unfolding imm_of
returns c =
    rw (
      ← c.parse_imm64.ensures,
      c.in_ok-v.was,
      unsigned (goal.at.returns c).Else-in_signed32,
      rw (read c.in_ok-v.v (search rules)) at (sym c.in_unsigned32.ensures ∙ c.if-in_unsigned32.false),
    )
    refl

pub returns-in_err-v : goal.returns-in_err-v
unfolding imm_of
returns-in_err-v c = rw (c.from_residual.ensures, ← c.parse_imm64.ensures, c.in_err-v.was) refl
