-- `imm::signed_digits`: the digits after the sign of their own, or without one.
use Prim.Native.Nat.{◌≤◌}
use mathlib.Core.Path.{sym, ◌∙◌}
use native.Mathlib.Omega.{arith}
use lib.ListN.{length}
use Rattle.numbers.specs.Text.{text}
use Rattle.numbers.specs.Numbers.{signed_digits}
use Rattle.numbers.proofs.Prefixes.{prefix_length}
use Rattle.numbers.proofs.Trims.{tail}
use Rattle.numbers.proofs.Starts.{signed-after}
use Rattle.numbers.proofs.imm.signed_digits.Goals as goal
use Rattle.numbers.proofs.imm.signed_digits.Goals.{Then-first_is}

-- a text that begins with the sign has a byte
after_minus : (c : Then-first_is) → 1 ≤ length c.args.digits.now
after_minus c = prefix_length (text "-") _ (sym c.first_is.ensures ∙ c.if-first_is.true)

pub slice_bounds-negative-count : goal.slice_bounds-negative-count
slice_bounds-negative-count c = omega (arith, after_minus c)

pub slice_bounds-negative-start : goal.slice_bounds-negative-start
slice_bounds-negative-start c = omega (arith, after_minus c)

pub returns-then-first_is : goal.returns-then-first_is
unfolding signed_digits
returns-then-first_is c = simp (c.negative.ensures, c.if-first_is.true, ← c.first_is.ensures, tail)

pub returns : goal.returns
returns c =
    let e = sym c.first_is.ensures ∙ c.if-first_is.false in
    rw (← signed-after _ _ e, ← c.after_sign.ensures) c.positive.ensures
