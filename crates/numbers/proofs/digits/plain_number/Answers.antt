-- `digits::plain_number`: few decimal digits alone are the number.
use Prim.Native.Nat.{◌-◌, ◌^◌, ◌≤◌}
use mathlib.Core.Path.{◌≡◌, sym, ◌∙◌, ap}
use Rattle.std.proofs.Common.{Some}
use native.Mathlib.Omega.{arith}
use mir.Syntax.{w64}
use mir.Facts.{to_z_pos}
use Rattle.numbers.specs.Numbers.{digits_from, positive_of}
use Rattle.numbers.proofs.Values.{digits_start, digits_within}
use Rattle.numbers.proofs.Shorts.{plain-none, plain_few, plain-some}
use Rattle.numbers.proofs.digits.plain_number.Goals as goal
use Rattle.numbers.proofs.digits.plain_number.Goals.{In_ok-n}

pub returns-then-s : goal.returns-then-s
returns-then-s c = sym (plain-none c.args.s.now c.if-s.true)

pub short_digits-requires : goal.short_digits-requires
short_digits-requires c = (plain_few c.args.s.now c.if-s.false).1

-- what was read
reads : (c : In_ok-n) → let s = c.args.s.now in
    digits_from 10 (2 ^ 63 - 1) 0 s ≡ Some c.in_ok-n.n
reads c =
    sym c.short_digits.ensures ∙ c.in_ok-n.was

-- is within its limit
small : (c : In_ok-n) → c.in_ok-n.n ≤ 9223372036854775807
small c =
    digits_within _ _ _ _ (sym (digits_start _ _ _ (plain_few c.args.s.now c.if-s.false).0) ∙ reads c)

pub overflow_cast-result : goal.overflow_cast-result
overflow_cast-result c = omega (arith, small c)

pub returns : goal.returns
returns c =
    rw (to_z_pos w64 {n = c.in_ok-n.n} (omega (arith, small c)))
    (sym (ap positive_of (reads c)) ∙ plain-some _ c.if-s.false)

pub returns-in_err-n : goal.returns-in_err-n
returns-in_err-n c = c.from_residual.ensures ∙ ap positive_of (sym c.in_err-n.was ∙ c.short_digits.ensures) ∙ plain-some _ c.if-s.false
