-- `little_endian::put_number`: one byte, four, or a loop whose invariant says that the low i bytes are stored, and that what is left is v without them.
use mathlib.Core.Path.{◌≡◌, refl, sym, ◌∙◌}
use native.Mathlib.Nat.{div-one}
use native.Mathlib.Omega.{arith}
use lib.ListN.{length-set}
use Rattle.layout.specs.Bytes.{little_endian}
use Rattle.layout.proofs.ByteLaws.{stored_one, stored_four, stored_more, left_more}
use Rattle.layout.proofs.little_endian.put_number.Goals as goal

pub returns-then-width-eq1 : goal.returns-then-width-eq1
returns-then-width-eq1 c = rw c.if-width-eq1.true (stored_one c.args.v c.args.dst.now (omega (arith, c.if-width-eq1.true, c.requires)))

pub returns-then-width-eq4 : goal.returns-then-width-eq4
returns-then-width-eq4 c = rw c.if-width-eq4.true (c.put_u32.ensures ∙ stored_four c.args.v c.args.dst.now)

pub loop-i-init : goal.loop-i-init
unfolding little_endian
loop-i-init c = (refl, sym (div-one _), refl)

pub loop-i-preserved : goal.loop-i-preserved
loop-i-preserved c =
    let a = c.args in (
      simp length-set c.loop-i.invariant.0,
      left_more a.v c.loop-i.i c.loop-i.left c.loop-i.invariant.1,
      rw c.loop-i.invariant.2 (stored_more a.v c.loop-i.i c.loop-i.left a.dst.now c.loop-i.invariant.1 (omega arith)),
    )

pub returns : goal.returns
returns c =
    let e : c.loop-i.i ≡ c.args.width = omega (arith, c.loop-i-test.false, c.loop-i.auto.i-end) in
    rw (← e) c.loop-i.invariant.2
