-- `field::decode`: what is written so far, and the bytes of what is left of the field, are the field's bytes.
use Rattle.std.proofs.Common.{◌≤◌, refl, ◌∙◌, arith, length-set, rules}
use Rattle.replay.specs.Fields.{decoded}
use Rattle.replay.proofs.Decoded.{width_within, decoded-step, store_one, full, ended}
use Rattle.replay.proofs.field.decode.Goals as goal

pub loop-i-init : goal.loop-i-init
loop-i-init c = (search rules, refl, refl)

pub returns-then-out-n-clause-out_after : goal.returns-then-out-n-clause-out_after
returns-then-out-n-clause-out_after c =
    rw (← c.loop-i.invariant.1)
    (full c.loop-i.out (decoded c.args.field.now) _ c.loop-i.n c.loop-i.invariant.0 c.if-out-n.true c.loop-i.invariant.2)

pub overflow_add-i : goal.overflow_add-i
overflow_add-i c =
    let h : (1 ≤ c.written_first-first.result.width) × (c.written_first-first.result.width ≤ 3) =
    width_within c.args.field.now c.loop-i.i c.written_first-first.result c.written_first-first.ensures in
    search rules

pub loop-i-smaller : goal.loop-i-smaller
loop-i-smaller c =
    let h : (1 ≤ c.written_first-first.result.width) × (c.written_first-first.result.width ≤ 3) =
    width_within c.args.field.now c.loop-i.i c.written_first-first.result c.written_first-first.ensures in
    search rules

pub loop-i-preserved : goal.loop-i-preserved
loop-i-preserved c =
    let field = c.args.field.now in
    let step = decoded-step field c.loop-i.i c.written_first-first.result c.written_first-first.ensures c.loop-i-test.true in (
      simp length-set (omega arith),
      length-set c.loop-i.out c.loop-i.n _ ∙ c.loop-i.invariant.1,
      store_one c.loop-i.out c.loop-i.n _ _ (search rules) ∙ (rw (← step) c.loop-i.invariant.2),
    )

pub returns-clause-out_after : goal.returns-clause-out_after
returns-clause-out_after c =
    let a = c.args in
    rw (← c.loop-i.invariant.1)
    (ended c.loop-i.out (decoded a.field.now) a.field.now c.loop-i.i c.loop-i.n c.loop-i.invariant.0 c.loop-i-test.false c.loop-i.invariant.2)
