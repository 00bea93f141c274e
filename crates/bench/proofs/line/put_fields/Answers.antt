-- `line::put_fields`: the invariant says that what is written, with the fields to come, is all of them.
use native.Mathlib.Omega.{arith}
use Rattle.layout.proofs.ByteLaws.{length_mid}
use Rattle.bench.proofs.WriteLaws.{part_within}
use Rattle.bench.proofs.FieldLaws.{filled_none, filled_more, filled_end}
use Rattle.bench.proofs.line.put_fields.Goals as goal

pub loop-n-init : goal.loop-n-init
loop-n-init c = filled_none _ _ c.requires

pub put_field-at-requires : goal.put_field-at-requires
put_field-at-requires c = omega (arith, length_mid c.loop-n.at c.loop-n.dst)

pub overflow_add-at : goal.overflow_add-at
overflow_add-at c = omega (arith, part_within _ c.loop-n.dst _ c.loop-n.at _ c.put_field-at.ensures c.put_field-at.auto.dst (omega arith))

pub loop-n-preserved : goal.loop-n-preserved
loop-n-preserved c = filled_more _ _ _ _ c.loop-n.at c.loop-n.n-index _ c.loop-n.invariant (omega arith) (c.type_inv.numbers c.loop-n.n-index).fits c.put_field-at.ensures

pub returns : goal.returns
returns c = filled_end _ _ _ _ _ c.loop-n.invariant c.loop-n-test.false
