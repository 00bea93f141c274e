-- `Expression::joint_at`: at the start as if behind a `+`, else what stands there.
use Rattle.layout.proofs.TermLaws.{joint-first, joint_behind}
use Rattle.layout.proofs.expr.Expression.joint_at.Goals as goal

pub returns-then-at-eq0 : goal.returns-then-at-eq0
returns-then-at-eq0 c = joint-first _ _ _ c.if-at-eq0.true

pub returns : goal.returns
returns c = joint_behind _ _ _ c.if-at-eq0.false _ c.operator_at.ensures
