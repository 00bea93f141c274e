-- `Expression::operator_at`: by the byte that stands after the blanks.
use mathlib.Core.Path.{◌≡◌, refl, sym, ◌∙◌}
use Rattle.std.proofs.Common.{Some, None, Err}
use native.Mathlib.Omega.{arith}
use Rattle.layout.specs.declared.refusal.Refusal.TheVariants.{MalformedExpression}
use Rattle.layout.proofs.TermLaws.{joint_end, joint_sign, joint-other}
use Rattle.layout.proofs.expr.Expression.operator_at.Goals as goal

pub returns-then-s-i : goal.returns-then-s-i
returns-then-s-i c = joint_end _ _ _ _ c.skip_blanks-i.ensures c.if-s-i.true

pub returns-in_err-minus : goal.returns-in_err-minus
returns-in_err-minus c =
    let none : c.sign_of.result ≡ None = grind arith in
    let e : c.from_residual.result ≡ Err MalformedExpression = grind arith in
    rw e (joint-other _ _ _ _ c.skip_blanks-i.ensures c.if-s-i.false (sym c.sign_of.ensures ∙ none), refl)

pub returns : goal.returns
returns c =
    let some : c.sign_of.result ≡ Some c.in_ok-minus.minus = grind arith in
    joint_sign _ _ _ _ c.skip_blanks-i.ensures c.if-s-i.false _ (sym c.sign_of.ensures ∙ some)
