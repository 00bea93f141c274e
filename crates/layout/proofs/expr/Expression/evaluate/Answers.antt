-- `Expression::evaluate`: a value has read every token; else unreadable tokens come first, then the sum.
use mathlib.Core.Path.{◌≡◌, sym, ap, ◌∙◌}
use Rattle.std.proofs.Common.{Ok}
use Rattle.layout.specs.declared.expr.Evaluated.TheVariants.{Value}
use Rattle.layout.proofs.TermLaws.{evaluates_value, evaluates_unreadable, evaluates_sum}
use Rattle.layout.proofs.expr.Expression.evaluate.Goals as goal

pub returns-in-Ok-Value : goal.returns-in-Ok-Value
returns-in-Ok-Value c =
    let w = c.in-Ok-Value in
    let e : c.sum_terms-answer.result ≡ Ok (Value w.field-0-0) = w.is ∙ ap Ok (rw w.is at w.field-0-is) in
    λ names n. rw e (evaluates_value _ _ _ _ _ (rw e at (c.sum_terms-answer.ensures names n)))

pub returns-then-any_unreadable : goal.returns-then-any_unreadable
returns-then-any_unreadable c = λ names n. evaluates_unreadable _ _ _ _ (sym c.any_unreadable.ensures ∙ c.if-any_unreadable.true)

pub returns : goal.returns
returns c = λ names n. evaluates_sum _ _ _ _ _ (sym c.any_unreadable.ensures ∙ c.if-any_unreadable.false) (c.sum_terms-answer.ensures names n)
