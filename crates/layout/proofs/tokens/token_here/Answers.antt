-- `tokens::token_here`: the end, a sign, or an operand.
use mathlib.Core.Path.{sym, ap, ◌∙◌}
use Rattle.std.proofs.Common.{Some}
use Rattle.layout.proofs.TokenLaws.{plus_stands, minus_stands}
use Rattle.layout.proofs.tokens.token_here.Goals as goal

pub returns-in-Some-true : goal.returns-in-Some-true
returns-in-Some-true c =
    let w = c.in-Some-true in
    minus_stands c.args.s.now c.args.at c.if-s-at.false (sym c.sign_of.ensures ∙ w.is ∙ ap Some w.field-0-test)

pub returns-in-Some-false : goal.returns-in-Some-false
returns-in-Some-false c =
    let w = c.in-Some-false in
    plus_stands c.args.s.now c.args.at c.if-s-at.false (sym c.sign_of.ensures ∙ w.is ∙ ap Some w.field-0-test)
