-- `tokens::operand_here`: the definition makes the code's tests in the code's order; a law for each answer.
use mathlib.Core.Path.{sym, ◌∙◌}
use borrow.Author.Rules.{rules}
use Rattle.layout.specs.Expressions.{is_name_byte, is_number_byte}
use Rattle.layout.proofs.TokenLaws.{number_stands, other_stands, dot_stands, name_stands}
use Rattle.layout.proofs.tokens.operand_here.Goals as goal

pub returns-then-is_digit : goal.returns-then-is_digit
returns-then-is_digit c =
    number_stands c.args.s.now c.args.at c.requires.0 (sym c.is_digit.ensures ∙ c.if-is_digit.true) c.leading_from-end.result (c.leading_from-end.ensures.value is_number_byte (λ x b k. search rules))
    c.number_token.result c.number_token.ensures

pub returns-then-not-is_name_byte : goal.returns-then-not-is_name_byte
returns-then-not-is_name_byte c =
    other_stands c.args.s.now c.args.at c.requires.0 c.requires.1 (sym c.is_digit.ensures ∙ c.if-is_digit.false)
    (sym c.is_name_byte.ensures ∙ c.if-not-is_name_byte.true)

pub returns-then-b-len : goal.returns-then-b-len
returns-then-b-len c =
    dot_stands c.args.s.now c.args.at c.requires.0 c.requires.1 (sym c.is_digit.ensures ∙ c.if-is_digit.false)
    (sym c.is_name_byte.ensures ∙ c.if-not-is_name_byte.false) c.leading_from-end-2.result (c.leading_from-end-2.ensures.value is_name_byte (λ x b k. search rules)) c.if-b-len.true

pub returns : goal.returns
returns c =
    name_stands c.args.s.now c.args.at c.requires.0 c.requires.1 (sym c.is_digit.ensures ∙ c.if-is_digit.false)
    (sym c.is_name_byte.ensures ∙ c.if-not-is_name_byte.false) c.leading_from-end-2.result (c.leading_from-end-2.ensures.value is_name_byte (λ x b k. search rules)) c.if-b-len.false
