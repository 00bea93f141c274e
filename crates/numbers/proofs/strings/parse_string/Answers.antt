-- `strings::parse_string`: the byte behind the white space is a quote or not.
use mathlib.Core.Path.{◌≡◌, sym, ◌∙◌}
use lib.ListN.{get_or}
use Rattle.numbers.proofs.QuoteLaws.{opened_not, opened_inside, opened_at}
use borrow.Author.Rules.{rules}
use Rattle.numbers.proofs.strings.parse_string.Goals as goal
use Rattle.numbers.proofs.strings.parse_string.Goals.{Else-byte_at-ne34}

pub returns-then-byte_at-ne34 : goal.returns-then-byte_at-ne34
returns-then-byte_at-ne34 c = opened_not _ _ c.leading_spaces-start.ensures (λ e. c.if-byte_at-ne34.true (c.byte_at.ensures ∙ e))

-- a quote
quote : (d : Else-byte_at-ne34) → get_or d.args.s.now d.leading_spaces-start.result 0 ≡ 34
quote d = sym d.byte_at.ensures ∙ d.if-byte_at-ne34.false

pub quoted_from-requires : goal.quoted_from-requires
quoted_from-requires c = opened_inside _ _ c.leading_spaces-start.ensures (quote c)

pub overflow_add-start : goal.overflow_add-start
overflow_add-start c = let h = opened_inside _ _ c.leading_spaces-start.ensures (quote c) in search rules

pub returns : goal.returns
returns c = c.quoted_from.ensures ∙ opened_at _ _ c.leading_spaces-start.ensures (quote (goal.at.returns c).Else-byte_at-ne34)
