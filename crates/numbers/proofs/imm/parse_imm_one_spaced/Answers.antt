-- `imm::parse_imm_one_spaced`: making runs one space changes no number and no character literal but a quote, white space and a quote.
use mathlib.Core.Path.{sym, ◌∙◌}
use Rattle.numbers.proofs.SpacedNumbers.{quoted_spaced, imm_spaced}
use Rattle.numbers.proofs.imm.parse_imm_one_spaced.Goals as goal

pub returns-then-same_one_spaced : goal.returns-then-same_one_spaced
returns-then-same_one_spaced c = sym (quoted_spaced _ (rw c.trim.ensures at (sym c.same_one_spaced.ensures ∙ c.if-same_one_spaced.true)))

pub returns : goal.returns
returns c =
    c.parse_imm.ensures
    ∙ sym (imm_spaced _ (rw c.trim.ensures at (sym c.same_one_spaced.ensures ∙ c.if-same_one_spaced.false)))
