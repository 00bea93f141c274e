-- `expansions::operand_address`: an operand without white space is itself what is looked up.
use mathlib.Core.Path.{sym, ◌∙◌}
use Rattle.numbers.proofs.SpacedNumbers.{spaced_plain}
use Rattle.layout.proofs.ExpansionLaws.{no_space}
use Rattle.layout.proofs.expansions.operand_address.Goals as goal

pub returns-then-word_len-operand : goal.returns-then-word_len-operand
returns-then-word_len-operand c =
    let a = c.args in
    let word = sym c.word_len.ensures ∙ c.if-word_len-operand.true in
    λ base σ placed. rw (spaced_plain a.operand.now (no_space a.operand.now word)) (c.address.ensures base σ placed)
