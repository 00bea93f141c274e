-- `strings::nothing_beside`: what stands behind the white space, if anything does.
use mathlib.Core.Path.{sym}
use Rattle.numbers.proofs.QuoteLaws.{beside_end, beside_at}
use Rattle.numbers.proofs.strings.nothing_beside.Goals as goal

pub returns-then-s-n : goal.returns-then-s-n
returns-then-s-n c = sym (beside_end _ _ c.leading_spaces-n.ensures c.if-s-n.true)

pub returns : goal.returns
returns c = sym (beside_at _ _ c.leading_spaces-n.ensures c.if-s-n.false)
