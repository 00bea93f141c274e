-- `data::operand_write`: a number, or a name.
use mir.Syntax.{w64}
use mir.Val.{SFits}
use mir.Facts.{to_z-of_z}
use borrow.Author.Rules.{rules}
use Rattle.numbers.specs.Code.Spans.{spanned}
use Rattle.layout.proofs.data.operand_write.Goals as goal

pub returns : goal.returns
returns c =
    let f : SFits w64 c.in-Some.v = search rules in
    let value = rw (c.span_bytes.ensures, c.in-Some.is) at c.read.ensures in
    rw (← value) (rw (to_z-of_z f) at (c.number_write.ensures c.args.text.now (spanned c.args.text.now c.args.operand)))
