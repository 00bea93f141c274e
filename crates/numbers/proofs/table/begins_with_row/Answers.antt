-- `table::begins_with_row`: the invariant says that what is left of the text begins with what is left of the name where the whole text
-- begins with the whole name.
use mathlib.Core.Path.{sym, ◌∙◌}
use Rattle.numbers.proofs.Rows.{name_over, text_over, byte-other, row-byte-same, row_over}
use borrow.Author.Rules.{rules}
use Rattle.numbers.proofs.table.begins_with_row.Goals as goal

pub returns-then-b-eq32 : goal.returns-then-b-eq32
returns-then-b-eq32 c = sym (c.loop-i.invariant.1 ∙ name_over c.args.table.now c.args.s.now c.args.at c.loop-i.i c.requires c.loop-i-test.true c.if-b-eq32.true)

pub returns-then-s-i : goal.returns-then-s-i
returns-then-s-i c = sym (c.loop-i.invariant.1 ∙ text_over c.args.table.now c.args.s.now c.args.at c.loop-i.i c.requires c.loop-i-test.true c.if-b-eq32.false c.if-s-i.true)

pub returns-then-s-i-2 : goal.returns-then-s-i-2
returns-then-s-i-2 c = sym (c.loop-i.invariant.1 ∙ byte-other c.args.table.now c.args.s.now c.args.at c.loop-i.i c.requires c.loop-i-test.true c.if-b-eq32.false c.if-s-i.false c.if-s-i-2.true)

pub loop-i-preserved : goal.loop-i-preserved
loop-i-preserved c = (search rules, c.loop-i.invariant.1 ∙ row-byte-same c.args.table.now c.args.s.now c.args.at c.loop-i.i c.requires c.loop-i-test.true c.if-b-eq32.false c.if-s-i.false c.if-s-i-2.false)

pub returns : goal.returns
returns c = sym (c.loop-i.invariant.1 ∙ row_over c.args.table.now c.args.s.now c.args.at c.loop-i.i c.requires c.loop-i-test.false)
