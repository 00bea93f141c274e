-- `table::row_is`: each answer is that of a law on rows.
use mathlib.Core.Path.{sym, ◌∙◌}
use Rattle.numbers.proofs.Rows.{row_unlike, row_like, row_long}
use Rattle.numbers.proofs.table.row_is.Goals as goal

pub returns-then-table-at-ne32 : goal.returns-then-table-at-ne32
returns-then-table-at-ne32 c = sym (row_unlike _ _ _ c.requires.0 c.requires.1 c.if-n-lt-ROW.true c.if-table-at-ne32.true)

pub returns-then-n-lt-ROW : goal.returns-then-n-lt-ROW
returns-then-n-lt-ROW c =
    let a = c.args in
    c.same_bytes.ensures ∙ sym (row_like a.table.now a.word.now a.at c.requires.0 c.requires.1 c.if-n-lt-ROW.true c.if-table-at-ne32.false)

pub returns : goal.returns
returns c =
    let a = c.args in
    c.same_bytes-2.ensures ∙ sym (row_long a.table.now a.word.now a.at c.requires.0 c.requires.1 c.if-n-lt-ROW.false)
