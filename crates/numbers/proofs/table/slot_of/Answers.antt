-- `table::slot_of`: a text of fewer than two bytes has slot 0, as the definition says.
use Rattle.numbers.proofs.Rows.{slot_short, slot_long}
use Rattle.numbers.proofs.table.slot_of.Goals as goal

pub returns-then-n-lt2 : goal.returns-then-n-lt2
returns-then-n-lt2 c = slot_short c.args.word.now c.if-n-lt2.true

pub returns : goal.returns
returns c =
    rw (c.wide.ensures.0, c.wide-2.ensures.0, c.wide-3.ensures.0)
    (slot_long c.args.word.now c.if-n-lt2.false)
