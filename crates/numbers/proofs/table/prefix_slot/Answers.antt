-- `table::prefix_slot`: the definition's sum.
use Rattle.numbers.proofs.Rows.{start_long}
use Rattle.numbers.proofs.table.prefix_slot.Goals as goal

pub returns : goal.returns
returns c = rw (c.wide.ensures.0, c.wide-2.ensures.0) (start_long c.args.s.now c.requires)
