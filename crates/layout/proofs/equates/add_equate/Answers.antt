-- `equates::add_equate`: 46, or the record after those that are there, and the expression after its own.
use Rattle.layout.proofs.EquateLaws.{equate_stops, equate_goes}
use Rattle.layout.proofs.equates.add_equate.Goals as goal

pub returns-then-room-count : goal.returns-then-room-count
returns-then-room-count c = equate_stops _ _ _ _ _ c.args.equates.now c.args.exprs.now _ c.if-room-count.true

pub returns : goal.returns
returns c =
    let a = c.args in
    equate_goes _ _ _ _ _ _ _ a.place a.line a.parts c.requires.1 c.requires.2.1 c.requires.3 c.requires.4 c.if-room-count.false
    c.put.ensures (rw c.code.ensures at c.put-2.ensures)
