-- `data::readings_of`: each source's own reading, or the width of its numbers.
use mathlib.Core.Path.{refl}
use Rattle.layout.proofs.ReadingLaws.{numbers_all}
use Rattle.layout.proofs.data.readings_of.Goals as goal

pub returns-in-Numbers : goal.returns-in-Numbers
returns-in-Numbers c = rw (c.in-Stores.is, c.in-Numbers.is) (numbers_all c.in-Numbers.width _, tt)

pub returns-in-Reserves : goal.returns-in-Reserves
returns-in-Reserves c =
    let reserved = c.reservation_of.ensures in
    let read = c.gap_of.ensures c.args.text.now in
    rw c.in-Reserves.is (rw (read.0, reserved.0, c.span_bytes.ensures) refl, read.1 reserved.1)
