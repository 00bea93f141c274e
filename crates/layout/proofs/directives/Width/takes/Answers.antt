-- `Width::takes`: each width's own range.
use mir.Facts.{to_z-of_z}
use Rattle.layout.proofs.directives.Width.takes.Goals as goal

pub returns-in-Byte : goal.returns-in-Byte
returns-in-Byte c = rw c.in-Byte.is (rw (to_z-of_z c.ranges.v) at c.in_byte.ensures)

pub returns-in-Half : goal.returns-in-Half
returns-in-Half c = rw c.in-Half.is (rw (to_z-of_z c.ranges.v) at c.in_half.ensures)
