-- `line::begins_string`: the rows of the three names are the strings'.
use Rattle.layout.proofs.StringLaws.{begins_row}
use Rattle.layout.proofs.line.begins_string.Goals as goal

pub returns : goal.returns
returns c = rw (c.starts_with.ensures, c.starts_with-2.ensures, c.starts_with-3.ensures) (begins_row _)
