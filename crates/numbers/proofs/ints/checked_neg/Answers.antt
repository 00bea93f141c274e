-- `ints::checked_neg`: the library's answer is a negation that fits.
use mir.Facts.{to_z-of_z}
use Rattle.numbers.proofs.Integers.{fit_is}
use Rattle.numbers.proofs.ints.checked_neg.Goals as goal

pub returns : goal.returns
returns c = fit_is _ _ (rw (to_z-of_z c.ranges.v) at c.checked_neg.ensures)
