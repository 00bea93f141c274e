-- `ints::checked_sign`: a minus negates, and without one the number is one of 64 signed bits already.
use mathlib.Core.Path.{refl}
use mir.Facts.{to_z-of_z}
use Rattle.numbers.proofs.Integers.{fit_some}
use Rattle.numbers.proofs.ints.checked_sign.Goals as goal

pub returns-then-minus : goal.returns-then-minus
returns-then-minus c = rw (c.if-minus.true, c.checked_neg.ensures, to_z-of_z c.ranges.v) refl

pub returns : goal.returns
returns c = rw (c.if-minus.false, to_z-of_z c.ranges.v, fit_some _ c.ranges.v) refl
