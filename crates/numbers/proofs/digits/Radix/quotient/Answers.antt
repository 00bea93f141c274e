-- `digits::Radix::quotient`: in each arm the base is known.
use mathlib.Core.Path.{refl}
use Rattle.numbers.proofs.digits.Radix.quotient.Goals as goal

pub returns-in-Binary : goal.returns-in-Binary
returns-in-Binary c = rw c.in-Binary.is refl

pub returns-in-Decimal : goal.returns-in-Decimal
returns-in-Decimal c = rw c.in-Decimal.is refl

pub returns-in-Hex : goal.returns-in-Hex
returns-in-Hex c = rw c.in-Hex.is refl
