-- `digits::parse_digits`: no digits are none, and few or many have one value.
use mathlib.Core.Path.{refl, ◌∙◌}
use Rattle.numbers.proofs.Values.{digits_none, digits_start}
use Rattle.numbers.proofs.digits.parse_digits.Goals as goal

pub returns-then-s-eq0 : goal.returns-then-s-eq0
returns-then-s-eq0 c = rw (digits_none _ _ _ c.if-s-eq0.true) refl

pub returns-then-s-le15 : goal.returns-then-s-le15
returns-then-s-le15 c = c.short_digits.ensures ∙ digits_start _ _ _ c.if-s-eq0.false

pub returns : goal.returns
returns c = c.long_digits.ensures ∙ digits_start _ _ _ c.if-s-eq0.false
