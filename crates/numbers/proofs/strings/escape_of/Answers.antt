-- `strings::escape_of`: the definition makes the same test.
use mathlib.Core.Path.{refl, ◌∙◌}
use Rattle.numbers.specs.Strings.{escape_of}
use Rattle.numbers.proofs.strings.escape_of.Goals as goal

pub returns-then-is_digit : goal.returns-then-is_digit
unfolding escape_of
returns-then-is_digit c = c.octal_of.ensures ∙ rw (← c.byte_at-b.ensures, ← c.is_digit.ensures, c.if-is_digit.true) refl

pub returns : goal.returns
unfolding escape_of
returns c = c.simple_escape.ensures ∙ rw (← c.byte_at-b.ensures, ← c.is_digit.ensures, c.if-is_digit.false) refl
