-- `Width::read`: three widths read 32 bits, and the fourth 64.
use mathlib.Core.Path.{refl, ◌∙◌}
use Rattle.layout.proofs.directives.Width.read.Goals as goal

pub returns-in-Byte : goal.returns-in-Byte
returns-in-Byte c = c.widened.ensures ∙ c.parse_imm.ensures ∙ rw c.in-Byte.is refl

pub returns-in-Half : goal.returns-in-Half
returns-in-Half c = c.widened-in-Half.ensures ∙ c.parse_imm-in-Half.ensures ∙ rw c.in-Half.is refl

pub returns-in-Word : goal.returns-in-Word
returns-in-Word c = c.widened-in-Word.ensures ∙ c.parse_imm-in-Word.ensures ∙ rw c.in-Word.is refl

pub returns-in-Dword : goal.returns-in-Dword
returns-in-Dword c = c.parse_imm64.ensures ∙ rw c.in-Dword.is refl
