-- `line::is_section_line`: what begins with no dot is none; then the definition asks the same four, one after the other.
use mathlib.Core.Path.{sym, ◌∙◌}
use Rattle.layout.proofs.StatementLaws.{undotted_line}
use Rattle.layout.proofs.line.is_section_line.Goals as goal

pub returns-then-not-first_is : goal.returns-then-not-first_is
returns-then-not-first_is c = sym (undotted_line _ (sym c.first_is.ensures ∙ c.if-not-first_is.true))
