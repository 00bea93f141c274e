-- `pseudo::kind_of`: a line that begins otherwise than every name is ordinary.
use mathlib.Core.Path.{sym, ap, ◌∙◌}
use Rattle.layout.specs.Pseudos.{spellings}
use Rattle.layout.specs.Code.Kinds.{text_line_code}
use Rattle.layout.proofs.PseudoLaws.{spellings_begun, other-first}
use Rattle.layout.proofs.pseudo.kind_of.Goals as goal

pub returns-then-not-begins_as_pseudo : goal.returns-then-not-begins_as_pseudo
returns-then-not-begins_as_pseudo c =
    sym (ap text_line_code (other-first spellings c.args.s.now spellings_begun (sym c.begins_as_pseudo.ensures ∙ c.if-not-begins_as_pseudo.true)))
