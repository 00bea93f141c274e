-- `line::is_bare`: a string directive, and a quote among the bytes before the colon.
use mathlib.Core.Path.{sym, ◌∙◌}
use Rattle.layout.proofs.LineLaws.{string_bare}
use Rattle.layout.proofs.line.is_bare.Goals as goal

pub returns : goal.returns
returns c =
    rw c.in-Data.is
    (string_bare _ _ c.requires.0 (sym c.begins_string.ensures ∙ c.if-not-begins_string.false) _ c.find.ensures)
