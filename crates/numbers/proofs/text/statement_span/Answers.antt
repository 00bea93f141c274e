-- `text::statement_span`: the definition is the code's two steps.
use mathlib.Core.Path.{refl}
use Rattle.numbers.proofs.text.statement_span.Goals as goal

pub returns : goal.returns
returns c = rw (c.trim_span.ensures, c.cut_comment.ensures) refl
