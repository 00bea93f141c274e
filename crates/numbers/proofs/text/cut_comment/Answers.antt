-- `text::cut_comment`: the definition makes the code's two cuts.
use mathlib.Core.Path.{refl}
use Rattle.numbers.specs.Text.{uncommented}
use Rattle.numbers.proofs.text.cut_comment.Goals as goal

pub returns : goal.returns
unfolding uncommented
returns c = rw (c.text_before.ensures, c.text_before-t.ensures) refl
