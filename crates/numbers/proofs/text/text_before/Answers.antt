-- `text::text_before`: the place found lies within the text.
use mathlib.Core.Path.{sym, refl}
use lib.Seq.{length-take-le}
use Rattle.numbers.specs.Text.{before}
use Rattle.numbers.proofs.Places.{index_within}
use Rattle.numbers.proofs.text.text_before.Goals as goal

pub slice_bounds-result-end : goal.slice_bounds-result-end
slice_bounds-result-end c = sym (length-take-le _ _ (rw c.find-end.ensures (index_within _ _)))

pub returns : goal.returns
unfolding before
returns c = rw c.find-end.ensures refl
