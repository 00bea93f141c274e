-- `text::trim`: what stands after the leading white space is the text trimmed at its start, and that is trimmed at its end.
use mathlib.Core.Path.{sym, ◌∙◌}
use native.Mathlib.Omega.{arith}
use lib.Seq.{length-take-le}
use Rattle.numbers.specs.Text.{is_space}
use Rattle.numbers.proofs.Trims.{leading-within, trim_end-within, take-trim_end, trim_steps}
use Rattle.numbers.proofs.text.trim.Goals as goal

pub slice_bounds-t-count : goal.slice_bounds-t-count
slice_bounds-t-count c = omega (arith, c.leading_spaces-start.ensures, leading-within is_space c.args.s.now)

pub slice_bounds-t-start : goal.slice_bounds-t-start
slice_bounds-t-start c = omega (arith, c.leading_spaces-start.ensures, leading-within is_space c.args.s.now)

pub slice_bounds-result-end : goal.slice_bounds-result-end
slice_bounds-result-end c = sym (length-take-le _ _ (rw c.trim_end_len-len.ensures (trim_end-within _)))

pub returns : goal.returns
returns c = rw c.trim_end_len-len.ensures (take-trim_end _ ∙ trim_steps c.args.s.now c.leading_spaces-start.result c.leading_spaces-start.ensures)
