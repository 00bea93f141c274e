-- `text::trim_span_from`: what stands after the leading white space is the text trimmed at its start, and that is trimmed at its end.
use mathlib.Core.Path.{refl}
use native.Mathlib.Omega.{arith}
use Rattle.numbers.specs.Text.{is_space}
use Rattle.numbers.specs.Code.Spans.{trim_span}
use Rattle.numbers.proofs.Trims.{leading-within, trim_steps}
use Rattle.numbers.proofs.text.trim_span_from.Goals as goal

pub slice_bounds-trim_end_len-count : goal.slice_bounds-trim_end_len-count
slice_bounds-trim_end_len-count c = omega (arith, c.requires, leading-within is_space c.args.s.now)

pub slice_bounds-trim_end_len-start : goal.slice_bounds-trim_end_len-start
slice_bounds-trim_end_len-start c = omega (arith, c.requires, leading-within is_space c.args.s.now)

pub returns : goal.returns
unfolding trim_span
returns c = rw (c.trim_end_len-len.ensures, trim_steps c.args.s.now c.args.start c.requires, c.requires) refl
