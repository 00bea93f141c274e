-- `pieces::trim_part`: the white space at the start lies within the part, so the sum fits.
use mathlib.Core.Path.{refl}
use native.Mathlib.Omega.{arith}
use Rattle.numbers.specs.Code.Spans.{trim_span}
use Rattle.numbers.proofs.Trims.{span_start}
use Rattle.layout.proofs.SpanLaws.{spanned_size}
use Rattle.layout.proofs.pieces.trim_part.Goals as goal

pub overflow_add-result : goal.overflow_add-result
overflow_add-result c =
    let h = rw c.span_bytes.ensures at (span_start _ _ c.trim_span-inner.ensures) in
    omega (arith, spanned_size c.args.text.now c.args.part)

pub returns : goal.returns
unfolding trim_span
returns c = rw (c.trim_span-inner.ensures, c.span_bytes.ensures) refl
