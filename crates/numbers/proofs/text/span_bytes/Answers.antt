-- `text::span_bytes`: past the text's end a span has no bytes, and across it those that are there.
use mathlib.Core.Path.{sym}
use lib.Seq.{length-take-le}
use Rattle.numbers.specs.Code.Spans.{spanned}
use Rattle.numbers.proofs.Trims.{tail, span_past, span_rest}
use borrow.Author.Rules.{rules}
use Rattle.numbers.proofs.text.span_bytes.Goals as goal

pub returns-then-s-start : goal.returns-then-s-start
returns-then-s-start c = sym (span_past _ _ c.if-s-start.true)

pub returns-then-t-len : goal.returns-then-t-len
returns-then-t-len c =
    let a = c.args in
    rw tail (sym (span_rest a.s.now a.span (rw tail at c.if-t-len.true)))

pub slice_bounds-result-end-2 : goal.slice_bounds-result-end-2
slice_bounds-result-end-2 c = sym (length-take-le _ _ (search rules))

pub returns : goal.returns
unfolding spanned
returns c = simp tail
