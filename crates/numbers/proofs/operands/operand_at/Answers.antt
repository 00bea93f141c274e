-- `operands::operand_at`: the definition makes the code's steps; the comma's place lies within the text, so the sums fit.
use mathlib.Core.Path.{refl, sym}
use native.Mathlib.Numerals.{add-one}
use lib.ListN.{length-take, length-drop}
use lib.Seq.{length-take-le}
use borrow.Author.Tests.{le-leb, lt-leb}
use Rattle.numbers.specs.Text.{byte, before}
use Rattle.numbers.specs.Code.Spans.{trim_span}
use Rattle.numbers.specs.Code.Cursors.{operand_at}
use Rattle.numbers.proofs.Trims.{tail, span_start}
use Rattle.numbers.proofs.Places.{index_within, find_within}
use borrow.Author.Rules.{rules}
use Rattle.numbers.proofs.operands.operand_at.Goals as goal

pub returns-then-s-at : goal.returns-then-s-at
unfolding operand_at
returns-then-s-at c = rw (lt-leb _ _ c.if-s-at.true) refl

pub slice_bounds-trim_span-end : goal.slice_bounds-trim_span-end
slice_bounds-trim_span-end c = sym (length-take-le _ _ (rw c.find-end.ensures (index_within _ _)))

pub overflow_add-start : goal.overflow_add-start
overflow_add-start c =
    let h = simp (length-take, length-drop) at (span_start _ _ c.trim_span-part.ensures) in
    search rules

pub overflow_add-result : goal.overflow_add-result
overflow_add-result c =
    let a = c.args in
    let h = find_within (byte ",") a.s.now a.at c.find-end.result (search rules) c.find-end.ensures in
    search rules

pub overflow_add-result-2 : goal.overflow_add-result-2
overflow_add-result-2 c =
    let a = c.args in
    let h = find_within (byte ",") a.s.now a.at c.find-end.result (search rules) c.find-end.ensures in
    search rules

pub returns : goal.returns
unfolding operand_at trim_span before
returns c = rw (le-leb _ _ c.if-s-at.false, c.trim_span-part.ensures, c.find-end.ensures, tail, add-one) refl
