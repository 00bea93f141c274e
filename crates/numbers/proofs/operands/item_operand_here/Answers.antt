-- `operands::item_operand_here`: the definition makes the code's steps; the comma's place lies within the text, so the sums fit.
use mathlib.Core.Path.{refl, sym}
use native.Mathlib.Numerals.{add-one}
use lib.Seq.{length-take-le}
use borrow.Author.Tests.{le-leb, lt-leb}
use Rattle.numbers.specs.Text.{byte, before}
use Rattle.numbers.specs.Code.Cursors.{item_operand_here}
use Rattle.numbers.proofs.Trims.{tail}
use Rattle.numbers.proofs.Places.{index_within, find_within}
use borrow.Author.Rules.{rules}
use Rattle.numbers.proofs.operands.item_operand_here.Goals as goal

pub returns-then-s-at : goal.returns-then-s-at
unfolding item_operand_here
returns-then-s-at c = rw (le-leb _ _ c.if-s-at.true) refl

pub slice_bounds-trim_end_len-end : goal.slice_bounds-trim_end_len-end
slice_bounds-trim_end_len-end c = sym (length-take-le _ _ (rw c.find-end.ensures (index_within _ _)))

pub overflow_add-result : goal.overflow_add-result
overflow_add-result c =
    let a = c.args in
    let h = find_within (byte ",") a.s.now a.at c.find-end.result (search rules) c.find-end.ensures in
    search rules

pub overflow_add-result-2 : goal.overflow_add-result-2
overflow_add-result-2 c =
    let a = c.args in
    let h = find_within (byte ",") a.s.now a.at c.find-end.result (search rules) c.find-end.ensures in
    search rules

pub returns : goal.returns
unfolding item_operand_here before
returns c = rw (lt-leb _ _ c.if-s-at.false, c.trim_end_len-len.ensures, c.find-end.ensures, tail, add-one) refl
