-- `scan::blocks_from`: none of the five bytes stands before i, which is whole blocks away.
use mathlib.Core.Path.{sym, ◌∙◌}
use native.Mathlib.Omega.{arith}
use lib.ListN.{drop, length-drop}
use borrow.Author.Tests.{ltb-true, ltb-false}
use Rattle.layout.specs.Bytes.{count_before}
use Rattle.layout.specs.Code.Cuts.{is_cut}
use Rattle.layout.proofs.SpanLaws.{count_on, count_within}
use Rattle.layout.proofs.scan.blocks_from.Goals as goal

pub returns-then-cut_in_sixteen : goal.returns-then-cut_in_sixteen
returns-then-cut_in_sixteen c =
    let a = c.args in
    let v = c.loop-i.invariant in
    let here = count_before is_cut (drop c.loop-i.i a.text.now) in
    omega (arith, count_on is_cut a.text.now a.at c.loop-i.i v.1 v.3, ltb-true here 16 (sym c.cut_in_sixteen.ensures ∙ c.if-cut_in_sixteen.true))

pub loop-i-preserved : goal.loop-i-preserved
loop-i-preserved c =
    let a = c.args in
    let v = c.loop-i.invariant in
    let here = count_before is_cut (drop c.loop-i.i a.text.now) in
    omega (arith, count_on is_cut a.text.now a.at c.loop-i.i v.1 v.3, ltb-false here 16 (sym c.cut_in_sixteen.ensures ∙ c.if-cut_in_sixteen.false))

pub returns : goal.returns
returns c =
    let a = c.args in
    omega (arith, count_within is_cut (drop a.at a.text.now), length-drop a.at a.text.now)
