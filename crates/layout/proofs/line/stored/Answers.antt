-- `line::stored`: a string to the line's end, or up to the statement's; anything else as it is.
use native.Mathlib.Omega.{arith}
use borrow.Author.Tests.{le-ltb}
use Rattle.layout.proofs.CutLaws.{cut_end}
use Rattle.layout.proofs.LineLaws.{cut_starts, stored_string}
use borrow.Author.Rules.{rules}
use Rattle.layout.proofs.line.stored.Goals as goal

pub slice_bounds-before-end : goal.slice_bounds-before-end
slice_bounds-before-end c =
    let pre = c.requires in
    let end = cut_end c.args.text.now c.args.cut pre.0 in
    search rules

pub returns : goal.returns
returns c =
    let a = c.args in
    let pre = c.requires in
    let from = cut_starts a.text.now a.cut pre.0 in
    λ q e. rw c.in-Text.is
    (stored_string a.text.now a.cut a.part a.rest _ pre.0 (rw (← c.find.ensures) (le-ltb _ _ c.if-find-before.false))
    (omega (arith, from, pre.1, pre.2)) pre.3 q e)
