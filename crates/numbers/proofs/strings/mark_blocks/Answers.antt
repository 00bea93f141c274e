-- `strings::mark_blocks`: neither a quote nor a backslash stands before i, which is whole blocks away.
use native.Mathlib.Omega.{arith}
use lib.ListN.{drop}
use borrow.Author.Tests.{ltb-true, ltb-false}
use Rattle.numbers.specs.Code.Strings.{plain_len}
use Rattle.numbers.proofs.QuoteLaws.{plain_on, plain-within, plain_below}
use Rattle.numbers.proofs.strings.mark_blocks.Goals as goal

pub returns-then-in_sixteen : goal.returns-then-in_sixteen
returns-then-in_sixteen c =
    let a = c.args in
    let here = plain_len (drop c.loop-i.i a.s.now) in
    let below = rw (c.in_sixteen-in-loop-i.ensures, c.in_sixteen.ensures, plain_below 16 (drop c.loop-i.i a.s.now)) at c.if-in_sixteen.true in
    omega (arith, plain_on a.s.now a.at c.loop-i.i c.loop-i.invariant.1 c.loop-i.invariant.3, ltb-true here 16 below)

pub loop-i-preserved : goal.loop-i-preserved
loop-i-preserved c =
    let a = c.args in
    let here = plain_len (drop c.loop-i.i a.s.now) in
    let below = rw (c.in_sixteen-in-loop-i.ensures, c.in_sixteen.ensures, plain_below 16 (drop c.loop-i.i a.s.now)) at c.if-in_sixteen.false in
    omega (arith, plain_on a.s.now a.at c.loop-i.i c.loop-i.invariant.1 c.loop-i.invariant.3, ltb-false here 16 below)

pub returns : goal.returns
returns c =
    let a = c.args in
    omega (arith, plain-within a.s.now a.at c.requires)
