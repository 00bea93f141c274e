-- `scan::end_from`: the LF stands here, or is found from here on.
use mathlib.Core.Path.{refl}
use native.Mathlib.Omega.{arith}
use borrow.Author.Rules.{rules}
use Rattle.numbers.proofs.Places.{find_stop, find_end, find_within}
use Rattle.numbers.proofs.Trims.{tail}
use Rattle.layout.proofs.scan.end_from.Goals as goal

pub returns-then-text-stop : goal.returns-then-text-stop
returns-then-text-stop c =
    let a = c.args in
    omega (arith, find_end 10 a.text.now a.stop c.if-text-stop.true)

pub returns-then-text-stop-eq10 : goal.returns-then-text-stop-eq10
returns-then-text-stop-eq10 c =
    let a = c.args in
    omega (arith, find_stop 10 a.text.now a.stop (search rules) c.if-text-stop-eq10.true)

pub overflow_add-result : goal.overflow_add-result
overflow_add-result c =
    let h = find_within 10 c.args.text.now c.args.stop c.find_far.result c.requires c.find_far.ensures in
    search rules

pub returns : goal.returns
returns c = rw (c.find_far.ensures, tail) refl
