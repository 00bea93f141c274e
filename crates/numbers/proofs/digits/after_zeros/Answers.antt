-- `digits::after_zeros`: what was passed is a multiple of fifteen and leaves a zero.
use Prim.Native.Nat.{◌+◌, ◌-◌}
use mathlib.Core.Path.{◌≡◌, sym, ◌∙◌}
use native.Mathlib.Omega.{arith}
use lib.ListN.{drop, length-drop}
use borrow.Author.Rules.{rules}
use borrow.Author.Tests.{leb-true, leb-false}
use Rattle.numbers.specs.Code.Starts.{is_zero, leading_zeros}
use Rattle.numbers.proofs.Trims.{leading_between, leading-within, leading_end}
use Rattle.numbers.proofs.digits.after_zeros.Goals as goal
use Rattle.numbers.proofs.digits.after_zeros.Goals.{At-loop-i}

-- how many zeros are left
left : (c : At-loop-i) → let a = c.args in
    c.loop-i.i - a.at + leading_zeros (drop c.loop-i.i a.s.now) ≡ leading_zeros (drop a.at a.s.now)
left c =
    let a = c.args in
    leading_between is_zero a.s.now a.at c.loop-i.i c.loop-i.invariant.0 (omega (arith, c.loop-i.invariant.2))

pub returns-then-s-i-lt16 : goal.returns-then-s-i-lt16
returns-then-s-i-lt16 c =
    let a = c.args in
    omega (arith, left (goal.at.returns-then-s-i-lt16 c).At-loop-i, leading-within is_zero (drop c.loop-i.i a.s.now), length-drop c.loop-i.i a.s.now)

pub returns-then-not-all_in_sixteen : goal.returns-then-not-all_in_sixteen
returns-then-not-all_in_sixteen c =
    let here = leading_zeros (drop c.loop-i.i c.args.s.now) in
    omega (arith, left (goal.at.returns-then-not-all_in_sixteen c).At-loop-i, leb-false 16 here (sym (c.all_in_sixteen.ensures is_zero (λ x b p. search rules)) ∙ c.if-not-all_in_sixteen.true))

pub loop-i-preserved : goal.loop-i-preserved
loop-i-preserved c =
    let here = leading_zeros (drop c.loop-i.i c.args.s.now) in
    omega (arith, left (goal.at.loop-i-preserved c).At-loop-i, leb-true 16 here (sym (c.all_in_sixteen.ensures is_zero (λ x b p. search rules)) ∙ c.if-not-all_in_sixteen.false))

pub returns : goal.returns
returns c = omega (arith, left (goal.at.returns c).At-loop-i, leading_end is_zero c.args.s.now c.loop-i.i c.loop-i-test.false)
