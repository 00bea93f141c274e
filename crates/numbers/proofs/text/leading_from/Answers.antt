-- `text::leading_from`: the invariant says that the place found from i on is the place found from the start.
use Rattle.std.proofs.Common.{arith, rules, sym, ◌∙◌}
use Rattle.numbers.proofs.Trims.{leading_more, leading-stop, leading_end}
use Rattle.numbers.proofs.text.leading_from.Goals as goal

pub returns-then-not-is-clause-value : goal.returns-then-not-is-clause-value
returns-then-not-is-clause-value g c test computes =
    let other = sym (computes _ _ c.is.ensures) ∙ c.if-not-is.true in
    omega (arith, leading-stop test c.args.s.now c.loop-i.i (search rules) other, c.loop-i.invariant.2 test computes)

pub loop-i-preserved : goal.loop-i-preserved
loop-i-preserved g c = (
  search rules,
  λ h. search rules,
  λ test computes.
      let one = sym (computes _ _ c.is.ensures) ∙ c.if-not-is.false in
      omega (arith, leading_more test c.args.s.now c.loop-i.i (search rules) one, c.loop-i.invariant.2 test computes),
)

pub returns-clause-value : goal.returns-clause-value
returns-clause-value g c test computes =
    omega (arith, leading_end test c.args.s.now c.loop-i.i c.loop-i-test.false, c.loop-i.invariant.2 test computes)
