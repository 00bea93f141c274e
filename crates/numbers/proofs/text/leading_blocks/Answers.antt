-- `text::leading_blocks`: the test holds of every byte before i, which is a multiple of sixteen.
use Rattle.std.specs.Prelude.{drop}
use Rattle.std.proofs.Common.{arith, rules, sym, ◌∙◌}
use borrow.Author.Tests.{leb-true, leb-false}
use Rattle.numbers.specs.Text.{leading}
use Rattle.numbers.proofs.Trims.{leading-from, leading-within}
use Rattle.numbers.proofs.text.leading_blocks.Goals as goal

pub returns-then-not-all_in_sixteen-clause-value : goal.returns-then-not-all_in_sixteen-clause-value
returns-then-not-all_in_sixteen-clause-value g c test computes =
    let s = c.args.s.now in
    let here = leading test (drop c.loop-i.i s) in
    omega (arith, leading-from test c.loop-i.i s (c.loop-i.invariant.2 test computes), leb-false 16 here (sym (c.all_in_sixteen.ensures test computes) ∙ c.if-not-all_in_sixteen.true))

pub loop-i-preserved : goal.loop-i-preserved
loop-i-preserved g c =
    let s = c.args.s.now in (
      search rules,
      search rules,
      λ test computes.
          let here = leading test (drop c.loop-i.i s) in
          omega (arith, leading-from test c.loop-i.i s (c.loop-i.invariant.2 test computes), leb-true 16 here (sym (c.all_in_sixteen.ensures test computes) ∙ c.if-not-all_in_sixteen.false)),
    )

pub returns-clause-value : goal.returns-clause-value
returns-clause-value g c test computes = omega (arith, leading-within test c.args.s.now, c.loop-i.invariant.2 test computes)
