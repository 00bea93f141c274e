-- `text::leading_far`: what blocks pass, and what is left.
use Rattle.std.proofs.Common.{arith}
use Rattle.numbers.proofs.Trims.{tail, leading-from}
use Rattle.numbers.proofs.text.leading_far.Goals as goal

pub returns-clause-value : goal.returns-clause-value
returns-clause-value g c test computes =
    let s = c.args.s.now in
    let from = c.leading_blocks-from.result in
    omega (arith, c.leading_blocks-from.ensures.value test computes, rw (tail s from) at (c.leading.ensures.value test computes), leading-from test from s (omega (arith, c.leading_blocks-from.ensures.value test computes)))
