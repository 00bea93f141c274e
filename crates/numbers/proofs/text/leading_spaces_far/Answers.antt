-- `text::leading_spaces_far`: an empty text has no white space.
use Rattle.std.proofs.Common.{arith}
use Rattle.numbers.specs.Text.{is_space}
use Rattle.numbers.proofs.Trims.{leading-within}
use Rattle.numbers.proofs.text.leading_spaces_far.Goals as goal

pub returns-then-s-eq0 : goal.returns-then-s-eq0
returns-then-s-eq0 c = omega (arith, leading-within is_space c.args.s.now, c.if-s-eq0.true)
