-- `strings::mark_from`: the bytes before the first quote or backslash, from the whole blocks on.
use mathlib.Core.Bool.{not, ◌&&◌}
use native.Mathlib.Omega.{arith}
use lib.Dec.{eqb}
use lib.ListN.{drop}
use borrow.Author.Rules.{rules}
use Rattle.numbers.proofs.QuoteLaws.{plain_on, plain_leading}
use Rattle.numbers.proofs.strings.mark_from.Goals as goal

pub returns : goal.returns
returns c =
    let s = c.args.s.now in
    let from = c.mark_blocks.result in
    rw (c.leading_from.ensures.value (λ x. not (eqb x 34) && not (eqb x 92)) (λ x b k. search rules), ← (plain_leading (drop from s)))
    (plain_on s c.args.at from (omega (arith, c.mark_blocks.ensures)) (omega (arith, c.mark_blocks.ensures)))
