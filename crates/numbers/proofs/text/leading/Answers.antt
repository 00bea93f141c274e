-- `text::leading`: the place that the library finds, by the test that the calls compute.
use Rattle.std.proofs.Common.{rules, tests, not}
use Rattle.std.proofs.lemmas.Iterator.{YieldsList-from_slice}
use Rattle.std.proofs.lemmas.Iterator.Search.{position_from_yields_List}
use Rattle.numbers.proofs.Leading.{leading_found}
use Rattle.numbers.proofs.text.leading.Goals as goal

pub returns-clause-value : goal.returns-clause-value
returns-clause-value g c test computes =
    rw c.unwrap_or.ensures
    (leading_found test c.args.s.now c.position.result (position_from_yields_List (λ x. not (test x)) _ _ _ c.position.ensures.ran (YieldsList-from_slice c.args.s.now cc) (λ x b q k. search (rules, tests, computes))))
