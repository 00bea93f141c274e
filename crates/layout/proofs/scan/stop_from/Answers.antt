-- `scan::stop_from`: the bytes before the first that ends a statement.
use mathlib.Core.Path.{refl}
use mathlib.Core.Bool.{not}
use lib.ListN.{drop}
use borrow.Author.Rules.{rules}
use Rattle.layout.specs.Code.Cuts.{is_stop}
use Rattle.layout.proofs.SpanLaws.{count_leading}
use Rattle.layout.proofs.scan.stop_from.Goals as goal

pub returns : goal.returns
returns c =
    rw (c.leading_from.ensures.value (λ x. not (is_stop x)) (λ x b k. search rules), count_leading is_stop (drop c.args.at c.args.text.now)) refl
