-- `scan::cut_from`: the bytes before the first of the five, from the whole blocks on.
use Prim.Native.Nat.{◌+◌}
use mathlib.Core.Path.{◌≡◌}
use mathlib.Core.Bool.{not}
use native.Mathlib.Omega.{arith}
use lib.ListN.{drop}
use borrow.Author.Rules.{rules}
use Rattle.layout.specs.Bytes.{count_before}
use Rattle.layout.specs.Code.Cuts.{is_cut}
use Rattle.layout.proofs.SpanLaws.{count_leading, count_on}
use Rattle.layout.proofs.scan.cut_from.Goals as goal

pub returns : goal.returns
returns c =
    let a = c.args in
    let t = a.text.now in
    let from = c.blocks_from.result in
    let on : from + count_before is_cut (drop from t) ≡ a.at + count_before is_cut (drop a.at t) = count_on is_cut t a.at from (omega (arith, c.blocks_from.ensures)) (omega (arith, c.blocks_from.ensures)) in
    rw (c.leading_from.ensures.value (λ x. not (is_cut x)) (λ x b k. search rules), ← (count_leading is_cut (drop from t))) on
