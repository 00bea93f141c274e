-- `strings::quoted_from`: the first quote or backslash, then the next unescaped quote; what stands between the two is decoded.
use Prim.Native.Nat.{◌+◌}
use mathlib.Core.Path.{◌≡◌, refl, sym, ◌∙◌}
use mathlib.Core.Bool.{true}
use lib.ListN.{drop}
use Rattle.numbers.proofs.Trims.{tail}
use Rattle.numbers.specs.Strings.{nothing_beside}
use Rattle.numbers.proofs.QuoteLaws.{mark_within, mark_rests, unclosed, beside, counted, counted_few}
use borrow.Author.Rules.{rules}
use Rattle.numbers.proofs.strings.quoted_from.Goals as goal
use Rattle.numbers.proofs.strings.quoted_from.Goals.{Else-not-nothing_beside}

-- the string is closed, with nothing beside it
clear : (d : Else-not-nothing_beside) → nothing_beside (drop (d.quote_from-end.result + 1) d.args.s.now) ≡ true
clear d = sym (rw tail at d.nothing_beside.ensures) ∙ d.if-not-nothing_beside.false

pub quote_from-end-requires : goal.quote_from-end-requires
quote_from-end-requires c = (mark_within _ _ _ c.requires c.mark_from-mark.ensures, mark_rests _ _ _ c.requires c.mark_from-mark.ensures)

pub returns-then-s-end : goal.returns-then-s-end
returns-then-s-end c = rw (unclosed _ _ _ c.requires c.mark_from-mark.ensures _ c.quote_from-end.ensures c.if-s-end.true) refl

pub returns-then-not-nothing_beside : goal.returns-then-not-nothing_beside
returns-then-not-nothing_beside c =
    let some_beside = sym (rw tail at c.nothing_beside.ensures) ∙ c.if-not-nothing_beside.true in
    rw (beside _ _ _ c.requires c.mark_from-mark.ensures _ c.quote_from-end.ensures c.if-s-end.false some_beside) refl

pub overflow_add-result : goal.overflow_add-result
overflow_add-result c =
    let some-counted = rw c.in_ok-size.was at c.decoded_len.ensures in
    let h = counted_few _ _ _ c.requires c.mark_from-mark.ensures _ c.quote_from-end.ensures c.if-s-end.false _ some-counted in
    search rules

pub returns : goal.returns
returns c =
    let some-counted = rw c.in_ok-size.was at c.decoded_len.ensures in
    counted _ _ _ c.requires c.mark_from-mark.ensures _ c.quote_from-end.ensures c.if-s-end.false (clear (goal.at.returns c).Else-not-nothing_beside) _ some-counted

pub returns-in_err-size : goal.returns-in_err-size
returns-in_err-size c =
    let none-counted = rw c.in_err-size.was at c.decoded_len.ensures in
    c.from_residual.ensures ∙ counted _ _ _ c.requires c.mark_from-mark.ensures _ c.quote_from-end.ensures c.if-s-end.false (clear (goal.at.returns-in_err-size c).Else-not-nothing_beside) _ none-counted
