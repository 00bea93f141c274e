-- `stage::own_line`: the part that a statement's rule writes steps, and the others stay.
use mathlib.Core.Path.{◌≡◌, ap}
use borrow.Author.Rules.{rules}
use Rattle.std.proofs.Common.{Err}
use Rattle.layout.specs.Code.Numbers.{numbered}
use Rattle.layout.specs.Stage.{own_line}
use Rattle.layout.proofs.StageLaws.{items_go, items_stopped, stored_go, stored_stopped, source_line, bss_go, bss_stopped}
use Rattle.layout.proofs.stage.own_line.Goals as goal

pub returns-in_ok-items-in-Item : goal.returns-in_ok-items-in-Item
unfolding own_line
returns-in_ok-items-in-Item c = rw c.in-Item.is (items_go _ _ _ _ _ _ _ _ c.text_line.ensures _ (ap numbered c.in_ok-items-in-Item.was))

pub returns-in_err-items-in-Item : goal.returns-in_err-items-in-Item
unfolding own_line
returns-in_err-items-in-Item c =
    let e : c.from_residual.result ≡ Err c.in_err-items-in-Item.field-0.0 = search rules in
    rw (e, c.in-Item.is) (items_stopped _ _ _ _ _ _ _ _ c.text_line.ensures _ (ap numbered c.in_err-items-in-Item.was))

pub returns-in_ok-stored-in-InData : goal.returns-in_ok-stored-in-InData
returns-in_ok-stored-in-InData c =
    λ σ s. rw (c.in-InData.is, source_line _ _ _ c.in-InData.source c.in-InData.rest σ)
    (stored_go _ _ _ _ _ _ _ _ c.data_line.ensures _ (ap numbered c.in_ok-stored-in-InData.was) σ s)

pub returns-in_err-stored-in-InData : goal.returns-in_err-stored-in-InData
returns-in_err-stored-in-InData c =
    let e : c.from_residual-in_err-stored-in-InData.result ≡ Err c.in_err-stored-in-InData.field-0.0 = search rules in
    λ σ s. rw (e, c.in-InData.is, source_line _ _ _ c.in-InData.source c.in-InData.rest σ)
    (stored_stopped _ _ _ _ _ _ _ _ c.data_line.ensures _ (ap numbered c.in_err-stored-in-InData.was) σ s)

pub returns-in_ok-bss-in-ReservesBss : goal.returns-in_ok-bss-in-ReservesBss
unfolding own_line
returns-in_ok-bss-in-ReservesBss c =
    rw c.in-ReservesBss.is
    (bss_go _ _ _ _ _ _ (rw c.span_bytes.ensures at c.bss_line.ensures) _ (ap numbered c.in_ok-bss-in-ReservesBss.was))

pub returns-in_err-bss-in-ReservesBss : goal.returns-in_err-bss-in-ReservesBss
unfolding own_line
returns-in_err-bss-in-ReservesBss c =
    let e : c.from_residual-in_err-bss-in-ReservesBss.result ≡ Err c.in_err-bss-in-ReservesBss.field-0.0 = search rules in
    rw (e, c.in-ReservesBss.is)
    (bss_stopped _ _ _ _ _ _ (rw c.span_bytes.ensures at c.bss_line.ensures) _ (ap numbered c.in_err-bss-in-ReservesBss.was))
