-- `stage::statement_step`: the part that a statement is about steps, and the others stay.
use mathlib.Core.Path.{◌≡◌, ap}
use borrow.Author.Rules.{rules}
use Rattle.std.proofs.Common.{Err}
use Rattle.layout.specs.Code.Numbers.{numbered}
use Rattle.layout.specs.Stage.{statement_step}
use Rattle.layout.proofs.StageLaws.{enters_goes, equate_go, equate_stopped, own_go, own_stopped}
use Rattle.layout.proofs.stage.statement_step.Goals as goal

pub returns-in-Nothing : goal.returns-in-Nothing
unfolding statement_step
returns-in-Nothing c = λ σ s. rw c.in-Nothing.is s

pub returns-in-Enters : goal.returns-in-Enters
unfolding statement_step
returns-in-Enters c =
    rw (c.in-Enters.is, c.entered.ensures)
    (enters_goes _ _ _ c.args.line _ _)

pub returns-in_ok-equates-in-Equate : goal.returns-in_ok-equates-in-Equate
unfolding statement_step
returns-in_ok-equates-in-Equate c =
    rw c.in-Equate.is
    (equate_go _ _ _ _ _ _ _ _ _ c.place.ensures _ c.add_equate.ensures _ (ap numbered c.in_ok-equates-in-Equate.was))

pub returns-in_err-equates-in-Equate : goal.returns-in_err-equates-in-Equate
unfolding statement_step
returns-in_err-equates-in-Equate c =
    let e : c.from_residual.result ≡ Err c.in_err-equates-in-Equate.field-0.0 = search rules in
    rw (e, c.in-Equate.is)
    (equate_stopped _ _ _ _ _ _ _ _ _ c.place.ensures _ c.add_equate.ensures _ (ap numbered c.in_err-equates-in-Equate.was))

pub returns-in_ok-own-in-Own : goal.returns-in_ok-own-in-Own
unfolding statement_step
returns-in_ok-own-in-Own c =
    rw c.in-Own.is
    (own_go _ _ _ _ _ _ _ _ _ c.own_line.ensures _ (ap numbered c.in_ok-own-in-Own.was))

pub returns-in_err-own-in-Own : goal.returns-in_err-own-in-Own
unfolding statement_step
returns-in_err-own-in-Own c =
    let e : c.from_residual-in_err-own-in-Own.result ≡ Err c.in_err-own-in-Own.field-0.0 = search rules in
    rw (e, c.in-Own.is)
    (own_stopped _ _ _ _ _ _ _ _ _ c.own_line.ensures _ (ap numbered c.in_err-own-in-Own.was))
