-- `stage::line_stage`: what the lines that are left come to from here is what all of them come to.
use mathlib.Core.Path.{◌≡◌, refl, ap, ◌∙◌}
use borrow.Author.Rules.{rules}
use Rattle.std.proofs.Common.{Ok, Err}
use Rattle.layout.specs.Code.Numbers.{numbered}
use Rattle.layout.proofs.ResultLaws.{refused_there}
use native.Mathlib.Omega.{arith}
use lib.ListN.{length}
use Rattle.layout.specs.Code.Stands.{store}
use Rattle.layout.proofs.CutLaws.{cut_end}
use Rattle.layout.proofs.TurnLaws.{head_same, head_first, turn_go, turn-stop, turn_blank, turns_end}
use Rattle.layout.proofs.stage.line_stage.Goals as goal
use Rattle.layout.proofs.stage.line_stage.Goals.{then-cut-gt0+in_ok-st, else-cut-gt0}

pub loop-at-init : goal.loop-at-init
loop-at-init c = (head_first _ _ _ c.requires.1, refl, refl, refl, refl, refl, refl, refl)

pub returns-in_err-st : goal.returns-in_err-st
returns-in_err-st c =
    let e = c.cut_line-cut.ensures in
    let r : c.from_residual.result ≡ Err c.in_err-st.field-0.0 = search rules in
    let d = refused_there c.loop-at.line (λ f d h. search rules) c.step_line.result c.map_err.result c.in_err-st.field-0.0 c.map_err.ensures.cases c.in_err-st.was in
    rw (r, d.1, turn-stop _ _ _ _ _ _ c.loop-at.invariant.0 _ c.loop-at-test.true e.0 e.1 _ _ c.step_line.ensures _ (ap numbered d.0)) refl

pub overflow_add-at : goal.overflow_add-at
overflow_add-at c = omega (arith, cut_end _ _ c.cut_line-cut.ensures.1, c.requires.0)

pub loop-at-preserved : goal.loop-at-preserved
loop-at-preserved c =
    let e = c.cut_line-cut.ensures in
    let below = c.loop-at-test.true in
    let v = c.loop-at.invariant in
    elim c.if-cut-gt0.branch [
      | then-cut-gt0+in_ok-st w ↦ let q : w.step_line.result ≡ Ok w.in_ok-st.st = search rules in (
        head_same _ _ _ _ _ _ _ _ (λ i. store (w.labels-is i) (w.index-is i) (w.equates-is i) (w.exprs-is i) (w.items-is i) (w.data_bytes-is i) (w.label_words-is i)) w.st-is
            (turn_go _ _ _ _ _ _ v.0 _ below e.0 e.1 _ _ w.step_line.ensures _ (ap numbered q)),
        ap length w.labels-is ∙ w.step_line.auto.labels ∙ v.1,
        ap length w.index-is ∙ w.step_line.auto.index ∙ v.2,
        ap length w.equates-is ∙ w.step_line.auto.equates ∙ v.3,
        ap length w.exprs-is ∙ w.step_line.auto.exprs ∙ v.4,
        ap length w.items-is ∙ w.step_line.auto.items ∙ v.5,
        ap length w.data_bytes-is ∙ w.step_line.auto.data_bytes ∙ v.6,
        ap length w.label_words-is ∙ w.step_line.auto.label_words ∙ v.7,
      )
      | else-cut-gt0 w ↦ (
        head_same _ _ _ _ _ _ _ _ (λ i. store (w.labels-is i) (w.index-is i) (w.equates-is i) (w.exprs-is i) (w.items-is i) (w.data_bytes-is i) (w.label_words-is i)) w.st-is
            (turn_blank _ _ _ _ _ _ v.0 _ below e.0 e.1 w.if-cut-gt0.false),
        ap length w.labels-is ∙ v.1,
        ap length w.index-is ∙ v.2,
        ap length w.equates-is ∙ v.3,
        ap length w.exprs-is ∙ v.4,
        ap length w.items-is ∙ v.5,
        ap length w.data_bytes-is ∙ v.6,
        ap length w.label_words-is ∙ v.7,
      )
    ]

pub returns : goal.returns
returns c = rw (turns_end _ _ _ _ _ _ c.loop-at.invariant.0 c.loop-at-test.false) c.loop-at.invariant.0.stands
