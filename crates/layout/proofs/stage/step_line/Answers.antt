-- `stage::step_line`: the label's step, then what the line says.
use mathlib.Core.Path.{◌≡◌, ap}
use borrow.Author.Rules.{rules}
use Rattle.std.proofs.Common.{Err}
use Rattle.layout.specs.Code.Numbers.{numbered}
use Rattle.layout.specs.Code.Stands.{store}
use Rattle.layout.proofs.CutLaws.{cut_order, cut_end}
use Rattle.layout.proofs.StageLaws.{place_fits, line_label-within, line_says-within, label_stopped, says_stopped, rest_stopped, line_goes}
use Rattle.layout.proofs.stage.step_line.Goals as goal

pub label_step-requires : goal.label_step-requires
label_step-requires c =
    let a = c.args in (
      record { it = c.requires.0.it.labels; stands = c.requires.0.stands.labels },
      rw c.place.ensures (place_fits c.requires.0.stands.rest.own),
      c.requires.1,
      line_label-within a.text.now a.cut.at a.cut.end (cut_order _ _ c.requires.2) (cut_end _ _ c.requires.2) a.st.rest.own.section
          c.line_of-parsed.result c.line_of-parsed.ensures,
    )

pub returns-in_err-labels : goal.returns-in_err-labels
returns-in_err-labels c =
    let a = c.args in
    let after = store c.label_step.new.labels c.label_step.new.index a.equates.now a.exprs.now a.items.now a.data_bytes.now a.label_words.now in
    let e : c.from_residual.result ≡ Err c.in_err-labels.field-0.0 = search rules in
    rw e
    (label_stopped _ _ _ _ after _ _ _ (cut_order _ _ c.requires.2) (cut_end _ _ c.requires.2) _ c.line_of-parsed.ensures _ c.place.ensures _
    c.label_step.ensures _ (ap numbered c.in_err-labels.was))

pub returns-in_err-statement : goal.returns-in_err-statement
returns-in_err-statement c =
    let a = c.args in
    let after = store c.label_step.new.labels c.label_step.new.index a.equates.now a.exprs.now a.items.now a.data_bytes.now a.label_words.now in
    let e : c.from_residual-in_err-statement.result ≡ Err c.in_err-statement.field-0.0 = search rules in
    rw e
    (says_stopped _ _ _ _ after _ _ _ (cut_order _ _ c.requires.2) (cut_end _ _ c.requires.2) _ c.line_of-parsed.ensures _ c.place.ensures _
    c.label_step.ensures _ (ap numbered c.in_ok-labels.was) _ c.in_err-statement.was)

pub statement_step-requires : goal.statement_step-requires
statement_step-requires c =
    let a = c.args in (
      record { it = c.requires.0.it.rest; stands = c.requires.0.stands.rest },
      c.requires.1,
      line_says-within a.text.now a.cut.at a.cut.end (cut_order _ _ c.requires.2) (cut_end _ _ c.requires.2) a.st.rest.own.section c.line_of-parsed.result
          c.line_of-parsed.ensures _ c.in_ok-statement.was,
    )

pub returns-in_err-rest : goal.returns-in_err-rest
returns-in_err-rest c =
    let e : c.from_residual-in_err-rest.result ≡ Err c.in_err-rest.field-0.0 = search rules in
    rw e
    (rest_stopped _ _ _ _ _ _ _ _ (cut_order _ _ c.requires.2) (cut_end _ _ c.requires.2) _ c.line_of-parsed.ensures _ c.place.ensures _
    c.label_step.ensures _ (ap numbered c.in_ok-labels.was) _ c.in_ok-statement.was _ c.statement_step.ensures _ (ap numbered c.in_err-rest.was))

pub returns : goal.returns
returns c =
    line_goes _ _ _ _ _ _ _ _ (cut_order _ _ c.requires.2) (cut_end _ _ c.requires.2) _ c.line_of-parsed.ensures _ c.place.ensures _
    c.label_step.ensures _ (ap numbered c.in_ok-labels.was) _ c.in_ok-statement.was _ c.statement_step.ensures _ (ap numbered c.in_ok-rest.was)
