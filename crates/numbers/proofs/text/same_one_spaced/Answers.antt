-- `text::same_one_spaced`: the invariant says that comparing what is left of the operand with what is left of the name gives what comparing the whole gives.
use mathlib.Core.Path.{refl, sym, ◌∙◌}
use borrow.Author.Rules.{rules}
use Rattle.numbers.proofs.Spaced.{pass, longer, meet, differ, both_end}
use Rattle.numbers.proofs.text.same_one_spaced.Goals as goal
use Rattle.numbers.proofs.text.same_one_spaced.Goals.{in-Some+else-name-j+else-name-j-2, in_default}

pub loop-i-init : goal.loop-i-init
loop-i-init c = (search rules, refl)

pub returns-then-name-j : goal.returns-then-name-j
returns-then-name-j c =
    let a = c.args in
    let gives = sym c.one_spaced_at.ensures ∙ c.in-Some.is in
    longer a.operand.now a.name.now c.loop-i.i c.loop-i.j _ (search rules) c.loop-i.invariant.1 _ gives c.if-name-j.true

pub returns-then-name-j-2 : goal.returns-then-name-j-2
returns-then-name-j-2 c =
    let a = c.args in
    let gives = sym c.one_spaced_at.ensures ∙ c.in-Some.is in
    differ a.operand.now a.name.now c.loop-i.i c.loop-i.j _ (search rules) c.loop-i.invariant.1 _ gives (search rules) c.if-name-j-2.true

pub loop-i-preserved : goal.loop-i-preserved
loop-i-preserved c =
    let a = c.args in
    elim c.match-one_spaced_at.branch [
      | in-Some+else-name-j+else-name-j-2 w ↦
          let gives = sym c.one_spaced_at.ensures ∙ w.in-Some.is in
          rw w.j-is (search rules, meet a.operand.now a.name.now c.loop-i.i c.loop-i.j _ (search rules) c.loop-i.invariant.1 _ gives (search rules) w.if-name-j-2.false)
      | in_default w ↦
          rw w.j-is (search rules, pass a.operand.now a.name.now c.loop-i.i c.loop-i.j _ (search rules) c.loop-i.invariant.1 (sym w.in_default.ensures))
    ]

pub returns : goal.returns
returns c = both_end _ _ c.loop-i.i c.loop-i.j c.loop-i-test.false (search rules) ∙ c.loop-i.invariant.1
