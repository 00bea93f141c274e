-- `Labels::find_spaced`: in order, the records up to here have other names.
use mathlib.Core.Path.{◌≡◌, sym, ap, ◌∙◌}
use mathlib.Core.Bool.{Bool, true, false}
use native.Mathlib.Omega.{arith}
use Rattle.numbers.specs.Text.{same, one_spaced}
use Rattle.numbers.proofs.Prefixes.{same_swap}
use Rattle.layout.specs.Code.Tables.{label_name_at}
use Rattle.layout.proofs.LabelTables.{found_in_order, others_more, none_in_order}
use Rattle.layout.proofs.labels.Labels.find_spaced.Goals as goal
use Rattle.layout.proofs.labels.Labels.find_spaced.Goals.{After-same_one_spaced}

pub loop-k-init : goal.loop-k-init
loop-k-init c = λ i h. absurd (omega arith)

-- has the record here the name?
told : (d : After-same_one_spaced) (b : Bool) → d.same_one_spaced.result ≡ b
    → same (label_name_at d.args.self.text.now d.args.self.records.now d.loop-k.k)
    (one_spaced d.args.operand.now)
    ≡ b
told d b e =
    same_swap _ _ ∙ ap (same (one_spaced d.args.operand.now)) (sym d.name.ensures)
    ∙ sym d.same_one_spaced.ensures ∙ e

pub returns-then-same_one_spaced : goal.returns-then-same_one_spaced
returns-then-same_one_spaced c =
    let below = c.loop-k-test.true in
    (found_in_order _ _ _ _ c.loop-k.k below (told (goal.at.returns-then-same_one_spaced c).After-same_one_spaced true c.if-same_one_spaced.true) c.loop-k.invariant, below)

pub loop-k-preserved : goal.loop-k-preserved
loop-k-preserved c = others_more _ _ _ c.args.self.count _ c.loop-k.invariant (told (goal.at.loop-k-preserved c).After-same_one_spaced false c.if-same_one_spaced.false)

pub returns : goal.returns
returns c = (none_in_order _ _ _ _ (λ i h. c.loop-k.invariant i (omega (arith, c.loop-k-test.false))), tt)
