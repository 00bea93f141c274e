-- `rounds::first_pending`: from here on the first pending one is the whole list's.
use mathlib.Core.Path.{refl, sym, ap, ◌∙◌}
use native.Mathlib.Omega.{arith}
use Rattle.layout.proofs.KnownLaws.{first-here, first_next, first_end}
use Rattle.layout.proofs.rounds.first_pending.Goals as goal

pub loop-i-init : goal.loop-i-init
loop-i-init c = λ t ix ks s. refl

pub returns-then-equate-eq0 : goal.returns-then-equate-eq0
returns-then-equate-eq0 c =
    λ t ix ks s.
    ap (λ r. r.line) c.get-equate.ensures
    ∙ first-here s.rows c.loop-i.i (omega (arith, s.rows.counted, c.loop-i-test.true)) (sym (ap (λ r. r.round) c.get-equate.ensures) ∙ c.if-equate-eq0.true)
    ∙ c.loop-i.invariant t ix ks s

pub loop-i-preserved : goal.loop-i-preserved
loop-i-preserved c =
    λ t ix ks s.
    first_next s.rows c.loop-i.i (omega (arith, s.rows.counted, c.loop-i-test.true)) (λ e. c.if-equate-eq0.false (ap (λ r. r.round) c.get-equate.ensures ∙ e))
    ∙ c.loop-i.invariant t ix ks s

pub returns : goal.returns
returns c = λ t ix ks s. first_end s.rows c.loop-i.i c.loop-i-test.false ∙ c.loop-i.invariant t ix ks s
