-- `rounds::resolve`: what the rounds give from here on is what they give of all equates.
use Prim.Native.Nat.{ℕ, ◌+◌, ◌*◌}
use mathlib.Core.Path.{◌≡◌, refl, sym, ap, ◌∙◌}
use mathlib.Core.Bool.{true}
use mathlib.Core.List.{List}
use Rattle.std.proofs.Common.{None, Ok}
use native.Mathlib.Omega.{arith}
use lib.Dec.{eqb}
use lib.ListN.{length}
use mir.Syntax.{w64}
use mir.Val.{SFits}
use mir.Facts.{to_z-of_z}
use borrow.Author.Tests.{eqb-true, eqb-false}
use Rattle.numbers.proofs.Integers.{fit_some}
use Rattle.numbers.proofs.Readings.{fit_in64}
use Rattle.layout.specs.declared.expr.Evaluated.TheVariants.{Value, Waits}
use Rattle.layout.specs.Bytes.{put}
use Rattle.layout.specs.Limits.{equate_size}
use Rattle.layout.specs.Records.{RecordField, field_bytes, equate_record_at}
use Rattle.layout.specs.State.{State}
use Rattle.layout.specs.Code.Resolves.{RoundsFor}
use Rattle.layout.proofs.KnownLaws.{equates_lent}
use Rattle.layout.proofs.RoundSteps.{frame_of, standing, Walking, Here, walk_here, round_first, round_begins, round_next, round_done, round_stuck}
use Rattle.layout.proofs.RoundSteps.{next_kept, next_waits, next_found, next_refused, some_pending, few_evaluations}
use Rattle.layout.proofs.RoundSteps.{again_here, gave_here, pending_here, found_here, line_here, record_here}
use borrow.Author.Rules.{rules}
use Rattle.layout.proofs.rounds.resolve.Goals as goal
use Rattle.layout.proofs.rounds.resolve.Goals.{After-loop-k, In-loop-k}
use Rattle.layout.proofs.rounds.resolve.Goals.{then-is_pending+in-Ok-Value, then-is_pending+in-Ok-Waits, else-is_pending}

pub loop-pending-init : goal.loop-pending-init
loop-pending-init c = λ base σ s. round_first s

-- the equate whose turn it is, of whatever the buffers stood for at the start
here : (d : In-loop-k) (base : ℕ) (σ : State)
    → RoundsFor d.args.labels d.args.starts d.args.equates.now d.args.equate_index.now d.args.count d.args.exprs.now d.args.partials.now base σ
    → Here (frame_of d.args.labels.text.now d.args.equate_index.now d.args.count base σ (length d.args.equates.now) (length d.args.partials.now))
    (d.loop-pending.round + 1) d.loop-pending.pending d.loop-k.equates d.loop-k.partials d.loop-k.evaluations d.loop-k.pending d.loop-k.k
here d base σ s =
    walk_here _ _ _ _ _ _ _ _
    (d.loop-k.invariant _ _ _ _ (standing s) (round_begins _ _ _ _ _ _ (d.loop-pending.invariant base σ s) d.loop-pending-test.true))
    d.loop-k-test.true

pub is_pending-requires : goal.is_pending-requires
is_pending-requires c =
    let h = here (goal.at.is_pending-requires c).In-loop-k _ _ c.requires.stands in
    omega (arith, equates_lent h.walk.table.rows, c.loop-k-test.true)

-- it is pending
pending : (d : In-loop-k) → eqb (equate_record_at d.loop-k.equates d.loop-k.k).round 0 ≡ true → (here d _ _ d.requires.stands).one.found ≡ None
pending d e = pending_here _ (standing d.requires.stands) _ _ _ _ _ _ _ (here d _ _ d.requires.stands) (eqb-true _ _ e)

pub evaluate-turn-requires : goal.evaluate-turn-requires
evaluate-turn-requires c =
    let d = (goal.at.evaluate-turn-requires c).In-loop-k in
    let h = here d _ _ c.requires.stands in
    let p = pending d (sym c.is_pending.ensures ∙ c.if-is_pending.true) in
    (record { it = _; stands = again_here _ (standing c.requires.stands) _ _ _ _ _ _ _ h _ c.partial_at.ensures c.loop-k-test.true p }, c.loop-k-test.true, few_evaluations _ _ _ _ _ _ _ _ h p)

pub put_found-requires : goal.put_found-requires
put_found-requires c =
    let h = here (goal.at.put_found-requires c).In-loop-k _ _ c.requires.stands in
    omega (arith, equates_lent h.walk.table.rows, c.loop-k-test.true)

pub overflow_sub-pending : goal.overflow_sub-pending
overflow_sub-pending c =
    let d = (goal.at.overflow_sub-pending c).In-loop-k in
    some_pending _ _ _ _ _ _ _ _ (here d _ _ c.requires.stands) (pending d (sym c.is_pending.ensures ∙ c.if-is_pending.true))

pub get-requires : goal.get-requires
get-requires c =
    let h = here (goal.at.get-requires c).In-loop-k _ _ c.requires.stands in
    omega (arith, equates_lent h.walk.table.rows, c.loop-k-test.true)

pub returns-in-Err : goal.returns-in-Err
returns-in-Err c =
    λ s.
    let h = here (goal.at.returns-in-Err c).In-loop-k _ _ s.stands in
    let p = pending_here _ (standing s.stands) _ _ _ _ _ _ _ h (eqb-true _ _ (sym c.is_pending.ensures ∙ c.if-is_pending.true)) in
    let g = c.evaluate-turn.ensures _ (again_here _ (standing s.stands) _ _ _ _ _ _ _ h _ c.partial_at.ensures c.loop-k-test.true p) in
    let t = rw c.in-Err.is at (gave_here _ (standing s.stands) _ _ _ _ _ _ _ h _ g.gives) in
    let line = ap (λ r. r.line) c.get.ensures ∙ line_here _ (standing s.stands) _ _ _ _ _ _ _ h in
    rw (c.at.ensures, line, next_refused _ _ _ _ _ _ _ _ h p _ t.answers) refl

pub loop-k-preserved : goal.loop-k-preserved
loop-k-preserved c =
    λ base σ bytes places s m.
    let h = walk_here _ _ _ _ _ _ _ _ (c.loop-k.invariant base σ bytes places s m) c.loop-k-test.true in
    elim c.if-is_pending.branch [
      | then-is_pending+in-Ok-Value w ↦
          let p = pending_here _ s _ _ _ _ _ _ _ h (eqb-true _ _ (sym c.is_pending.ensures ∙ w.if-is_pending.true)) in
          let g = w.evaluate-turn.ensures _ (again_here _ s _ _ _ _ _ _ _ h _ w.partial_at.ensures c.loop-k-test.true p) in
          let fit : SFits w64 w.in-Ok-Value.v = search rules in
          let e : w.evaluate-turn.result.answer ≡ Ok (Value w.in-Ok-Value.v) = w.in-Ok-Value.is ∙ ap Ok (rw w.in-Ok-Value.is at w.in-Ok-Value.field-0-is) in
          let t = rw e at (gave_here _ s _ _ _ _ _ _ _ h _ g.gives) in
          rw (w.partials-is, w.evaluations-is ∙ g.counted)
          (next_found _ _ _ _ _ _ _ _ h p w.in-Ok-Value.v t.answers _ (ap length w.equates-is ∙ w.put_found.auto.equates)
          (w.equates-is ∙ (rw (to_z-of_z fit) at w.put_found.ensures) ∙ ap (λ (fs : List RecordField). put (c.loop-k.k * equate_size) (field_bytes fs) c.loop-k.equates) (record_here _ s _ _ _ _ _ _ _ h w.in-Ok-Value.v))
          _ (omega (arith, w.pending-is, some_pending _ _ _ _ _ _ _ _ h p)))
      | then-is_pending+in-Ok-Waits w ↦
          let p = pending_here _ s _ _ _ _ _ _ _ h (eqb-true _ _ (sym c.is_pending.ensures ∙ w.if-is_pending.true)) in
          let g = w.evaluate-turn.ensures _ (again_here _ s _ _ _ _ _ _ _ h _ w.partial_at.ensures c.loop-k-test.true p) in
          let fit : SFits w64 w.in-Ok-Waits.from.sum = search rules in
          let e : w.evaluate-turn.result.answer ≡ Ok (Waits w.in-Ok-Waits.from) = w.in-Ok-Waits.is ∙ ap Ok (rw w.in-Ok-Waits.is at w.in-Ok-Waits.field-0-is) in
          let t = rw e at (gave_here _ s _ _ _ _ _ _ _ h _ g.gives) in
          rw (w.equates-is, w.evaluations-is ∙ g.counted, w.pending-is)
          (next_waits _ _ _ _ _ _ _ _ h p t.answers _ (fit_in64 _ _ (fit_some _ fit)) t.blocked.1 _ (w.partials-is ∙ w.put_partial.ensures))
      | else-is_pending w ↦
          let o = found_here _ s _ _ _ _ _ _ _ h (eqb-false _ _ (sym c.is_pending.ensures ∙ w.if-is_pending.false)) in
          rw (w.equates-is, w.partials-is, w.evaluations-is, w.pending-is) (next_kept _ _ _ _ _ _ _ _ h o.0 o.1)
    ]

-- a round's end, of whatever the buffers stood for at the start
ended : (d : After-loop-k) (base : ℕ) (σ : State)
    → RoundsFor d.args.labels d.args.starts d.args.equates.now d.args.equate_index.now d.args.count d.args.exprs.now d.args.partials.now base σ
    → Walking (frame_of d.args.labels.text.now d.args.equate_index.now d.args.count base σ (length d.args.equates.now) (length d.args.partials.now))
    (d.loop-pending.round + 1) d.loop-pending.pending d.loop-k.equates d.loop-k.partials d.loop-k.evaluations d.loop-k.pending d.loop-k.k
ended d base σ s = d.loop-k.invariant _ _ _ _ (standing s) (round_begins _ _ _ _ _ _ (d.loop-pending.invariant base σ s) d.loop-pending-test.true)

pub first_pending-requires : goal.first_pending-requires
first_pending-requires c = equates_lent (ended (goal.at.first_pending-requires c).After-loop-k _ _ c.requires.stands).walk.table.rows

pub returns-then-pending-before : goal.returns-then-pending-before
returns-then-pending-before c =
    λ s.
    let m = ended (goal.at.returns-then-pending-before c).After-loop-k _ _ s.stands in
    rw (c.at-then-pending-before.ensures, c.first_pending.ensures _ _ _ m.walk.table, round_stuck _ _ _ _ _ _ _ _ m (omega arith) c.if-pending-before.true) refl

pub loop-pending-smaller : goal.loop-pending-smaller
loop-pending-smaller c = omega (arith, (ended (goal.at.loop-pending-smaller c).After-loop-k _ _ c.requires.stands).walk.fell, c.if-pending-before.false)

pub loop-pending-preserved : goal.loop-pending-preserved
loop-pending-preserved c = λ base σ s. round_next _ _ _ _ _ _ _ _ (ended (goal.at.loop-pending-preserved c).After-loop-k base σ s) (omega arith) c.if-pending-before.false

pub returns : goal.returns
returns c =
    λ s.
    let m = c.loop-pending.invariant s.base s.state s.stands in
    rw (round_done _ _ _ _ _ _ m (omega arith)) (record { evaluations = refl; equates = m.table })
