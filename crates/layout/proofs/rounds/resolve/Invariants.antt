-- `rounds::resolve`: what the rounds give from here on is what they give of all equates.
use Prim.Native.Nat.{ℕ}
use lib.ListN.{length}
use Rattle.layout.specs.State.{State}
use Rattle.layout.specs.Code.Resolves.{RoundsFor}
use Rattle.layout.proofs.RoundSteps.{frame_of, Standing, Walking, Rounding}
use Rattle.layout.proofs.rounds.resolve.Given as goal

abbrev pub invariant-loop-k : goal.invariant-loop-k
invariant-loop-k l = (base : ℕ) (σ : State) (bytes places : ℕ) → Standing (frame_of l.labels.text.now l.equate_index l.count base σ bytes places) l.labels.records.now l.labels.index.now l.labels.count l.starts l.exprs
    → Walking (frame_of l.labels.text.now l.equate_index l.count base σ bytes places) l.round l.before l.initial.equates l.initial.partials l.initial.evaluations l.initial.pending 0
    → Walking (frame_of l.labels.text.now l.equate_index l.count base σ bytes places) l.round l.before l.equates l.partials l.evaluations l.pending l.k

abbrev pub invariant-loop-pending : goal.invariant-loop-pending
invariant-loop-pending l = (base : ℕ) (σ : State) → RoundsFor l.labels l.starts l.initial.equates l.equate_index l.count l.exprs l.initial.partials base σ
    → Rounding (frame_of l.labels.text.now l.equate_index l.count base σ (length l.initial.equates) (length l.initial.partials)) l.equates l.partials l.evaluations l.pending l.round

abbrev pub decreases-loop-pending : goal.decreases-loop-pending
decreases-loop-pending l = l.pending
