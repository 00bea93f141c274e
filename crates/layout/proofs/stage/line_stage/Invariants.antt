-- `stage::line_stage`: what the lines that are left come to from here is what all of them come to.
use Prim.Native.Nat.{◌-◌}
use mathlib.Core.Path.{◌≡◌}
use lib.ListN.{length}
use Rattle.layout.specs.Code.Stands.{store}
use Rattle.layout.proofs.TurnLaws.{Head}
use Rattle.layout.proofs.stage.line_stage.Given as goal

abbrev pub invariant-loop-at : goal.invariant-loop-at
invariant-loop-at l = Head l.text l.room (store l.labels l.index l.equates l.exprs l.items l.data_bytes l.label_words) l.st l.at l.line × (length l.labels ≡ length l.initial.labels)
    × (length l.index ≡ length l.initial.index)
    × (length l.equates ≡ length l.initial.equates)
    × (length l.exprs ≡ length l.initial.exprs) × (length l.items ≡ length l.initial.items) × (length l.data_bytes ≡ length l.initial.data_bytes)
    × (length l.label_words ≡ length l.initial.label_words)

abbrev pub decreases-loop-at : goal.decreases-loop-at
decreases-loop-at l = length l.text - l.at
