-- `data::data_line`: each turn writes what is read next, and the others are left.
use Prim.Native.Nat.{◌+◌, ◌-◌}
use lib.ListN.{length}
use Rattle.numbers.specs.Code.Spans.{spanned}
use Rattle.layout.proofs.ReadingLaws.{Writing}
use Rattle.layout.proofs.data.data_line.Given as goal

abbrev pub invariant-loop-write : goal.invariant-loop-write
invariant-loop-write l = Writing l.text l.room l.line l.readings (spanned l.text l.part) l.initial.now l.initial.data_bytes l.initial.label_words l.now l.data_bytes l.label_words l.at

abbrev pub decreases-loop-write : goal.decreases-loop-write
decreases-loop-write l = length (spanned l.text l.part) + 1 - l.at
