-- `fixups::fill_label_words`: what filling the label words from the kth on gives of the data now is what filling all gave at the start.
use Rattle.layout.proofs.FixupLaws.{Fixing}
use Rattle.layout.proofs.fixups.fill_label_words.Given as goal

abbrev pub invariant-loop-k : goal.invariant-loop-k
invariant-loop-k l = Fixing l.labels l.label_words l.words l.initial.data_bytes l.data_bytes l.k
