-- `Labels::find_in`: along the chain, the records from here on have other names.
use Rattle.layout.specs.Code.Tables.{label_names}
use Rattle.layout.proofs.IndexLaws.{BucketWalk}
use Rattle.layout.proofs.labels.Labels.find_in.Given as goal

abbrev pub invariant-loop-entry : goal.invariant-loop-entry
invariant-loop-entry l = BucketWalk (label_names l.self.text.now l.self.records.now 0 l.self.count) l.name l.entry

abbrev pub decreases-loop-entry : goal.decreases-loop-entry
decreases-loop-entry l = l.entry
