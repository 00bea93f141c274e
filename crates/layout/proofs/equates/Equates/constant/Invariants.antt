-- `Equates::constant`: what the names below the entry give comes before what was found above it.
use mathlib.Core.List.{List}
use Rattle.layout.specs.Rounds.{Known}
use Rattle.layout.specs.Code.Names.{EquateTable}
use Rattle.layout.proofs.KnownLaws.{Seeking}
use Rattle.layout.proofs.equates.Equates.constant.Given as goal

abbrev pub invariant-loop-entry : goal.invariant-loop-entry
invariant-loop-entry l = (ks : List Known) → EquateTable l.self.text.now l.self.records.now l.self.index.now l.self.count ks → Seeking ks l.name l.found l.entry

abbrev pub decreases-loop-entry : goal.decreases-loop-entry
decreases-loop-entry l = l.entry
