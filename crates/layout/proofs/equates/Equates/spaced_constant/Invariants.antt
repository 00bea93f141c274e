-- `Equates::spaced_constant`: in order, from here on the name's value is the whole list's.
use mathlib.Core.Path.{◌≡◌}
use mathlib.Core.List.{List}
use lib.ListN.{drop}
use Rattle.numbers.specs.Text.{one_spaced}
use Rattle.layout.specs.Rounds.{Known, constant}
use Rattle.layout.specs.Code.Names.{EquateTable}
use Rattle.layout.proofs.equates.Equates.spaced_constant.Given as goal

abbrev pub invariant-loop-k : goal.invariant-loop-k
invariant-loop-k l = (ks : List Known) → EquateTable l.self.text.now l.self.records.now l.self.index.now l.self.count ks → constant (drop l.k ks) (one_spaced l.operand) ≡ constant ks (one_spaced l.operand)
