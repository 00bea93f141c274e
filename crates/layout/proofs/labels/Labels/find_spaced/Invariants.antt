-- `Labels::find_spaced`: in order, the records up to here have other names.
use Prim.Native.Nat.{ℕ, ◌<◌}
use mathlib.Core.Path.{◌≡◌}
use mathlib.Core.Bool.{false}
use Rattle.numbers.specs.Text.{same, one_spaced}
use Rattle.layout.specs.Code.Tables.{label_name_at}
use Rattle.layout.proofs.labels.Labels.find_spaced.Given as goal

abbrev pub invariant-loop-k : goal.invariant-loop-k
invariant-loop-k l = (i : ℕ) → i < l.k → same (label_name_at l.self.text.now l.self.records.now i) (one_spaced l.operand) ≡ false
