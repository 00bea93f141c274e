-- `text::same_one_spaced`: the invariant says that comparing what is left of the operand with what is left of the name gives what comparing the whole gives.
use Prim.Native.Nat.{◌≤◌}
use mathlib.Core.Path.{◌≡◌}
use lib.ListN.{length, drop}
use Rattle.numbers.specs.Text.{same, one_spaced}
use Rattle.numbers.proofs.text.same_one_spaced.Given as goal

abbrev pub invariant-loop-i : goal.invariant-loop-i
invariant-loop-i l = (l.j ≤ length l.name) × (same (one_spaced (drop l.i l.operand)) (drop l.j l.name) ≡ same (one_spaced l.operand) l.name)
