-- `scan::blocks_from`: none of the five bytes stands before i, which is whole blocks away.
use Prim.Native.Nat.{◌+◌, ◌-◌, ◌%◌, ◌≤◌}
use mathlib.Core.Path.{◌≡◌}
use lib.ListN.{length, drop}
use Rattle.layout.specs.Bytes.{count_before}
use Rattle.layout.specs.Code.Cuts.{is_cut}
use Rattle.layout.proofs.scan.blocks_from.Given as goal

abbrev pub invariant-loop-i : goal.invariant-loop-i
invariant-loop-i l = (l.i ≤ length l.text) × (l.at ≤ l.i) × ((l.i - l.at) % 16 ≡ 0) × (l.i ≤ l.at + count_before is_cut (drop l.at l.text))

abbrev pub decreases-loop-i : goal.decreases-loop-i
decreases-loop-i l = length l.text - l.i
