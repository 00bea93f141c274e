-- `strings::decoded_len`: the n bytes counted and those from i on are all.
use Prim.Native.Nat.{◌≤◌, ◌-◌}
use mathlib.Core.Path.{◌≡◌}
use lib.ListN.{length, drop}
use Rattle.numbers.specs.Strings.{decoded}
use Rattle.numbers.specs.Code.Strings.{size_of}
use Rattle.numbers.proofs.CharLaws.{size_after}
use Rattle.numbers.proofs.strings.decoded_len.Given as goal

abbrev pub invariant-loop-i : goal.invariant-loop-i
invariant-loop-i l = (l.i ≤ length l.s) × (l.n ≤ l.i) × (size_after l.n (size_of (decoded (drop l.i l.s))) ≡ size_of (decoded l.s))

abbrev pub decreases-loop-i : goal.decreases-loop-i
decreases-loop-i l = length l.s - l.i
