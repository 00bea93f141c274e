-- `writers::put_decoded`: the first n bytes are stored, and those from i on come behind them.
use Prim.Native.Nat.{◌≤◌, ◌-◌}
use mathlib.Core.Path.{◌≡◌}
use mathlib.Core.List.{◌++◌}
use Rattle.std.proofs.Common.{Some}
use lib.ListN.{length, take, drop}
use Rattle.numbers.specs.Strings.{decoded}
use Rattle.numbers.specs.Code.Strings.{decoded_bytes}
use Rattle.layout.proofs.writers.put_decoded.Given as goal

abbrev pub invariant-loop-b : goal.invariant-loop-b
invariant-loop-b l = (l.i ≤ length l.s) × (l.n ≤ length (decoded_bytes l.s)) × (length l.dst ≡ length l.initial.dst)
    × (decoded (drop l.i l.s) ≡ Some (drop l.n (decoded_bytes l.s))) × (l.dst ≡ take l.n (decoded_bytes l.s) ++ drop l.n l.initial.dst)

abbrev pub decreases-loop-b : goal.decreases-loop-b
decreases-loop-b l = length l.s - l.i
