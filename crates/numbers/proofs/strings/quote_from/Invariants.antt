-- `strings::quote_from`: the quote found from i on, where a quote, a backslash or the end is, is the one found from the start.
use Prim.Native.Nat.{◌+◌, ◌≤◌, ◌-◌}
use mathlib.Core.Path.{◌≡◌}
use mathlib.Core.Bool.{false}
use lib.ListN.{length, drop}
use Rattle.numbers.specs.Strings.{to_quote}
use Rattle.numbers.specs.Code.Strings.{plain_len}
use Rattle.numbers.proofs.strings.quote_from.Given as goal

abbrev pub invariant-loop-i : goal.invariant-loop-i
invariant-loop-i l = (l.i ≤ length l.s) × (plain_len (drop l.i l.s) ≡ 0) × (l.i + to_quote false (drop l.i l.s) ≡ l.at + to_quote false (drop l.at l.s))

abbrev pub decreases-loop-i : goal.decreases-loop-i
decreases-loop-i l = length l.s - l.i
