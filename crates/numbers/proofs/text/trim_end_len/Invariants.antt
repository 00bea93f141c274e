-- `text::trim_end_len`: the invariant says that the text up to i is trimmed as the whole text is.
use Prim.Native.Nat.{◌≤◌}
use mathlib.Core.Path.{◌≡◌}
use lib.ListN.{length, take}
use Rattle.numbers.specs.Text.{trim_end}
use Rattle.numbers.proofs.text.trim_end_len.Given as goal

abbrev pub invariant-loop-i : goal.invariant-loop-i
invariant-loop-i l = (l.i ≤ length l.s) × (trim_end (take l.i l.s) ≡ trim_end l.s)
