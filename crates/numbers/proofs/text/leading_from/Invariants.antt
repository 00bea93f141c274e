-- `text::leading_from`: the invariant says that the place found from i on is the place found from the start.
use Rattle.std.specs.Prelude.{ℕ, Bool, ◌≡◌, ◌+◌, ◌-◌, ◌≤◌, length, drop}
use Rattle.numbers.specs.Text.{leading}
use Rattle.numbers.specs.Code.Tests.{Computes}
use Rattle.numbers.proofs.text.leading_from.Given as goal

abbrev pub invariant-loop-i : goal.invariant-loop-i
invariant-loop-i g l =
    (l.at ≤ l.i) × (l.at ≤ length l.s → l.i ≤ length l.s)
    × ((test : ℕ → Bool) → Computes (goal.F-post g l.is) test → l.i + leading test (drop l.i l.s) ≡ l.at + leading test (drop l.at l.s))

abbrev pub decreases-loop-i : goal.decreases-loop-i
decreases-loop-i g l = length l.s - l.i
