-- `text::leading_blocks`: the test holds of every byte before i, which is a multiple of sixteen.
use Rattle.std.specs.Prelude.{ℕ, Bool, ◌≡◌, ◌-◌, ◌%◌, ◌≤◌, length}
use Rattle.numbers.specs.Text.{leading}
use Rattle.numbers.specs.Code.Tests.{Computes}
use Rattle.numbers.proofs.text.leading_blocks.Given as goal

abbrev pub invariant-loop-i : goal.invariant-loop-i
invariant-loop-i g l =
    (l.i ≤ length l.s) × (l.i % 16 ≡ 0)
    × ((test : ℕ → Bool) → Computes (goal.F-post g l.is) test → l.i ≤ leading test l.s)

abbrev pub decreases-loop-i : goal.decreases-loop-i
decreases-loop-i g l = length l.s - l.i
