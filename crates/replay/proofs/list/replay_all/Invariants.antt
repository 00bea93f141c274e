-- `list::replay_all`: the tally is that of the lines so far.
use Rattle.std.proofs.Common.{ℕ, ◌≡◌, List, length}
use Rattle.std.specs.Fn.{FnReturnsAt}
use Rattle.replay.specs.Replays.{Tallied}
use Rattle.replay.proofs.list.replay_all.Given as goal

abbrev pub invariant-loop : goal.invariant-loop
invariant-loop g l = (lines : List (List ℕ)) × Tallied (FnReturnsAt g.F.Fn l.agrees) lines l.tally × (length lines ≡ l.counter)
