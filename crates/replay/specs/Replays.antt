-- The outcome of a replay: the tally of lines, one by one. Which lines the list has is not said.
use Rattle.std.specs.Prelude.{◌≡◌, ℕ, ◌<◌, ◌⊎◌, Bool, false, List, length}
use Rattle.std.specs.List.{FoldsTo}
use Rattle.replay.specs.declared.tally.Tally.{Tally}
use Rattle.replay.specs.declared.list.Outcome.{Outcome}
use Rattle.replay.specs.Tallies.{tallied}

-- before the first line
abbrev pub no_lines : Tally
no_lines = record { agreed = 0; differed = 0; first = 0 }

-- lines in order, each counted as one that agrees if the test says so, and else as one that differs
abbrev pub Tallied : (List ℕ → Bool → Type 0) → List (List ℕ) → Tally → Type 0
Tallied says lines t = FoldsTo (λ p line q. (a : Bool) × says line a × (q ≡ tallied p a)) no_lines lines t

-- the most lines that are read
abbrev pub most_lines : ℕ
most_lines = 1000000

-- the list has ended, or there are too many lines: that is one difference more
abbrev pub Ended : ℕ → Tally → Outcome → Type 0
Ended n t o = ((n < most_lines) × (o.tally ≡ t)) ⊎ ((n ≡ most_lines) × (o ≡ record { tally = tallied t false; rest = 0 }))

abbrev pub Replayed : (List ℕ → Bool → Type 0) → Outcome → Type 0
Replayed says o = (lines : List (List ℕ)) × (t : Tally) × Tallied says lines t × Ended (length lines) t o
