-- The count of a replay, and its report.
use Rattle.std.specs.Prelude.{ℕ, ◌+◌, ◌%◌, ◌^◌, Bool, true, false, cond, List, [], ◌∷◌, ◌++◌, ◌==◌, decimal}
use Rattle.numbers.specs.Text.{text}
use Rattle.replay.specs.declared.tally.Tally.{Tally}

-- a sum in 64 bits
abbrev pub sum64 : ℕ → ℕ → ℕ
sum64 a b = (a + b) % 2 ^ 64

-- one line more, that agreed or did not; the first that did not is kept
abbrev pub tallied : Tally → Bool → Tally
tallied t true = record { agreed = sum64 t.agreed 1; differed = t.differed; first = t.first }
tallied t false = record {
  agreed = t.agreed;
  differed = sum64 t.differed 1;
  first = cond (t.first == 0) (sum64 t.agreed (sum64 t.differed 1)) t.first;
}

-- a line of the report: a name, a number in decimal digits and LF
abbrev pub report_line : List ℕ → ℕ → List ℕ
report_line name n = name ++ decimal n ++ (10 ∷ [])

-- the report: its four lines
abbrev pub reported : Tally → ℕ → List ℕ
reported t rest =
    report_line (text "agreed ") t.agreed
    ++ report_line (text "differed ") t.differed
    ++ report_line (text "first difference at line ") t.first
    ++ report_line (text "bytes after the last line ") rest
