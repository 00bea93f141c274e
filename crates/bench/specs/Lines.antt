-- The bench program's line. Document 01, "Proved table and bench program".
use Rattle.std.specs.Prelude.{ℕ, zero, suc, ◌+◌, ◌/◌, ◌%◌, List, [], ◌∷◌, ◌++◌, true, false, ltb, eqb}
use Rattle.numbers.specs.Text.{text, byte}
use Rattle.layout.specs.Limits.{full}
use Rattle.layout.specs.Layouts.{Answer, call_of}

-- a digit's byte
abbrev pub digit : ℕ → ℕ
digit d = byte "0" + d

-- a number's digits, in so many turns at most: each but the last divides by ten
unfoldable pub decimal_in : ℕ → ℕ → List ℕ
decimal_in zero n = []
decimal_in (suc turns) n = elim (ltb n 10) [ true ↦ digit n ∷ [] | false ↦ decimal_in turns (n / 10) ++ (digit (n % 10) ∷ []) ]

-- "fields decimal": as many turns as this are always enough (`decimal_more`)
unfoldable pub decimal : ℕ → List ℕ
decimal n = decimal_in (suc n) n

-- "one space between", and LF at the end
unfoldable pub fields : List ℕ → List ℕ
fields [] = text "\n"
fields (n ∷ ns) = byte " " ∷ (decimal n ++ fields ns)

-- "one line": a word, then numbers
abbrev pub output_line : List ℕ → List ℕ → List ℕ
output_line word ns = word ++ fields ns

-- "`ok`, words emitted, data bytes, bss size, evaluations"
abbrev pub accepted_line : ℕ → ℕ → ℕ → ℕ → List ℕ
accepted_line words bytes bss evaluations = output_line (text "ok") (words ∷ bytes ∷ bss ∷ evaluations ∷ [])

-- "or `no`, number, line counted from 1": a refusal's line is counted from 0
abbrev pub refused_line : ℕ → ℕ → List ℕ
refused_line number line = output_line (text "no") (number ∷ (line + 1) ∷ [])

-- the line of an answer; number 0: accepted
unfoldable pub answer_line : Answer → List ℕ
answer_line a =
    elim (eqb a.number 0) [
      | true ↦ accepted_line a.counts.words a.counts.data_bytes a.counts.bss_size a.counts.evaluations
      | false ↦ refused_line a.number a.line
    ]

-- "The program reads a source on standard input, base 0, and writes one line": the line that a text gets. "It lends buffers of
-- every limit's full size"
abbrev pub bench_line : List ℕ → List ℕ
bench_line t = answer_line (call_of t 0 full)
