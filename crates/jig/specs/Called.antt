-- What a caller in C or Rust holds after the call. Document 01, "How much the layout promises".
use Rattle.std.specs.Prelude.{ℕ, ◌≡◌, List, [], ◌∷◌, take}
use Rattle.std.specs.Prelude.{Result, Ok, Err}
use Rattle.layout.specs.declared.assembler.Counts as counted
use Rattle.layout.specs.declared.refusal.RefusedAt.{RefusedAt}
use Rattle.layout.specs.Bytes.{padded}
use Rattle.layout.specs.Limits.{Lent}
use Rattle.layout.specs.Layouts.{Counts, Buffers, Answer, no_counts}
use Rattle.layout.specs.Calls.{Assembled}
use Rattle.layout.specs.Code.Calls.{counts_in}

-- a line and the counts as numbers, in the order in which they are handed over
abbrev pub nine : ℕ → Counts → List ℕ
nine line c =
    line
    ∷ c.words
    ∷ c.data_bytes
    ∷ c.data_base
    ∷ c.bss_size
    ∷ c.labels
    ∷ c.equates
    ∷ c.items
    ∷ c.evaluations
    ∷ []

-- the same of the code's answer
abbrev pub numbers_of : Result counted.Counts RefusedAt → List ℕ
numbers_of (Ok c) = nine 0 (counts_in c)
numbers_of (Err r) = nine r.line no_counts

-- n numbers: as many of xs as there is room for, and zeros after them
abbrev pub numbers_lent : ℕ → List ℕ → List ℕ
numbers_lent n xs = padded n (take n xs)

-- A text at a base, with so much lent, and n numbers lent for the counts: r is returned, cs and b are left in what was lent.
pub record Called (t : List ℕ) (base : ℕ) (k : Lent) (n r : ℕ) (cs : List ℕ) (b : Buffers) : Type 0 where
  -- the answer that is handed over meets the call's contract: the order's three demands, and W-202 of accepted layouts
  pub answer : Answer
  pub assembled : Assembled t base k answer
  -- its number is returned, 0 where it is accepted; its line and counts, and its outputs, are left
  pub number : r ≡ answer.number
  pub counts : cs ≡ numbers_lent n (nine answer.line answer.counts)
  pub buffers : b ≡ answer.buffers
