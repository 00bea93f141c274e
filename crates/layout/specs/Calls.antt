-- What the call promises: the order's three demands, and with the third what document 02's W-202 says of accepted layouts. Document 01, "How much the
-- layout promises".
use Rattle.std.specs.Prelude.{ℕ, ◌<◌, ◌≡◌, List, true, length}
use Rattle.layout.specs.Refusals.{is_in, call_numbers, text_numbers}
use Rattle.layout.specs.Pieces.{lines}
use Rattle.layout.specs.Limits.{Lent}
use Rattle.layout.specs.Layouts.{Answer, no_counts, zero_buffers, call_of}
use Rattle.layout.specs.Demands.{Demanded}

-- "one numbered refusal with its line": one of document 01's numbers, at line 0 where it is of the call, else at a line of the text
pub data Numbered (t : List ℕ) (number line : ℕ) : Type 0 where
  of_call : is_in call_numbers number ≡ true → line ≡ 0 → Numbered t number line
  of_line : is_in text_numbers number ≡ true → line < length (lines t) → Numbered t number line

-- the order's demand 1: "an accepted layout or one numbered refusal with its line ..; after a refusal every lent output is all zeros and every
-- count 0". What an accepted layout is, the other clauses say
pub data Answered (t : List ℕ) (k : Lent) (a : Answer) : Type 0 where
  accepts : a.number ≡ 0 → a.line ≡ 0 → Answered t k a
  refuses : Numbered t a.number a.line → a.counts ≡ no_counts → a.buffers ≡ zero_buffers k → Answered t k a

-- the answer a to a text, a base and so much lent
pub record Assembled (t : List ℕ) (base : ℕ) (k : Lent) (a : Answer) : Type 0 where
  -- demand 1: accepted, or refused and cleared
  pub answered : Answered t k a
  -- demand 2: number, line, every count and the content of each output are what the definition gives, refused or accepted
  pub given : a ≡ call_of t base k
  -- demand 3, all of it, and of an accepted layout that each item and each text label stands at its word (W-202)
  pub demanded : Demanded t base k a
