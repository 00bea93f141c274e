-- Whatever answers as the programs would that document 01 excludes by demand 2, "How much the layout promises", 3, does not meet the call's
-- contract; nor does one that reads strings or an li by name otherwise than document 02; nor does an answer against demand 1: outputs or counts left after a
-- refusal, a number that document 01 does not have or that is the encoder's alone, 40 or 41 at another line than 0, a line that the text does
-- not have.
use Prim.Native.Nat.{ℕ, ◌≤◌, ◌<◌}
use mathlib.Core.Path.{◌≡◌, refl, sym, ◌∙◌, ap}
use mathlib.Core.List.{List, [], ◌∷◌}
use mathlib.Core.Bool.{true, false, not, true≢false}
use native.Mathlib.Nat.{sub-zero}
use native.Mathlib.Omega.{arith}
use borrow.Author.Tests.{not-true}
use lib.ListN.{length, get_or, replicate}
use Rattle.numbers.specs.Text.{text}
use Rattle.layout.specs.Refusals.{is_in, call_numbers, text_numbers}
use Rattle.layout.specs.Pieces.{lines}
use Rattle.layout.specs.Limits.{word_limit, Lent, full}
use Rattle.layout.specs.Layouts.{Answer, no_counts, zero_buffers}
use Rattle.layout.specs.Calls.{Numbered, of_call, of_line, Answered, accepts, refuses, Assembled}
use Rattle.layout.proofs.Computing.{computing}
use Rattle.layout.proofs.RefusalLaws.{in_all}
use Rattle.layout.proofs.AnswerLaws.{refusal_numbers}

-- ---- "one blank image for all orders"

abbrev first_word : Answer → ℕ
first_word x = get_or x.buffers.words 0 0

five : (x : Answer) → Assembled (text "li a0, 5") 0 full x → first_word x ≡ 0x00500513
unfolding computing
five x a = ap first_word a.given

pub image_blank : (x : Answer) → Assembled (text "li a0, 5") 0 full x → x.buffers.words ≡ replicate word_limit 0 → ⊥
image_blank x a e = let z : first_word x ≡ 0 = ap (λ (ws : List ℕ). get_or ws 0 0) e in omega (arith, z, five x a)

pub one_for_all : (x : Answer) → Assembled (text "li a0, 5") 0 full x → Assembled (text "li a0, 6") 0 full x → ⊥
unfolding computing
one_for_all x a b = let z : first_word x ≡ 0x00600513 = ap first_word b.given in omega (arith, z, five x a)

-- ---- "one that hands buffers back untouched"

-- where what is lent holds other than zeros: of the empty text, which is accepted; of any text that is refused, `output_left`
pub untouched : (k : Lent) (x : Answer) → Assembled [] 0 k x → (x.buffers ≡ zero_buffers k → ⊥) → ⊥
unfolding computing
untouched k x a e = e (simp sub-zero at (ap (λ (y : Answer). y.buffers) a.given))

-- ---- "one that refuses every order"

pub all-refused : (x : Answer) → Assembled [] 0 full x → (x.number ≡ 0 → ⊥) → ⊥
unfolding computing
all-refused x a n = n (ap (λ (y : Answer). y.number) a.given)

-- ---- an li by name: document 02, W-202

-- an upper part of 0 left out: an addi from x0, whatever follows it
pub upper_left_out : (x : Answer) → Assembled (text "n = 5\nli a0, n") 0 full x → (first_word x ≡ 0x00000537 → ⊥) → ⊥
unfolding computing
upper_left_out x a n = n (ap first_word a.given)

-- an equate of 2^31 taken as negative, as a written number is
pub beyond_taken : (x : Answer) → Assembled (text "n = 2147483648\nli a0, n") 0 full x → (x.number ≡ 19 → ⊥) → ⊥
unfolding computing
beyond_taken x a n = n (ap (λ (y : Answer). y.number) a.given)

-- ---- strings: document 02, W-201

abbrev first_byte : Answer → ℕ
first_byte x = get_or x.buffers.data_bytes 0 0

-- an escaped quote ends the string: `"\""` is refused then, or stores a backslash; and `"\"` is a string
pub quote_ends : (x : Answer) → Assembled (text ".data\n.ascii \"\\\"\"") 0 full x → (first_byte x ≡ 34 → ⊥) → ⊥
unfolding computing
quote_ends x a n = n (ap first_byte a.given)

pub quote_closes : (x : Answer) → Assembled (text ".data\n.ascii \"\\\"") 0 full x → (x.number ≡ 9 → ⊥) → ⊥
unfolding computing
quote_closes x a n = n (ap (λ (y : Answer). y.number) a.given)

-- a colon in a string makes a label: by document 01 this line has one, and stores the byte 1
pub colon_labels : (x : Answer) → Assembled (text ".data\n.ascii \": .byte 1 #\"") 0 full x → (first_byte x ≡ 58 → ⊥) → ⊥
unfolding computing
colon_labels x a n = n (ap first_byte a.given)

-- a comment mark in a string ends the line
pub mark_ends : (x : Answer) → Assembled (text ".data\n.ascii \"#;\"") 0 full x → (x.number ≡ 0 → ⊥) → ⊥
unfolding computing
mark_ends x a n = n (ap (λ (y : Answer). y.number) a.given)

-- an octal above 377 is taken by its low eight bits
pub octal_wraps : (x : Answer) → Assembled (text ".data\n.ascii \"\\400\"") 0 full x → (x.number ≡ 9 → ⊥) → ⊥
unfolding computing
octal_wraps x a n = n (ap (λ (y : Answer). y.number) a.given)

-- the rule of strings is taken for a line of another section, where a colon still makes a label
pub text-labelled : (x : Answer) → Assembled (text ".ascii \":\"") 0 full x → (x.counts.labels ≡ 1 → ⊥) → ⊥
unfolding computing
text-labelled x a n = n (ap (λ (y : Answer). y.counts.labels) a.given)

-- ---- against demand 1, for every text, base and lent lengths

module _ (t : List ℕ) (base : ℕ) (k : Lent) (x : Answer) (a : Assembled t base k x) where
  -- a refusal that leaves something in an output
  pub output_left : (x.number ≡ 0 → ⊥) → (x.buffers ≡ zero_buffers k → ⊥) → ⊥
  output_left n e = by a.answered
    where
      by : Answered t k x → ⊥
      by (accepts p q) = n p
      by (refuses h c b) = e b

  -- or a count
  pub count_left : (x.number ≡ 0 → ⊥) → (x.counts ≡ no_counts → ⊥) → ⊥
  count_left n e = by a.answered
    where
      by : Answered t k x → ⊥
      by (accepts p q) = n p
      by (refuses h c b) = e c

  -- a number that document 01 does not have, or that is the encoder's alone
  pub number_unknown : is_in (0 ∷ refusal_numbers) x.number ≡ false → ⊥
  number_unknown e = true≢false (sym (by a.answered) ∙ e)
    where
      known : Numbered t x.number x.line → is_in (0 ∷ refusal_numbers) x.number ≡ true
      known (of_call h l) = in_all (is_in (0 ∷ refusal_numbers)) call_numbers refl x.number h
      known (of_line h l) = in_all (is_in (0 ∷ refusal_numbers)) text_numbers refl x.number h

      by : Answered t k x → is_in (0 ∷ refusal_numbers) x.number ≡ true
      by (accepts p q) = ap (is_in (0 ∷ refusal_numbers)) p
      by (refuses h c b) = known h

  pub number_22 : x.number ≡ 22 → ⊥
  number_22 e = number_unknown (ap (is_in (0 ∷ refusal_numbers)) e)

  pub number_23 : x.number ≡ 23 → ⊥
  number_23 e = number_unknown (ap (is_in (0 ∷ refusal_numbers)) e)

  -- 40 or 41 at another line than 0
  pub line_of-call : is_in call_numbers x.number ≡ true → 0 < x.line → ⊥
  line_of-call n s = by a.answered
    where
      -- neither is said at a line
      apart : (m : ℕ) → is_in call_numbers m ≡ true → is_in text_numbers m ≡ false
      apart m e = not-true (is_in text_numbers m) (in_all (λ m. not (is_in text_numbers m)) call_numbers refl m e)

      last : Numbered t x.number x.line → ⊥
      last (of_call h l) = omega arith
      last (of_line h l) = true≢false (sym h ∙ apart x.number n)

      by : Answered t k x → ⊥
      by (accepts p q) = omega arith
      by (refuses h c b) = last h

  -- a line that the text does not have; 0 stands for the whole call too
  pub line_beyond : 0 < x.line → length (lines t) ≤ x.line → ⊥
  line_beyond s e = by a.answered
    where
      last : Numbered t x.number x.line → ⊥
      last (of_call h l) = omega arith
      last (of_line h l) = omega arith

      by : Answered t k x → ⊥
      by (accepts p q) = omega arith
      by (refuses h c b) = last h
