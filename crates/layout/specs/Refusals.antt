-- "A refusal is a number and a 0-based line", and which numbers each stage can say. Document 01, "Refused because of the input", "Refused because of
-- the state", "Order".
use Rattle.std.specs.Prelude.{ℕ, List, [], ◌∷◌, ◌++◌, Bool, false, ◌||◌, eqb}
use Rattle.std.specs.Prelude.{Result, Ok, Err}

pub record Refusal : Type 0 where
  pub number : ℕ
  pub line : ℕ

-- what a line's rule comes to, with the line
abbrev pub at_line : {A : Type 0} → ℕ → Result A ℕ → Result A Refusal
at_line line (Ok a) = Ok a
at_line line (Err n) = Err (record { number = n; line = line })

-- ---- the numbers, stage by stage in document 01's order

-- is a number one of these?
abbrev pub is_in : List ℕ → ℕ → Bool
is_in [] n = false
is_in (m ∷ ms) n = eqb m n || is_in ms n

-- "40 base above 0xFF000000, line 0. 41 text above 65,536 bytes, line 0": of the call, and no line of the text
abbrev pub call_numbers : List ℕ
call_numbers = 40 ∷ 41 ∷ []

-- "1 byte above 127"
abbrev pub byte_numbers : List ℕ
byte_numbers = 1 ∷ []

-- "then lines in order": what a line says, 2 to 5, 10, 11 and 12; its operands, 6 to 9; 21; what there is no room for, 42 to 48
abbrev pub line_numbers : List ℕ
line_numbers =
    2 ∷ 3 ∷ 4 ∷ 5 ∷ 6 ∷ 7 ∷ 8 ∷ 9 ∷ 10 ∷ 11 ∷ 12 ∷ 21 ∷ 42 ∷ 43 ∷ 44 ∷ 45 ∷ 46 ∷ 47 ∷ 48 ∷ []

-- "13 in text order"
abbrev pub label_word_numbers : List ℕ
label_word_numbers = 13 ∷ []

-- "equates by round, each 14, 15, then its expression": 16 and 24; and where a round finds nothing, 17
abbrev pub turn_numbers : List ℕ
turn_numbers = 14 ∷ 15 ∷ 16 ∷ 24 ∷ []

abbrev pub round_numbers : List ℕ
round_numbers = 17 ∷ turn_numbers

-- "then pseudos in order (count and register before label or number)"
abbrev pub pseudo_numbers : List ℕ
pseudo_numbers = 18 ∷ 19 ∷ 20 ∷ []

-- what is said at a line of the text. 22 and 23 are "from the encoder alone", and not among them
abbrev pub text_numbers : List ℕ
text_numbers = byte_numbers ++ line_numbers ++ label_word_numbers ++ round_numbers ++ pseudo_numbers
