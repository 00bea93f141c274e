-- Expressions: tokens, terms and the signed sum. Document 01, "Lines to places", the last rule.
use Rattle.std.specs.Prelude.{ℕ, zero, suc, List, [], ◌∷◌, Bool, true, false, cond, not, ◌&&◌, ◌||◌, leb, eqb, length, take, drop, ℤ, pos, ◌+ℤ◌}
use Rattle.std.specs.Prelude.{Option, None, Some}
use Rattle.std.specs.Prelude.{Result, Ok, Err}
use Rattle.numbers.specs.Text.{byte, leading, is_digit}
use Rattle.numbers.specs.Ints.{fit64, sign_times}
use Rattle.numbers.specs.Numbers.{prefixed}
use Rattle.layout.specs.Bytes.{is_letter}

pub data Token : Type 0 where
  plus : Token
  minus : Token
  dot : Token
  number : ℤ → Token
  name : List ℕ → Token
  unreadable : Token

-- "Commas in an expression are blanks, as are bytes 9, 10, 13 and 32"
abbrev pub is_blank : ℕ → Bool
is_blank b = eqb b 9 || eqb b 10 || eqb b 13 || eqb b 32 || eqb b (byte ",")

-- "a name of letters, digits, `_`, `.` and `$` without a digit first"
abbrev pub is_name_byte : ℕ → Bool
is_name_byte b = is_letter b || is_digit b || eqb b (byte "_") || eqb b (byte ".") || eqb b (byte "$")

-- the bytes that a number runs over, from the Rust: hexadecimal digits, `x` and `X`; what they do not make up is unreadable
abbrev pub is_number_byte : ℕ → Bool
is_number_byte b =
    is_digit b || (leb (byte "a") b && leb b (byte "f")) || (leb (byte "A") b && leb b (byte "F")) || eqb b (byte "x")
    || eqb b (byte "X")

-- a token, and how many bytes it takes
pub record Scanned : Type 0 where
  pub token : Token
  pub size : ℕ

abbrev scanned : Token → ℕ → Scanned
scanned t n = record { token = t; size = n }

abbrev pub number_token : Option ℤ → Token
number_token None = unreadable
number_token (Some z) = number z

-- a name alone that is a dot is `.`
abbrev pub name_token : List ℕ → Token
name_token [] = unreadable
name_token (x ∷ []) = cond (eqb x (byte ".")) dot (name (x ∷ []))
name_token (x ∷ y ∷ ys) = name (x ∷ y ∷ ys)

-- the token that a text begins with, where it begins with b
unfoldable pub scan : ℕ → List ℕ → Scanned
scan b s =
    cond (eqb b (byte "+")) (scanned plus 1)
    (cond (eqb b (byte "-")) (scanned minus 1)
    (cond (is_digit b) (scanned (number_token (prefixed (take (leading is_number_byte s) s))) (leading is_number_byte s))
    (cond (is_name_byte b) (scanned (name_token (take (leading is_name_byte s) s)) (leading is_name_byte s))
    (scanned unreadable 1))))

-- the tokens of a text without blanks before it; each takes a byte, so as many turns as bytes are enough (`tokens_enough`)
unfoldable pub tokens_in : ℕ → List ℕ → List Token
tokens_in zero s = []
tokens_in (suc n) [] = []
tokens_in (suc n) (b ∷ bs) = (scan b (b ∷ bs)).token ∷ tokens_in n (blanks_dropped (drop (scan b (b ∷ bs)).size (b ∷ bs)))
  where
    blanks_dropped : List ℕ → List ℕ
    blanks_dropped s = drop (leading is_blank s) s

abbrev pub tokens : List ℕ → List Token
tokens s = tokens_in (length s) (drop (leading is_blank s) s)

abbrev pub is_unreadable : Token → Bool
is_unreadable plus = false
is_unreadable minus = false
is_unreadable dot = false
is_unreadable (number z) = false
is_unreadable (name n) = false
is_unreadable unreadable = true

unfoldable pub any_unreadable : List Token → Bool
any_unreadable [] = false
any_unreadable (t ∷ ts) = is_unreadable t || any_unreadable ts

-- what an evaluation comes to: a value, none where a name has no value yet, or a refusal
abbrev pub Evaluated : Type 0
Evaluated = Result (Option ℤ) ℕ

-- signs, as `sign_times` takes them
abbrev pub positive : Bool
positive = false

abbrev pub negative : Bool
negative = true

-- what is to come: a term, with the sign that joins it and the sign that its own minus signs make; or `+` or `-`
pub data Wanted : Type 0 where
  term : (joining own : Bool) → Wanted
  joint : Wanted

abbrev pub on_fit : Option ℤ → (ℤ → Evaluated) → Evaluated
on_fit None f = Err 24
on_fit (Some z) f = f z

-- "24 a term times its own signs, that product times the joining operator, or a partial sum, beyond 64 signed bits"
abbrev pub add_term : ℤ → (joining own : Bool) → ℤ → (ℤ → Evaluated) → Evaluated
add_term sum joining own z f =
    on_fit (fit64 (sign_times own z)) (λ p. on_fit (fit64 (sign_times joining p)) (λ q. on_fit (fit64 (sum +ℤ q)) f))

abbrev pub on_name : Option ℤ → (ℤ → Evaluated) → Evaluated
on_name None f = Ok None
on_name (Some z) f = f z

-- "Terms, each negated by every `-` just before it, are added left to right in 64 signed bits"; 16 where a term or an operator is missing
unfoldable pub sum_from : (List ℕ → Option ℤ) → ℤ → ℤ → Wanted → List Token → Evaluated
sum_from look here sum (term joining own) [] = Err 16
sum_from look here sum joint [] = Ok (Some sum)
sum_from look here sum (term joining own) (plus ∷ ts) = sum_from look here sum (term joining own) ts
sum_from look here sum (term joining own) (minus ∷ ts) = sum_from look here sum (term joining (not own)) ts
sum_from look here sum (term joining own) (dot ∷ ts) = add_term sum joining own here (λ z. sum_from look here z joint ts)
sum_from look here sum (term joining own) (number v ∷ ts) = add_term sum joining own v (λ z. sum_from look here z joint ts)
sum_from look here sum (term joining own) (name n ∷ ts) =
    on_name (look n) (λ v. add_term sum joining own v (λ z. sum_from look here z joint ts))
sum_from look here sum (term joining own) (unreadable ∷ ts) = Err 16
sum_from look here sum joint (plus ∷ ts) = sum_from look here sum (term positive positive) ts
sum_from look here sum joint (minus ∷ ts) = sum_from look here sum (term negative positive) ts
sum_from look here sum joint (dot ∷ ts) = Err 16
sum_from look here sum joint (number v ∷ ts) = Err 16
sum_from look here sum joint (name n ∷ ts) = Err 16
sum_from look here sum joint (unreadable ∷ ts) = Err 16

-- "its expression left to right with unreadable tokens first"; `look` gives a name's value, `here` is `.`
unfoldable pub evaluate : (List ℕ → Option ℤ) → ℤ → List ℕ → Evaluated
evaluate look here s = cond (any_unreadable (tokens s)) (Err 16) (sum_from look here (pos 0) (term positive positive) (tokens s))
