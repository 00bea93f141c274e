-- A string of the data section, with its escapes. Document 02, W-201, and the GNU as manual, "Strings".
use Rattle.std.specs.Prelude.{ℕ, zero, suc, min, List, [], ◌∷◌, Bool, true, false, cond, ◌&&◌, ◌||◌, leb, ltb, eqb, length, get_or, take, drop}
use Rattle.std.specs.Prelude.{Option, None, Some}
use Rattle.numbers.specs.Text.{byte, is_digit, leading, leading_spaces}
use Rattle.numbers.specs.Numbers.{value_from}

-- ---- characters

-- a character of a string: the byte that it stands for, and how many bytes it takes behind its first
pub record Char : Type 0 where
  pub is : ℕ
  pub more : ℕ

abbrev pub char : ℕ → ℕ → Char
char b n = record { is = b; more = n }

-- "`\b \f \n \r \t \\ \"`", the simple escapes, by the byte behind the backslash; "another escape .. is 9"
abbrev pub simple_escape : ℕ → Option Char
simple_escape e =
    cond (eqb e (byte "b")) (Some (char 8 1))
    (cond (eqb e (byte "f")) (Some (char 12 1))
    (cond (eqb e (byte "n")) (Some (char 10 1))
    (cond (eqb e (byte "r")) (Some (char 13 1))
    (cond (eqb e (byte "t")) (Some (char 9 1))
    (cond (eqb e (byte "\\")) (Some (char (byte "\\") 1))
    (cond (eqb e (byte "\"")) (Some (char (byte "\"") 1))
    None))))))

-- "one to three octal digits": how many a text begins with; the GNU as manual: "8 and 9 are accepted as digits"
abbrev pub octal_len : List ℕ → ℕ
octal_len s = min 3 (leading is_digit s)

abbrev pub octal_value : List ℕ → ℕ
octal_value s = value_from 8 0 (take (octal_len s) s)

-- "up to 377": "an octal above 377 .. is 9"
abbrev pub octal_is : ℕ → ℕ → Option Char
octal_is v n = cond (leb v 255) (Some (char v n)) None

unfoldable pub octal_of : List ℕ → Option Char
octal_of s = octal_is (octal_value s) (octal_len s)

-- an escape, by what stands behind its backslash; behind the text's end stands no escape's byte
unfoldable pub escape_of : List ℕ → Option Char
escape_of s = cond (is_digit (get_or s 0 0)) (octal_of s) (simple_escape (get_or s 0 0))

-- the character that a text begins with: a byte or an escape
unfoldable pub char_of : List ℕ → Option Char
char_of [] = None
char_of (x ∷ xs) = cond (eqb x (byte "\\")) (escape_of xs) (Some (char x 0))

-- ---- what stands between the quotes

abbrev pub consed : ℕ → Option (List ℕ) → Option (List ℕ)
consed b None = None
consed b (Some bs) = Some (b ∷ bs)

-- a character's byte before those of what stands behind it
abbrev pub then_rest : Option Char → (ℕ → Option (List ℕ)) → Option (List ℕ)
then_rest None rest = None
then_rest (Some c) rest = consed c.is (rest c.more)

-- the bytes of a text's characters, n bytes of which belong to the character before
unfoldable pub decoded_from : ℕ → List ℕ → Option (List ℕ)
decoded_from n [] = Some []
decoded_from (suc n) (x ∷ xs) = decoded_from n xs
decoded_from zero (x ∷ xs) = then_rest (char_of (x ∷ xs)) (λ n. decoded_from n xs)

-- the bytes that the text between two quotes stands for, or none where it has "another escape" or "an octal above 377"
abbrev pub decoded : List ℕ → Option (List ℕ)
decoded s = decoded_from 0 s

-- ---- a string in its line

-- "the string runs to the next unescaped quote": how many bytes stand before it, all where there is none; a backslash escapes the byte
-- behind it
unfoldable pub to_quote : Bool → List ℕ → ℕ
to_quote escaped [] = 0
to_quote true (x ∷ xs) = suc (to_quote false xs)
to_quote false (x ∷ xs) = cond (eqb x (byte "\"")) 0 (suc (to_quote (eqb x (byte "\\")) xs))

-- a comment mark
abbrev pub is_comment : ℕ → Bool
is_comment b = eqb b (byte ";") || eqb b (byte "#")

-- no bytes, or a comment
abbrev is_end : List ℕ → Bool
is_end [] = true
is_end (x ∷ xs) = is_comment x

-- "text beside the string but for a comment after it" is 9: behind it stands white space, then the end or a comment mark
unfoldable pub nothing_beside : List ℕ → Bool
nothing_beside s = is_end (drop (leading_spaces s) s)

-- a string behind its first quote, to the line's end; none where it has "no closing quote, or text beside the string"
unfoldable pub quoted_of : List ℕ → Option (List ℕ)
quoted_of s =
    cond (ltb (to_quote false s) (length s) && nothing_beside (drop (suc (to_quote false s)) s))
    (decoded (take (to_quote false s) s))
    None

abbrev pub opened_of : List ℕ → Option (List ℕ)
opened_of [] = None
opened_of (x ∷ xs) = cond (eqb x (byte "\"")) (quoted_of xs) None

-- what stands from behind a string directive to the line's end, white space and then the string: the string's bytes, or none where it is no
-- string
unfoldable pub string_bytes : List ℕ → Option (List ℕ)
string_bytes s = opened_of (drop (leading_spaces s) s)
