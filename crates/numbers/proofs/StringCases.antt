-- Worked texts of document 02, W-201, by computing: what stands behind a string directive, to the line's end. In antt's quotes `\\` is a
-- backslash, `\"` a quote.
use Prim.Native.Nat.{ℕ}
use Prim.Native.String.{String}
use mathlib.Core.Path.{◌≡◌, refl}
use mathlib.Core.List.{List, [], ◌∷◌, ◌++◌, map}
use Rattle.std.proofs.Common.{Option, None, Some}
use Rattle.numbers.specs.Text.{text, leading}
use Rattle.numbers.specs.Numbers.{value_from}
use Rattle.numbers.specs.Strings.{octal_of, escape_of, char_of, decoded_from, to_quote, nothing_beside, quoted_of, string_bytes}
use Rattle.numbers.specs.Code.Strings.{quoted_at}

abbrev gives : String → Option (List ℕ)
gives s = string_bytes (text s)

abbrev one_byte : ℕ → Option (List ℕ)
one_byte b = Some (b ∷ [])

-- each escape; one to three digits, 8 and 9 among them; 377 is the last
abbrev escape_texts : List String
escape_texts =
    "\"\\b\"" ∷ "\"\\f\"" ∷ "\"\\n\"" ∷ "\"\\r\"" ∷ "\"\\t\"" ∷ "\"\\\\\"" ∷ "\"\\\"\"" ∷ "\"\\0\"" ∷ "\"\\8\"" ∷ "\"\\08\"" ∷
    "\"\\008\"" ∷ "\"\\009\"" ∷ "\"\\12\"" ∷ "\"\\99\"" ∷ "\"\\101\"" ∷ "\"\\377\"" ∷ []

-- digits after three; a letter and an escape after two; a quote after an escaped backslash; marks that mean nothing in a string; white space;
-- comments
abbrev string_texts : List String
string_texts =
    "\"\\1234\"" ∷ "\"\\08\\1234\"" ∷ "\"\\12n\"" ∷ "\"\\12\\12\"" ∷ "\"a\\\\\"" ∷ "\"a\\\"\"" ∷ "\"\\\\\\\"\"" ∷ "\"\"" ∷
    "\"x: y = 'z', #1;\"" ∷ "\" a \"" ∷ "\t \"a\"\t " ∷ "\"a\"#b" ∷ "\"a\" ; \"b\"" ∷ "\"a\" # \\" ∷ []

-- another escape, or one cut off; above 377; no quote, or none that closes; text beside
abbrev invalid_texts : List String
invalid_texts =
    "\"\\x41\"" ∷ "\"\\'\"" ∷ "\"\\a\"" ∷ "\"\\v\"" ∷ "\"\\q\"" ∷ "\"\\ n\"" ∷ "\"\\N\"" ∷ "\"\\" ∷ "\"\\12" ∷
    "\"\\400\"" ∷ "\"\\389\"" ∷ "\"\\378\"" ∷ "\"\\999\"" ∷
    "" ∷ " " ∷ "a" ∷ "\"" ∷ "\"a" ∷ "\"a\\\"" ∷ "\"a\\\\\\\"" ∷ "# \"a\"" ∷ "; \"a\"" ∷
    "z \"a\"" ∷ "\"a\" b" ∷ "\"a\"b" ∷ "\"a\" \"b\"" ∷ "\"a\",\"b\"" ∷ "\"a\" :" ∷ "\"a\"\"" ∷ "\\\"a\"" ∷ []

pub string-cases :
    -- the request's own
    (gives " \"12:40 #3;ok\\n\"" ≡ Some (text "12:40 #3;ok" ++ (10 ∷ [])))
    × (quoted_at (text " \"12:40 #3;ok\\n\"") ≡ Some (record { part = record { start = 2; len = 13 }; size = 12 }))
    × (map gives escape_texts ≡ map one_byte (8 ∷ 12 ∷ 10 ∷ 13 ∷ 9 ∷ 92 ∷ 34 ∷ 0 ∷ 8 ∷ 8 ∷ 8 ∷ 9 ∷ 10 ∷ 81 ∷ 65 ∷ 255 ∷ []))
    × (map gives string_texts
    ≡ Some (83 ∷ 52 ∷ []) ∷ Some (8 ∷ 83 ∷ 52 ∷ []) ∷ Some (10 ∷ 110 ∷ []) ∷ Some (10 ∷ 10 ∷ []) ∷ Some (97 ∷ 92 ∷ []) ∷ Some (97 ∷ 34 ∷ []) ∷
    Some (92 ∷ 34 ∷ []) ∷ Some [] ∷ Some (text "x: y = 'z', #1;") ∷ Some (text " a ") ∷ Some (text "a") ∷ Some (text "a") ∷ Some (text "a") ∷
    Some (text "a") ∷ [])
    -- CR behind the string; NUL, 11 and 12 in it
    × (string_bytes (text "\"a\"" ++ (13 ∷ [])) ≡ Some (text "a"))
    × (string_bytes (text "\"" ++ (0 ∷ 11 ∷ 12 ∷ []) ++ text "\"") ≡ Some (0 ∷ 11 ∷ 12 ∷ []))
    × (map gives invalid_texts ≡ map (λ (s : String). None) invalid_texts)
unfolding quoted_at string_bytes quoted_of to_quote nothing_beside decoded_from char_of escape_of octal_of leading value_from
string-cases = (refl, refl, refl, refl, refl, refl, refl)
