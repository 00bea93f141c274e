-- What the code answers for a string: where its text stands, and how many bytes that stands for.
use Rattle.std.specs.Prelude.{ℕ, ◌+◌, min, List, [], false, length, drop}
use Rattle.std.specs.Prelude.{Option, None, Some}
use Rattle.numbers.specs.Text.{byte, index_of, leading_spaces}
use Rattle.numbers.specs.Strings.{Char, char, decoded, to_quote, string_bytes}
use Rattle.numbers.specs.declared.text.Span.{Span}
use Rattle.numbers.specs.declared.strings.Quoted.{Quoted}
use Rattle.numbers.specs.declared.strings.Char as code
use Rattle.numbers.specs.declared.strings.Char.TheVariants as character

-- the byte that a character stands for, and how many bytes it takes behind its first
abbrev pub char_value : code.Char → Option Char
char_value (character.Is b n) = Some (char b n)
char_value character.Invalid = None

-- how many bytes an answer has
abbrev pub size_of : Option (List ℕ) → Option ℕ
size_of None = None
size_of (Some bs) = Some (length bs)

-- the bytes of an answer; the empty list where there is no answer
abbrev pub bytes_of : Option (List ℕ) → List ℕ
bytes_of None = []
bytes_of (Some bs) = bs

-- the bytes that the text between two quotes stands for
abbrev pub decoded_bytes : List ℕ → List ℕ
decoded_bytes s = bytes_of (decoded s)

-- how many bytes stand before the first quote or backslash
abbrev pub plain_len : List ℕ → ℕ
plain_len s = min (index_of (byte "\"") s) (index_of (byte "\\") s)

-- a part of a text, and how many bytes it stands for
abbrev pub sized : Span → Option ℕ → Option Quoted
sized p None = None
sized p (Some n) = Some (record { part = p; size = n })

-- the text from a place of s to the next unescaped quote, which stands for these bytes, or for none
abbrev pub quoted_from : List ℕ → ℕ → Option (List ℕ) → Option Quoted
quoted_from s at bytes = sized (record { start = at; len = to_quote false (drop at s) }) (size_of bytes)

-- where the text between a string's quotes stands in s, and how many bytes it stands for (proofs/QuoteLaws.antt ties it to `string_bytes`:
-- `quoted_bytes`, `quoted_none`)
unfoldable pub quoted_at : List ℕ → Option Quoted
quoted_at s = quoted_from s (leading_spaces s + 1) (string_bytes s)
