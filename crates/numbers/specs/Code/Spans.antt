-- Parts of a text as spans: where each starts, and how many bytes it has.
use Rattle.std.specs.Prelude.{ℕ, ◌+◌, ◌-◌, List, cond, length, take, drop}
use Rattle.std.specs.Prelude.{Option, None, Some}
use Rattle.numbers.specs.declared.text.Span.{Span}
use Rattle.numbers.specs.Text.{leading_spaces, trimmed}
use Rattle.numbers.specs.Literals.{is_string}

-- the bytes of a span of s
unfoldable pub spanned : List ℕ → Span → List ℕ
spanned s p = take p.len (drop p.start s)

-- where the trimmed text stands in s
unfoldable pub trim_span : List ℕ → Span
trim_span s = record { start = leading_spaces s; len = length (trimmed s) }

-- where what stands between a string's quotes is in s (proofs/Quoted.antt ties it to `string_of`: `string-some`, `string-none`)
unfoldable pub str_lit_of : List ℕ → Option Span
str_lit_of s = cond (is_string (trimmed s)) (Some (record { start = leading_spaces s + 1; len = length (trimmed s) - 2 })) None
