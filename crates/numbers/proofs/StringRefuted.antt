-- Wrong answers for a string: whatever gives one does not meet the contract of `parse_string`.
use Rattle.std.proofs.Common.{None, Some}
use Prim.Native.Nat.{ℕ}
use mathlib.Core.Path.{◌≡◌, ap}
use native.Mathlib.Omega.{arith}
use Rattle.numbers.specs.declared.strings.Quoted.{Quoted}
use Rattle.numbers.specs.Text.{text, leading}
use Rattle.numbers.specs.Numbers.{value_from}
use Rattle.numbers.specs.Strings.{octal_of, escape_of, char_of, decoded_from, to_quote, nothing_beside, quoted_of, string_bytes}
use Rattle.numbers.specs.Code.Strings.{quoted_at}

-- an escaped quote ends no string
pub escaped_quote : (q : Quoted) → (Some q) ≡ quoted_at (text "\"a\\\"") → ⊥
unfolding quoted_at string_bytes quoted_of to_quote nothing_beside decoded_from char_of escape_of octal_of leading
escaped_quote q r = let z : ◌≡◌ {A = ℕ} 0 1 = cc r in omega arith

-- a comment mark ends none
pub mark_inside : None ≡ quoted_at (text "\"#\"") → ⊥
unfolding quoted_at string_bytes quoted_of to_quote nothing_beside decoded_from char_of escape_of octal_of leading
mark_inside r = let z : ◌≡◌ {A = ℕ} 0 1 = cc r in omega arith

-- an octal above 377 stands for no byte
pub octal_400 : (q : Quoted) → (Some q) ≡ quoted_at (text "\"\\400\"") → ⊥
unfolding quoted_at string_bytes quoted_of to_quote nothing_beside decoded_from char_of escape_of octal_of leading value_from
octal_400 q r = let z : ◌≡◌ {A = ℕ} 0 1 = cc r in omega arith

-- an escape is not stored as it is written
pub escape_kept : (q : Quoted) → (Some q) ≡ quoted_at (text "\"\\n\"") → q.size ≡ 2 → ⊥
unfolding quoted_at string_bytes quoted_of to_quote nothing_beside decoded_from char_of escape_of octal_of leading
escape_kept q r e = let one : q ≡ record { part = record { start = 1; len = 2 }; size = 1 } = cc in omega (arith, e, ap (λ (x : Quoted). x.size) one)
