-- What the code's answers stand for: a base, a register's number, operands that were read. What it means that code comes to what a definition does.
use Rattle.std.specs.Prelude.{ℕ, ◌≡◌, List, Option, option_map, Result, Ok, Err}
use Rattle.numbers.specs.declared.digits.Radix.{Radix}
use Rattle.numbers.specs.declared.digits.Radix.TheVariants as radix
use Rattle.numbers.specs.declared.text.Span.{Span}
use Rattle.numbers.specs.declared.registers.Register.{Register}
use Rattle.numbers.specs.Text.{one_spaced}
use Rattle.numbers.specs.Operands.{RegisterAnd}
use Rattle.numbers.specs.Code.Spans.{spanned}

-- the three bases
abbrev pub base_of : Radix → ℕ
base_of radix.Binary = 2
base_of radix.Decimal = 10
base_of radix.Hex = 16

abbrev pub register_number : Option Register → Option ℕ
register_number = option_map (λ (r : Register). r.0)

-- operands that were read are spans of s; their white-space runs are one space
abbrev pub only_read : List ℕ → Option Span → Option (List ℕ)
only_read s = option_map (λ (p : Span). one_spaced (spanned s p))

abbrev pub register_and_read : List ℕ → Option (Register × Span) → Option RegisterAnd
register_and_read s = option_map (λ (p : Register × Span). record { register = p.0.0; last = one_spaced (spanned s p.1) })

-- the code's value stands by Q for the definition's, or both refuse alike
abbrev pub Agrees : {R C A : Type 0} → (C → A → Type 0) → Result C R → Result A R → Type 0
Agrees Q (Ok c) (Ok a) = Q c a
Agrees Q (Ok c) (Err n) = ⊥
Agrees Q (Err m) (Ok a) = ⊥
Agrees Q (Err m) (Err n) = m ≡ n
