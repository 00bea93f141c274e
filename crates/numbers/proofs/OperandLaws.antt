-- Item operands one after the other from a place on, and one of them read where it stands.
use Rattle.std.proofs.Common.{None, Option, Some, ℤ}
use Rattle.numbers.specs.declared.registers.Register.{Register}
use Prim.Native.Nat.{ℕ}
use mathlib.Core.Path.{◌≡◌, refl, sym, ap, ◌∙◌}
use mathlib.Core.List.{List, [], ◌∷◌}
use Rattle.numbers.specs.declared.text.Span.{Span}
use Rattle.numbers.specs.Text.{one_spaced}
use Rattle.numbers.specs.Registers.{register_of}
use Rattle.numbers.specs.Numbers.{imm_of, spaced_imm_of}
use Rattle.numbers.specs.Code.Meanings.{register_number}
use Rattle.numbers.specs.Code.Spans.{spanned}
use Rattle.numbers.specs.Code.Cursors.{item_operand_at, spaced_operands_from}
use Rattle.numbers.proofs.Parts.{item-step, item_end}
use Rattle.numbers.proofs.SpacedNumbers.{register_spaced}

module _ (s : List ℕ) (at : ℕ) where
  pub operands_end : item_operand_at s at ≡ None → spaced_operands_from s at ≡ []
  operands_end e = rw (item_end s at e) refl

  pub operands_next : (p : Span) (next : ℕ) → item_operand_at s at ≡ Some (p, next) → spaced_operands_from s at ≡ one_spaced (spanned s p) ∷ spaced_operands_from s next
  operands_next p next e = rw (item-step s at p next e) refl

-- an operand read as a register, and as a number
pub register-read : (s b : List ℕ) (r : Option Register) → register_number r ≡ register_of b → b ≡ s → register_of (one_spaced s) ≡ register_number r
register-read s b r e f = register_spaced s ∙ ap register_of (sym f) ∙ sym e

pub number_read : (s b : List ℕ) (r : Option ℤ) → r ≡ spaced_imm_of b → b ≡ s → imm_of (one_spaced s) ≡ r
unfolding spaced_imm_of
number_read s b r e f = ap (λ (x : List ℕ). imm_of (one_spaced x)) (sym f) ∙ sym e
