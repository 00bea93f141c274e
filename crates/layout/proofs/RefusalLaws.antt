-- Refusals by their numbers: what holds of every number in a list, and refusals of one of its numbers at one of the first lines.
use Rattle.encoder.specs.declared.error.EncodeError.TheVariants as encoding
use Rattle.layout.specs.declared.refusal.Refusal as code_refusal
use Rattle.layout.specs.declared.refusal.Refusal.TheVariants as refusal
use Rattle.layout.specs.Code.Numbers.{refusal_number}
use Prim.Native.Nat.{ℕ, ◌<◌}
use native.Mathlib.Omega.{arith}
use mathlib.Core.Path.{◌≡◌, refl, sym, ◌∙◌, ap}
use mathlib.Core.List.{List, [], ◌∷◌}
use mathlib.Core.Bool.{Bool, true, false, ◌||◌, ◌&&◌, false≢true}
use lib.Dec.{eqb}
use borrow.Author.Tests.{eqb-true}
use Rattle.std.proofs.Common.{Result, Ok, Err}
use Rattle.numbers.proofs.Bools.{and_left, and_right}
use Rattle.layout.specs.Refusals.{Refusal, at_line, is_in}
use Rattle.layout.proofs.Gives.{Comes}

abbrev pub all_of : (ℕ → Bool) → List ℕ → Bool
all_of P [] = true
all_of P (n ∷ ns) = P n && all_of P ns

-- what holds of a list's numbers holds of one of them: for fixed lists by computing
pub in_all : (P : ℕ → Bool) (ns : List ℕ) → all_of P ns ≡ true → (n : ℕ) → is_in ns n ≡ true → P n ≡ true
in_all P [] h n e = absurd (false≢true e)
in_all P (m ∷ ms) h n e = by (eqb m n) refl e (in_all P ms (and_right (P m) (all_of P ms) h) n)
  where
    by : (c : Bool) → eqb m n ≡ c → c || is_in ms n ≡ true → (is_in ms n ≡ true → P n ≡ true) → P n ≡ true
    by true q e more = ap P (sym (eqb-true m n q)) ∙ and_left (P m) (all_of P ms) h
    by false q e more = more e

-- a refusal of one of these numbers, at one of the first m lines
abbrev pub Said : List ℕ → ℕ → Refusal → Type 0
Said ns m r = (is_in ns r.number ≡ true) × (r.line < m)

-- what a line's rule says is said there
pub at_line_said : {A : Type 0} (P : A → Type 0) (ns : List ℕ) (line m : ℕ) (x : Result A ℕ) → line < m
    → Comes P (λ n. is_in ns n ≡ true) x → Comes P (Said ns m) (at_line line x)
at_line_said P ns line m (Ok a) h g = g
at_line_said P ns line m (Err n) h g = (g, h)

-- a refusal's number says that it is one
pub number_positive : (r : code_refusal.Refusal) → refusal_number r ≡ 0 → ⊥
number_positive refusal.HighByte e = absurd (omega arith)
number_positive refusal.MissingSectionName e = absurd (omega arith)
number_positive refusal.UnknownSection e = absurd (omega arith)
number_positive refusal.MissingSymbol e = absurd (omega arith)
number_positive refusal.MalformedEquate e = absurd (omega arith)
number_positive refusal.InvalidNumber e = absurd (omega arith)
number_positive refusal.NumberOutOfRange e = absurd (omega arith)
number_positive refusal.InvalidWord e = absurd (omega arith)
number_positive refusal.InvalidString e = absurd (omega arith)
number_positive refusal.UnknownDataDirective e = absurd (omega arith)
number_positive refusal.UnknownBssDirective e = absurd (omega arith)
number_positive refusal.StoresInBss e = absurd (omega arith)
number_positive refusal.UndefinedLabelWord e = absurd (omega arith)
number_positive refusal.EquateIsLabel e = absurd (omega arith)
number_positive refusal.DuplicateEquate e = absurd (omega arith)
number_positive refusal.MalformedExpression e = absurd (omega arith)
number_positive refusal.UnresolvedEquate e = absurd (omega arith)
number_positive refusal.WrongOperands e = absurd (omega arith)
number_positive refusal.UnknownConstant e = absurd (omega arith)
number_positive refusal.UnknownLabel e = absurd (omega arith)
number_positive refusal.Unsupported e = absurd (omega arith)
number_positive (refusal.Encoding encoding.BadRegister) e = absurd (omega arith)
number_positive (refusal.Encoding encoding.BadField) e = absurd (omega arith)
number_positive refusal.ExpressionOverflow e = absurd (omega arith)
number_positive refusal.BaseTooHigh e = absurd (omega arith)
number_positive refusal.TextTooLong e = absurd (omega arith)
number_positive refusal.DataFull e = absurd (omega arith)
number_positive refusal.BssFull e = absurd (omega arith)
number_positive refusal.WordsFull e = absurd (omega arith)
number_positive refusal.LabelsFull e = absurd (omega arith)
number_positive refusal.EquatesFull e = absurd (omega arith)
number_positive refusal.LabelWordsFull e = absurd (omega arith)
number_positive refusal.ItemsFull e = absurd (omega arith)
