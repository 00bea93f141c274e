-- Results and options: which are never equal, and what equal ones hold.
use Prim.Native.Nat.{ℕ}
use mathlib.Core.Path.{◌≡◌, refl, sym, ap, ◌∙◌}
use Rattle.std.proofs.Common.{Option, None, Some}
use Rattle.std.specs.Option.{ok_or}
use native.Mathlib.Omega.{arith}
use Rattle.std.proofs.Common.{Result, Ok, Err}
use Rattle.std.specs.Result.{MatchResult, IsErrAnd}
use Rattle.layout.specs.declared.refusal.Refusal.{Refusal}
use Rattle.layout.specs.declared.refusal.RefusedAt.{RefusedAt}

module _ {R A : Type 0} where
  pub refused-value : {r : R} {a : A} → ◌≡◌ {A = Result A R} (Err r) (Ok a) → ⊥
  refused-value e = let q : ◌≡◌ {A = ℕ} 0 1 = cc in omega arith

  pub value-refused : {r : R} {a : A} → ◌≡◌ {A = Result A R} (Ok a) (Err r) → ⊥
  value-refused e = let q : ◌≡◌ {A = ℕ} 0 1 = cc in omega arith

  pub value_same : {a b : A} → ◌≡◌ {A = Result A R} (Ok a) (Ok b) → a ≡ b
  value_same e = cc

  pub refused-same : {r s : R} → ◌≡◌ {A = Result A R} (Err r) (Err s) → r ≡ s
  refused-same e = cc

  -- what `ok_or` passes on, and that it passes nothing on
  pub given : (o : Option A) (r : R) {a : A} → ok_or o r ≡ Ok a → o ≡ Some a
  given (Some a) r e = ap Some (value_same e)
  given None r e = absurd (refused-value e)

  pub missing : (o : Option A) (r : R) {s : R} → ok_or o r ≡ Err s → o ≡ None
  missing (Some a) r e = absurd (value-refused e)
  missing None r e = refl

pub some_same : {A : Type 0} {x y : A} → Some x ≡ Some y → x ≡ y
some_same e = cc

-- a refusal that is made one at a line is a refusal there
module _ {A : Type 0} (line : ℕ) {P : Refusal → RefusedAt → Type 0} (made : (e : Refusal) (d : RefusedAt) → P e d → d ≡ record { refusal = e; line = line }) where
  pub refused_there : (r : Result A Refusal) (q : Result A RefusedAt) (d : RefusedAt) → MatchResult r (λ x. q ≡ Ok x) (λ e. IsErrAnd q (P e)) → q ≡ Err d
      → (r ≡ Err d.refusal) × (d.line ≡ line)
  refused_there (Ok x) q d h e = absurd (value-refused (sym h ∙ e))
  refused_there (Err f) (Ok x) d h e = absurd h
  refused_there (Err f) (Err d') d h e =
      let same = sym (refused-same e) ∙ made f d' h in
      (ap (λ (x : RefusedAt). Err x.refusal) (sym same), ap (λ (x : RefusedAt). x.line) same)
