-- Names looked up in a scope: an equate's value, else a label's address; and what a look-up keeps as equates are found.
use Prim.Native.Nat.{ℕ}
use mathlib.Core.Path.{◌≡◌, refl}
use mathlib.Core.List.{List}
use Rattle.std.proofs.Common.{Option, None, Some}
use Rattle.std.specs.Option.{MatchOption, IsSomeAnd}
use lib.IntN.{ℤ, pos}
use Rattle.layout.specs.Addresses.{label_address}
use Rattle.layout.specs.Rounds.{constant}
use Rattle.layout.specs.Code.Names.{Scope, look_in}

module _ (names : Scope) (n : List ℕ) where
  pub look-equate : (z : ℤ) → Some z ≡ constant names.known n → Some z ≡ look_in names n
  unfolding look_in
  look-equate z e = rw (← e) refl

  -- a label's address is widened
  pub look-label : None ≡ constant names.known n → (o : Option ℕ) → o ≡ label_address names.base names.state n
      → (r : Option ℤ) → MatchOption o (r ≡ None) (λ a. IsSomeAnd r (λ z. z ≡ pos a)) → r ≡ look_in names n
  unfolding look_in
  look-label e None l r w = rw (w, ← e, ← l) refl
  look-label e (Some a) l None w = absurd w
  look-label e (Some a) l (Some z) w = rw (w, ← e, ← l) refl
