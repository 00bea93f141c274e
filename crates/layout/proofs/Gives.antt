-- What a rule comes to, by a property of its value and one of its refusal.
use Prim.Native.Nat.{ℕ}
use Rattle.std.proofs.Common.{Result, Ok, Err}
use Rattle.numbers.specs.Results.{and_then, mapped}
use Rattle.layout.specs.Refusals.{Refusal, at_line}

module _ {R A : Type 0} where
  -- P of the value, or Q of the refusal
  abbrev pub Comes : (A → Type 0) → (R → Type 0) → Result A R → Type 0
  Comes P Q (Ok a) = P a
  Comes P Q (Err r) = Q r

  -- P of the value, if there is one
  abbrev pub Gives : (A → Type 0) → Result A R → Type 0
  Gives P r = Comes P (λ _. Unit) r

  -- of which nothing is said
  pub gives_any : (x : Result A R) → Gives (λ _. Unit) x
  gives_any (Ok a) = tt
  gives_any (Err r) = tt

  -- what follows from both
  pub comes_so : (P P' : A → Type 0) (Q Q' : R → Type 0) → ((a : A) → P a → P' a) → ((r : R) → Q r → Q' r)
      → (x : Result A R) → Comes P Q x → Comes P' Q' x
  comes_so P P' Q Q' f g (Ok a) h = f a h
  comes_so P P' Q Q' f g (Err r) h = g r h

module _ {R A B : Type 0} (P : A → Type 0) (P' : B → Type 0) (Q : R → Type 0) where
  -- a rule after another
  pub and_then_comes : (x : Result A R) (f : A → Result B R) → Comes P Q x → ((a : A) → P a → Comes P' Q (f a)) → Comes P' Q (and_then x f)
  and_then_comes (Ok a) f h more = more a h
  and_then_comes (Err r) f h more = h

  -- a function of the value
  pub mapped_comes : (f : A → B) (x : Result A R) → ((a : A) → P a → P' (f a)) → Comes P Q x → Comes P' Q (mapped f x)
  mapped_comes f (Ok a) g h = g a h
  mapped_comes f (Err r) g h = h

-- the same where nothing is said of a refusal
pub and_then_gives : {R A B : Type 0} (P : A → Type 0) (P' : B → Type 0) (x : Result A R) (f : A → Result B R) → Gives P x
    → ((a : A) → P a → Gives P' (f a)) → Gives P' (and_then x f)
and_then_gives P P' = and_then_comes P P' (λ _. Unit)

pub mapped_gives : {R A B : Type 0} (P : A → Type 0) (P' : B → Type 0) (f : A → B) (x : Result A R) → ((a : A) → P a → P' (f a)) → Gives P x
    → Gives P' (mapped f x)
mapped_gives P P' = mapped_comes P P' (λ _. Unit)

-- a line's rule, and the line where it refuses
pub at_line_comes : {A : Type 0} (P : A → Type 0) (Q : ℕ → Type 0) (line : ℕ) (x : Result A ℕ) → Q line → Gives P x
    → Comes P (λ (r : Refusal). Q r.line) (at_line line x)
at_line_comes P Q line (Ok a) q h = h
at_line_comes P Q line (Err n) q h = q
