-- What follows from an answer that agrees with a definition; a step of a part is a step of the whole that has it, for any part and any whole.
use mathlib.Core.Path.{◌≡◌, refl, sym, ap}
use Rattle.std.proofs.Common.{Result, Ok, Err}
use Rattle.numbers.specs.Results.{and_then, mapped}
use Rattle.layout.specs.Code.Steps.{Agrees}

module _ {R C A : Type 0} (P : C → A → Type 0) where
  -- the definition's value, that the code's stands for
  pub record Agreed (c : C) (x : Result A R) : Type 0 where
    pub it : A
    pub is : x ≡ Ok it
    pub stands : P c it

  pub agreed : (c : C) (x : Result A R) → Agrees P (Ok c) x → Agreed c x
  agreed c (Ok a) q = record { it = a; is = refl; stands = q }
  agreed c (Err r) q = absurd q

  pub agreed_refused : (r : R) (x : Result A R) → Agrees P (Err r) x → x ≡ Err r
  agreed_refused r (Ok a) q = absurd q
  agreed_refused r (Err s) q = ap (λ (z : R). Err z) (sym q)

module _ {R C A D B : Type 0} (P : C → A → Type 0) (Q : D → B → Type 0) (r : Result C R) where
  -- the part goes on, and so does the whole
  pub lift_go : (m : Result A R) (g : A → B) (c : C) (d : D) → r ≡ Ok c → Agrees P r m → ((a : A) → P c a → Q d (g a))
      → Agrees Q (Ok d) (mapped g m)
  lift_go (Ok a) g c d e q f = f a (rw e at q)
  lift_go (Err n) g c d e q f = absurd (rw e at q)

  -- the part refuses, and so does the whole
  pub lift_stop : (m : Result A R) (g : A → B) (n : R) → r ≡ Err n → Agrees P r m → Agrees Q (Err n) (mapped g m)
  lift_stop (Ok a) g n e q = absurd (rw e at q)
  lift_stop (Err m) g n e q = rw e at q

  -- a rule after another
  pub then_go : (m : Result A R) (f : A → Result B R) (c : C) (s : Result D R) → r ≡ Ok c → Agrees P r m
      → ((a : A) → P c a → Agrees Q s (f a)) → Agrees Q s (and_then m f)
  then_go (Ok a) f c s e q g = g a (rw e at q)
  then_go (Err n) f c s e q g = absurd (rw e at q)

  pub then_stop : (m : Result A R) (f : A → Result B R) (n : R) → r ≡ Err n → Agrees P r m → Agrees Q (Err n) (and_then m f)
  then_stop (Ok a) f n e q = absurd (rw e at q)
  then_stop (Err m) f n e q = rw e at q
