-- A property of every element of a list.
use Prim.Native.Nat.{ℕ, zero, suc, ◌<◌}
use native.Mathlib.Nat.{not-suc-le-zero, le_of_suc-le-suc}
use lib.ListN.{length, get_or}
use mathlib.Core.List.{List, [], ◌∷◌, ◌++◌, map}
use mathlib.Core.Bool.{Bool, true, false, cond}
use Rattle.layout.specs.Code.Fits.{Each}

-- of one element and of the others
infixr 4 ◌and◌
pub ◌and◌ : {A B : Type 0} → A → B → A × B
a and b = (a, b)

module _ {A : Type 0} where
  -- what every element has, and more elements that have it
  pub each_append : (P : A → Type 0) (xs ys : List A) → Each P xs → Each P ys → Each P (xs ++ ys)
  each_append P [] ys g h = h
  each_append P (x ∷ xs) ys g h = (g.0, each_append P xs ys g.1 h)

  -- what follows from a property
  pub each_weaker : (P Q : A → Type 0) → ((x : A) → P x → Q x) → (xs : List A) → Each P xs → Each Q xs
  each_weaker P Q f [] g = tt
  each_weaker P Q f (x ∷ xs) g = (f x g.0, each_weaker P Q f xs g.1)

  -- both ways of a test have it
  pub cond_has : (P : A → Type 0) (c : Bool) (x y : A) → P x → P y → P (cond c x y)
  cond_has P true x y g h = g
  cond_has P false x y g h = h

  pub test_has : (P : A → Type 0) (c : Bool) (x y : A) → P x → P y → P (elim c [ true ↦ x | false ↦ y ])
  test_has P true x y g h = g
  test_has P false x y g h = h

pub each_map : {A B : Type 0} (P : A → Type 0) (Q : B → Type 0) (f : A → B) → ((x : A) → P x → Q (f x)) → (xs : List A) → Each P xs
    → Each Q (map f xs)
each_map P Q f h [] g = tt
each_map P Q f h (x ∷ xs) g = (h x g.0, each_map P Q f h xs g.1)

pub each_mapped : {A B : Type 0} (Q : B → Type 0) (f : A → B) (xs : List A) → Each Q (map f xs) → Each (λ x. Q (f x)) xs
each_mapped Q f [] g = tt
each_mapped Q f (x ∷ xs) g = (g.0, each_mapped Q f xs g.1)

-- the kth element
pub each_at : {A : Type 0} (P : A → Type 0) (rs : List A) (d : A) (k : ℕ) → Each P rs → k < length rs → P (get_or rs k d)
each_at P [] d k g h = absurd (not-suc-le-zero h)
each_at P (r ∷ rs) d zero g h = g.0
each_at P (r ∷ rs) d (suc k) g h = each_at P rs d k g.1 (le_of_suc-le-suc h)
