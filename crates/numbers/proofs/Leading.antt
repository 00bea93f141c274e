-- How many bytes a text begins with that meet a test, and the place of a byte, in the library's terms.
use Rattle.std.specs.Prelude.{ℕ, List, [], ◌∷◌, Bool, true, false, cond, not, ◌≡◌, ◌+◌, suc, eqb, ltb, length, Option, None, Some}
use Rattle.std.specs.List.{position_or_len, position}
use Rattle.std.specs.Option.{unwrap_or}
use borrow.Author.Tests.{ltb-false}
use Rattle.std.proofs.lemmas.List.Sums.{prefix_len-le-length}
use Rattle.std.proofs.Common.{refl, arith, ap}
use Rattle.numbers.specs.Text.{leading, index_of}

-- they end where the test first fails
pub leading_position : (test : ℕ → Bool) (s : List ℕ) → leading test s ≡ position_or_len (λ x. not (test x)) s
unfolding leading
leading_position test [] = refl
leading_position test (x ∷ xs) = by (test x) (leading_position test xs)
  where
    by : (t : Bool) → leading test xs ≡ position_or_len (λ y. not (test y)) xs
        → cond t (suc (leading test xs)) 0 ≡ cond (not (not t)) (1 + position_or_len (λ y. not (test y)) xs) 0
    by true h = omega (arith, h)
    by false h = refl

-- those before the first b are other bytes
pub index_leading : (b : ℕ) (s : List ℕ) → index_of b s ≡ leading (λ x. not (eqb x b)) s
unfolding leading index_of
index_leading b [] = refl
index_leading b (x ∷ xs) = by (eqb x b) (index_leading b xs)
  where
    by : (t : Bool) → index_of b xs ≡ leading (λ y. not (eqb y b)) xs → cond t 0 (suc (index_of b xs)) ≡ cond (not t) (suc (leading (λ y. not (eqb y b)) xs)) 0
    by true h = refl
    by false h = ap suc h

-- what the library finds first, or else the end
module _ {X : Type 0} (p : X → Bool) (s : List X) where
  position_end : unwrap_or (position p s) (length s) ≡ position_or_len p s
  position_end = by (ltb (position_or_len p s) (length s)) refl
    where
      by : (t : Bool) → ltb (position_or_len p s) (length s) ≡ t → unwrap_or (cond t (Some (position_or_len p s)) None) (length s) ≡ position_or_len p s
      by true h = refl
      by false h = omega (arith, ltb-false (position_or_len p s) (length s) h, prefix_len-le-length (λ x. not (p x)) s)

pub leading_found : (test : ℕ → Bool) (s : List ℕ) (r : Option ℕ) → r ≡ position (λ x. not (test x)) s → unwrap_or r (length s) ≡ leading test s
leading_found test s r e = rw (e, leading_position test s) (position_end (λ x. not (test x)) s)
