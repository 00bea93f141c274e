-- The numbers that are lent room, one by one: each stands at its own place, and beyond the room there is none.
use Prim.Native.Nat.{ℕ, zero, suc, ◌+◌, ◌≤◌, ◌<◌}
use native.Mathlib.Nat.{sub-zero, suc-sub-suc, not-suc-le-zero, le_of_suc-le-suc}
use mathlib.Core.Path.{◌≡◌, refl, ap₂, ◌∙◌}
use mathlib.Core.List.{List, [], ◌∷◌, ◌++◌, append-nil}
use lib.ListN.{length, take, drop, get_or, set, get_or-replicate, drop_of_length-le}
use lib.Seq.{take_all}
use Rattle.layout.proofs.ByteLaws.{copied_more}
use Rattle.jig.specs.Called.{numbers_lent}
use Rattle.jig.proofs.CalledLaws.{length_lent}

-- where there is room, each number stands at its own place
lent_at : (n i : ℕ) (xs : List ℕ) → i < n → get_or (numbers_lent n xs) i 0 ≡ get_or xs i 0
lent_at zero i xs h = absurd (not-suc-le-zero h)
lent_at (suc n) i [] h = rw (sub-zero (suc n)) (get_or-replicate (suc n) i 0 0 h)
lent_at (suc n) zero (x ∷ xs) h = refl
lent_at (suc n) (suc i) (x ∷ xs) h = rw (suc-sub-suc n (length (take n xs))) (lent_at n i xs (le_of_suc-le-suc h))

pub lent_more : (xs dst : List ℕ) (i v : ℕ) → i < length dst → v ≡ get_or xs i 0
    → set (take i (numbers_lent (length dst) xs) ++ drop i dst) i v ≡ take (i + 1) (numbers_lent (length dst) xs) ++ drop (i + 1) dst
lent_more xs dst i v h e =
    rw (e, ← lent_at (length dst) i xs h)
    (copied_more (numbers_lent (length dst) xs) dst i (rw (length_lent (length dst) xs) h) h)

pub lent_all : (xs dst : List ℕ) (i : ℕ) → length dst ≤ i → take i (numbers_lent (length dst) xs) ++ drop i dst ≡ numbers_lent (length dst) xs
lent_all xs dst i h =
    ap₂ (λ (a b : List ℕ). a ++ b) (take_all i (numbers_lent (length dst) xs) (rw (length_lent (length dst) xs) h)) (drop_of_length-le dst {i = i} h)
    ∙ append-nil (numbers_lent (length dst) xs)
