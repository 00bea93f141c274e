-- Names of labels: the first byte, and the others, all of them or one by one.
use Prim.Native.Nat.{ℕ, ◌+◌, ◌≤◌, ◌<◌}
use native.Mathlib.Numerals.{add-one}
use mathlib.Core.Path.{◌≡◌, refl, ap}
use mathlib.Core.Bool.{true, false, ◌&&◌, ◌||◌}
use mathlib.Core.List.{List, [], ◌∷◌}
use Rattle.std.specs.List.{list_all}
use lib.ListN.{length, drop, get_or, drop_of_length-le}
use lib.Seq.{drop-cons}
use Rattle.numbers.specs.Text.{is_digit}
use Rattle.layout.specs.Directives.{is_label_start, all_label_bytes, is_label_name}

-- a name: its first byte, then the others
pub name-first : (s : List ℕ) → (length s ≡ 0 → ⊥) → is_label_name s ≡ is_label_start (get_or s 0 0) && all_label_bytes (drop 1 s)
name-first [] h = absurd (h refl)
name-first (x ∷ xs) h = refl

-- the others are tested one by one
pub names_all : (s : List ℕ) → all_label_bytes s ≡ list_all (λ b. is_label_start b || is_digit b) s
unfolding all_label_bytes
names_all [] = refl
names_all (x ∷ xs) = ap (λ r. (is_label_start x || is_digit x) && r) (names_all xs)

-- from a place on: one that a name may have, one that it may not, and none left
module _ (s : List ℕ) (i : ℕ) (h : i < length s) where
  pub name_more : is_label_start (get_or s i 0) || is_digit (get_or s i 0) ≡ true → all_label_bytes (drop (i + 1) s) ≡ all_label_bytes (drop i s)
  unfolding all_label_bytes
  name_more e = rw (add-one i, drop-cons s i 0 h, all_label_bytes, e) refl

  pub name-stop : is_label_start (get_or s i 0) || is_digit (get_or s i 0) ≡ false → false ≡ all_label_bytes (drop i s)
  unfolding all_label_bytes
  name-stop e = rw (drop-cons s i 0 h, all_label_bytes, e) refl

pub name_end : (s : List ℕ) (i : ℕ) → length s ≤ i → true ≡ all_label_bytes (drop i s)
unfolding all_label_bytes
name_end s i h = rw (drop_of_length-le s h) refl
