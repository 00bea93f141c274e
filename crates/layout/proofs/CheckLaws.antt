-- Bytes above 127: whether there is one, and the line of the first.
use Prim.Native.Nat.{ℕ, suc, ◌+◌, ◌≤◌, ◌<◌}
use native.Mathlib.Numerals.{add-one}
use mathlib.Core.Path.{◌≡◌, refl, sym, ap, ◌∙◌}
use mathlib.Core.List.{List, [], ◌∷◌}
use mathlib.Core.Bool.{Bool, true, false, cond, ◌||◌}
use lib.Dec.{ltb, eqb}
use lib.ListN.{length, drop, get_or, drop_of_length-le}
use lib.Seq.{drop-cons}
use borrow.Author.Tests.{lt-ltb, le-ltb, eq-eqb, ne_eqb}
use Rattle.numbers.proofs.Bools.{or_left, or_right}
use Rattle.std.proofs.Common.{Ok, Err}
use Rattle.layout.specs.Layouts.{check_bytes}
use Rattle.layout.specs.Code.Checks.{any_high}

or_assoc : (a b c : Bool) → (a || b) || c ≡ a || (b || c)
or_assoc true b c = refl
or_assoc false b c = refl

module _ (t : List ℕ) (i : ℕ) where
  -- what was seen so far, with what is left, is the whole text's
  pub high_next : (high : Bool) → i < length t → high || any_high (drop i t) ≡ any_high t
      → (high || ltb 127 (get_or t i 0)) || any_high (drop (i + 1) t) ≡ any_high t
  unfolding any_high
  high_next high h e =
      or_assoc high (ltb 127 (get_or t i 0)) (any_high (drop (i + 1) t))
      ∙ ap (λ (j : ℕ). high || (ltb 127 (get_or t i 0) || any_high (drop j t))) (add-one i)
      ∙ ap (λ (s : List ℕ). high || any_high s) (sym (drop-cons t i 0 h)) ∙ e

  pub high_end : (high : Bool) → length t ≤ i → high || any_high (drop i t) ≡ any_high t → high ≡ any_high t
  unfolding any_high
  high_end high h e = sym (or-false high) ∙ ap (λ (s : List ℕ). high || any_high s) (sym (drop_of_length-le t {i = i} h)) ∙ e
    where
      or-false : (a : Bool) → a || false ≡ a
      or-false true = refl
      or-false false = refl

  module _ (line : ℕ) (h : i < length t) (e : check_bytes line (drop i t) ≡ check_bytes 0 t) where
    pub line_high : 127 < get_or t i 0 → Err (record { number = 1; line = line }) ≡ check_bytes 0 t
    unfolding check_bytes
    line_high q = rw (← e, drop-cons t i 0 h, check_bytes, lt-ltb 127 (get_or t i 0) q) refl

    module _ (low : get_or t i 0 ≤ 127) where
      pub line_next : get_or t i 0 ≡ 10 → check_bytes (line + 1) (drop (i + 1) t) ≡ check_bytes 0 t
      unfolding check_bytes
      line_next q =
          sym (rw (drop-cons t i 0 h, check_bytes, le-ltb 127 (get_or t i 0) low, eq-eqb (get_or t i 0) 10 q, add-one line, add-one i) refl) ∙ e

      pub line_same : (get_or t i 0 ≡ 10 → ⊥) → check_bytes line (drop (i + 1) t) ≡ check_bytes 0 t
      unfolding check_bytes
      line_same q =
          sym (rw (drop-cons t i 0 h, check_bytes, le-ltb 127 (get_or t i 0) low, ne_eqb (get_or t i 0) 10 q, add-one i) refl) ∙ e

  pub line_end : (line : ℕ) → length t ≤ i → check_bytes line (drop i t) ≡ check_bytes 0 t → Ok tt ≡ check_bytes 0 t
  unfolding check_bytes
  line_end line h e = rw (← e, drop_of_length-le t {i = i} h) refl

-- none above 127: every byte is fine
pub none-high : (t : List ℕ) (line : ℕ) → any_high t ≡ false → Ok tt ≡ check_bytes line t
unfolding any_high check_bytes
none-high [] line e = refl
none-high (b ∷ bs) line e =
    rw (check_bytes, or_left (ltb 127 b) (any_high bs) e) (none-high bs (cond (eqb b 10) (suc line) line) (or_right (ltb 127 b) (any_high bs) e))
