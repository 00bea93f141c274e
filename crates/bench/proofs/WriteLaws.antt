-- What one write after the other leaves: `Begins` carried on.
use Prim.Native.Nat.{ℕ, suc, ◌+◌, ◌-◌, ◌^◌, ◌≤◌, ◌<◌}
use native.Mathlib.Numerals.{add-one}
use native.Mathlib.Omega.{arith}
use mathlib.Core.Path.{◌≡◌, refl, sym, ap, ap₂, ◌∙◌}
use mathlib.Core.List.{List, [], ◌∷◌, ◌++◌}
use lib.ListN.{length, take, drop, get_or, set, length-append, length-drop}
use lib.Seq.{take-length, length-take-le, take_at, drop-append-add, drop-drop, drop-cons, set_at, append_snoc}
use Rattle.layout.proofs.ByteLaws.{put_lent, length_mid}
use Rattle.bench.specs.Code.Counts.{IsPrefixLen}
use Rattle.bench.specs.Lines.{decimal}
use Rattle.bench.specs.Code.Writes.{Begins}
use Rattle.bench.proofs.DecimalLaws.{last_digits, IsDigitCount, fewest_decimal, decimal_short}

-- nothing is written yet
pub begins_none : (xs : List ℕ) → Begins [] xs xs 0
begins_none xs = record { count = refl; bytes = refl }

-- what a copy leaves
pub begins_copy : (src dst after : List ℕ) (r : ℕ) → r ≡ length src → after ≡ take (length src) src ++ drop (length src) dst → Begins src dst after r
begins_copy src dst after r n e = record { count = n; bytes = e ∙ rw (take-length src, n) }

-- so does one into the front of what is lent
pub begins_copied : (src dst copied : List ℕ) → copied ≡ src → Begins src dst (copied ++ drop (length src) dst) (length src)
begins_copied src dst copied e = begins_copy src dst (copied ++ drop (length src) dst) (length src) refl (ap (λ (l : List ℕ). l ++ drop (length src) dst) (e ∙ sym (take-length src)))

-- a number's digits as a writer spells them, the fewest and the last of them last: they fit 20 bytes, and what a copy of them leaves
module _ (n k : ℕ) (spelt : List ℕ) (f : IsDigitCount n k) (d : take k spelt ≡ last_digits k n) where
  pub spelt_short : n < 2 ^ 64 → length (take k spelt) ≤ 20
  spelt_short h = rw (d ∙ fewest_decimal k n f) (decimal_short n h)

  pub spelt_begins : (dst after : List ℕ) (r : ℕ) → r ≡ length (take k spelt)
      → after ≡ take (length (take k spelt)) (take k spelt) ++ drop (length (take k spelt)) dst → Begins (decimal n) dst after r
  spelt_begins dst after r c e = rw (← (d ∙ fewest_decimal k n f)) (begins_copy (take k spelt) dst after r c e)

-- a buffer that begins so is as long as before
pub begins_length : (xs before after : List ℕ) (r : ℕ) → Begins xs before after r → r ≤ length before → length after ≡ length before
begins_length xs before after r b h = rw (b.bytes, length-append xs (drop r before), length-drop r before) (omega (arith, b.count))

-- one byte more
pub begins_set : (xs before after : List ℕ) (r v : ℕ) → Begins xs before after r → r < length before → Begins (xs ++ (v ∷ [])) before (set after r v) (r + 1)
begins_set xs before after r v b h =
    record {
      count = rw (length-append xs (v ∷ [])) (omega (arith, b.count));
      bytes =
          rw (b.bytes, drop-cons before r 0 h, add-one r)
          (set_at xs (get_or before r 0) (drop (suc r) before) v r (sym b.count) ∙ sym (append_snoc xs v (drop (suc r) before)));
    }

-- what is written ends within the buffer
pub begins_within : (xs before after : List ℕ) (r : ℕ) → Begins xs before after r → length after ≡ length before → r ≤ length before
begins_within xs before after r b e =
    let l : length xs + length (drop r before) ≡ length before = sym (length-append xs (drop r before)) ∙ sym (ap length b.bytes) ∙ e in
    omega (arith, b.count, length-drop r before)

-- so is what a writer that was lent the part from a place on wrote
pub part_within : (ys d part : List ℕ) (a n : ℕ) → Begins ys (take (length d - a) (drop a d)) part n
    → length part ≡ length (take (length d - a) (drop a d)) → a ≤ length d → a + n ≤ length d
part_within ys d part a n w kept h = omega (arith, begins_within ys (take (length d - a) (drop a d)) part n w kept, length_mid a d)

-- what a writer that was lent the part behind the bytes wrote
pub begins_after : (xs ys before after part : List ℕ) (a n : ℕ) → Begins xs before after a
    → Begins ys (take (length after - a) (drop a after)) part n → a + n ≤ length after
    → Begins (xs ++ ys) before (take a after ++ (part ++ drop (length after - a) (drop a after))) (a + n)
begins_after xs ys before after part a n b w h =
    record {
      count = rw (length-append xs ys) (omega (arith, b.count, w.count));
      bytes = put_lent a n ys after part (sym w.count) h w.bytes ∙ ap₂ (λ (f d : List ℕ). f ++ ys ++ d) front behind;
    }
  where
    front : take a after ≡ xs
    front = rw b.bytes (take_at xs (drop a before) a (sym b.count))

    behind : drop (a + length ys) after ≡ drop (a + n) before
    behind = rw (b.bytes, b.count) (drop-append-add xs (drop (length xs) before) (length ys) ∙ rw (drop-drop, w.count))

-- the first r bytes of the buffer are those that are written
pub begins_line : (xs before after : List ℕ) (r : ℕ) → Begins xs before after r → length after ≡ length before → IsPrefixLen r after × (take r after ≡ xs)
begins_line xs before after r b e =
    let within : r ≤ length after = omega (arith, begins_within xs before after r b e) in
    ((within, sym (length-take-le r after within)), rw b.bytes (take_at xs (drop r before) r (sym b.count)))
