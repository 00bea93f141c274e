-- The index over names: the hash's loop, a name looked up by its bucket's chain, and the index kept as a name comes in.
use Prim.Native.Nat.{ℕ, zero, suc, ◌+◌, ◌-◌, ◌*◌, ◌/◌, ◌%◌, ◌≤◌, ◌<◌}
use native.Mathlib.Nat.{zero-add, add-zero, not-suc-le-zero, le_of_suc-le-suc}
use native.Mathlib.Numerals.{add-one}
use native.Mathlib.Omega.{arith}
use mathlib.Core.Path.{◌≡◌, refl, sym, ap, ◌∙◌}
use mathlib.Core.Bool.{Bool, true, false}
use mathlib.Core.List.{List, [], ◌∷◌, ◌++◌}
use Rattle.std.proofs.Common.{Option, None, Some}
use lib.Dec.{eqb, ltb}
use lib.ListN.{length, take, drop, get_or, set, replicate, length-set, length-append, length-replicate, drop_of_length-le, get_or-replicate, get_or-append}
use lib.Seq.{drop-cons, drop-drop, get_or-set_same, get_or-set_other, get_or-append_seam}
use borrow.Author.Tests.{eq-eqb, ne_eqb, eqb-true, eqb-false, ltb-true, ltb-false}
use Rattle.std.specs.Simd.{first_chunks}
use Rattle.std.specs.List.{slice_index, slice_get}
use Rattle.std.proofs.lemmas.Option.{same_Some}
use Rattle.numbers.specs.Text.{same}
use Rattle.numbers.proofs.Bools.{none-some}
use Rattle.numbers.proofs.Prefixes.{same_equal}
use Rattle.layout.specs.Code.Index.{buckets, mixed, bucket_of, name_at, last_in, Indexed, Distinct, inserted}
use Rattle.layout.specs.Code.Tables.{lookup_in}

-- equal or not; less or not
pub by_equal : {A : Type 0} (a b : ℕ) → (a ≡ b → A) → ((a ≡ b → ⊥) → A) → A
by_equal {A} a b f g = by (eqb a b) refl
  where
    by : (c : Bool) → eqb a b ≡ c → A
    by true e = f (eqb-true a b e)
    by false e = g (eqb-false a b e)

pub by_less : {A : Type 0} (a b : ℕ) → (a < b → A) → (b ≤ a → A) → A
by_less {A} a b f g = by (ltb a b) refl
  where
    by : (c : Bool) → ltb a b ≡ c → A
    by true e = f (ltb-true a b e)
    by false e = g (ltb-false a b e)

-- ---- the hash

pub bucket_below : (s : List ℕ) → bucket_of s < buckets
unfolding bucket_of
bucket_below s = omega arith

-- what is mixed so far, with the bytes left, is the whole name's
pub record Mixing (s : List ℕ) (h i : ℕ) : Type 0 where
  pub within : i ≤ length s
  pub small : h < 4294967296
  pub goes : mixed h (drop i s) ≡ mixed 0 s

module _ (s : List ℕ) (h i : ℕ) (m : Mixing s h i) where
  pub mix_two : i + 1 < length s → Mixing s ((h * 2654435761 + (get_or s i 0 + 256 * get_or s (i + 1) 0)) % 4294967296) (i + 2)
  unfolding mixed
  mix_two l =
      let after : i + 2 ≡ suc (suc i) = omega arith in
      let two : drop i s ≡ get_or s i 0 ∷ get_or s (i + 1) 0 ∷ drop (i + 2) s =
      drop-cons s i 0 (omega arith) ∙ ap (λ (r : List ℕ). get_or s i 0 ∷ r) (rw (add-one i, after) (drop-cons s (suc i) 0 (omega arith))) in
      record { within = omega arith; small = omega arith; goes = sym (ap (mixed h) two) ∙ m.goes }

-- the pairs of bytes
pair_at : (k j : ℕ) (s : List ℕ) → j < k → get_or (first_chunks 2 k s) j [] ≡ take 2 (drop (j * 2) s)
pair_at zero j s h = absurd (not-suc-le-zero h)
pair_at (suc k) zero s h = refl
pair_at (suc k) (suc j) s h =
    let twice : 2 + j * 2 ≡ suc j * 2 = omega arith in
    pair_at k j (drop 2 s) (le_of_suc-le-suc h) ∙ ap (take 2) (drop-drop (j * 2) 2 s ∙ ap (λ (n : ℕ). drop n s) twice)

two_at : (s : List ℕ) (i : ℕ) → i + 1 < length s → take 2 (drop i s) ≡ get_or s i 0 ∷ get_or s (i + 1) 0 ∷ []
two_at s i h = rw (add-one i, drop-cons s i 0 (omega arith), drop-cons s (suc i) 0 (omega arith)) refl

pub mix_pair : (s : List ℕ) (h j : ℕ) → Mixing s h (j * 2) → j < length s / 2 → (pairs : List (List ℕ)) → pairs ≡ first_chunks 2 (length s / 2) s
    → (v : ℕ) → v ≡ slice_index (get_or pairs j []) 0 + slice_index (get_or pairs j []) 1 * 256 → Mixing s ((h * 2654435761 + v) % 4294967296) ((j + 1) * 2)
mix_pair s h j m l pairs e v is =
    let i = j * 2 in
    let after : i + 2 ≡ (j + 1) * 2 = omega arith in
    let inside : i + 1 < length s = omega arith in
    let value : v ≡ get_or s i 0 + 256 * get_or s (i + 1) 0 = omega (arith, (rw (e, pair_at (length s / 2) j s l, two_at s i inside) at is)) in
    rw (value, ← after) (mix_two s h i m inside)

-- what is left at the end: one byte, or none
module _ (s : List ℕ) (h i : ℕ) where
  pub mix_one : i < length s → length s ≤ i + 1 → (h * 2654435761 + get_or s i 0) % 4294967296 ≡ mixed h (drop i s)
  unfolding mixed
  mix_one l e =
      let one : drop i s ≡ get_or s i 0 ∷ [] =
      drop-cons s i 0 l ∙ ap (λ (r : List ℕ). get_or s i 0 ∷ r) (drop_of_length-le s {i = suc i} (omega arith)) in
      sym (ap (mixed h) one)

  pub mix_none : length s ≤ i → h ≡ mixed h (drop i s)
  unfolding mixed
  mix_none l = sym (ap (mixed h) (drop_of_length-le s {i = i} l))

-- the same of what remains behind the pairs
module _ (s : List ℕ) (h i : ℕ) (m : Mixing s h i) where
  pub mix_last : (last : List ℕ) → last ≡ drop i s → length last ≤ 1 → (b : ℕ) → Some b ≡ slice_get last 0 → (h * 2654435761 + b) % 4294967296 ≡ mixed 0 s
  unfolding mixed
  mix_last [] e l b is = cc
  mix_last (x ∷ []) e l b is = ap (λ (c : ℕ). (h * 2654435761 + c) % 4294967296) (same_Some _ _ is) ∙ ap (mixed h) e ∙ m.goes
  mix_last (x ∷ y ∷ ys) e l b is = absurd (omega arith)

  pub mix_all : (last : List ℕ) → last ≡ drop i s → None ≡ slice_get last 0 → h ≡ mixed 0 s
  unfolding mixed
  mix_all [] e is = ap (mixed h) e ∙ m.goes
  mix_all (x ∷ xs) e is = cc

-- ---- a search in order

-- the first of the names that is n
pub lookup_at : (ns : List (List ℕ)) (n : List ℕ) (j k : ℕ) → k < length ns → same (name_at ns k) n ≡ true
    → ((i : ℕ) → i < k → same (name_at ns i) n ≡ false) → lookup_in n j ns ≡ Some (j + k)
unfolding lookup_in
lookup_at [] n j k h e before = absurd (omega arith)
lookup_at (y ∷ ys) n j zero h e before = rw (lookup_in, e, add-zero j) refl
lookup_at (y ∷ ys) n j (suc k) h e before =
    let sum : suc j + k ≡ j + suc k = omega arith in
    rw (lookup_in, before 0 (omega arith), ← sum) (lookup_at ys n (suc j) k (omega arith) e (λ i l. before (suc i) (omega arith)))

pub lookup_none : (ns : List (List ℕ)) (n : List ℕ) (j : ℕ) → ((i : ℕ) → i < length ns → same (name_at ns i) n ≡ false) → lookup_in n j ns ≡ None
unfolding lookup_in
lookup_none [] n j all = refl
lookup_none (y ∷ ys) n j all = rw (lookup_in, all 0 (omega arith)) (lookup_none ys n (suc j) (λ i l. all (suc i) (omega arith)))

-- what was not found is none of the names
pub not_among : (ns : List (List ℕ)) (n : List ℕ) (j : ℕ) → lookup_in n j ns ≡ None → (i : ℕ) → i < length ns → same (name_at ns i) n ≡ false
unfolding lookup_in
not_among [] n j e i h = absurd (omega arith)
not_among (y ∷ ys) n j e i h = by (same y n) refl e (not_among ys n (suc j)) i h
  where
    by : (c : Bool) → same y n ≡ c → ◌≡◌ {A = Option ℕ} (elim c [ true ↦ Some j | false ↦ lookup_in n (suc j) ys ]) None
        → (lookup_in n (suc j) ys ≡ None → (i : ℕ) → i < length ys → same (name_at ys i) n ≡ false)
        → (i : ℕ) → i < suc (length ys) → same (name_at (y ∷ ys) i) n ≡ false
    by true q e later i h = absurd (none-some (sym e))
    by false q e later zero h = q
    by false q e later (suc i) h = later e i (omega arith)

-- ---- a bucket's chain

-- c is what last_in gives: none from c on is in the bucket, and the one before c is
pub record Last (ns : List (List ℕ)) (b m c : ℕ) : Type 0 where
  pub le : c ≤ m
  pub none_on : (i : ℕ) → c ≤ i → i < m → bucket_of (name_at ns i) ≡ b → ⊥
  pub here : (k : ℕ) → c ≡ suc k → bucket_of (name_at ns k) ≡ b

pub last_is : (ns : List (List ℕ)) (b m : ℕ) → Last ns b m (last_in ns b m)
unfolding last_in
last_is ns b zero = record { le = omega arith; none_on = λ i l h e. omega arith; here = λ k e. absurd (omega arith) }
last_is ns b (suc m) = by (eqb (bucket_of (name_at ns m)) b) refl (last_is ns b m)
  where
    by : (t : Bool) → eqb (bucket_of (name_at ns m)) b ≡ t → Last ns b m (last_in ns b m)
        → Last ns b (suc m) (elim t [ true ↦ suc m | false ↦ last_in ns b m ])
    by true e p =
        record {
          le = omega arith;
          none_on = λ i l h q. omega arith;
          here = λ k q. let z : k ≡ m = omega arith in rw z (eqb-true _ _ e);
        }
    by false e p =
        record {
          le = omega (arith, p.le);
          none_on = λ i l h q. by_equal i m (λ z. eqb-false _ _ e (rw z at q)) (λ n. p.none_on i l (omega (arith, n)) q);
          here = p.here;
        }

-- names in unlike buckets are not the same
pub other_bucket : (a x : List ℕ) → (bucket_of a ≡ bucket_of x → ⊥) → same a x ≡ false
other_bucket a x n = by (same a x) refl
  where
    by : (t : Bool) → same a x ≡ t → t ≡ false
    by true e = absurd (n (ap bucket_of (same_equal a x e)))
    by false e = refl

-- along x's chain: the names from c on are not x, and the one before c is in x's bucket
pub record BucketWalk (ns : List (List ℕ)) (x : List ℕ) (c : ℕ) : Type 0 where
  pub le : c ≤ length ns
  pub here : (k : ℕ) → c ≡ suc k → bucket_of (name_at ns k) ≡ bucket_of x
  pub rest : (i : ℕ) → c ≤ i → i < length ns → same (name_at ns i) x ≡ false

module _ (ns : List (List ℕ)) (ix x : List ℕ) (q : Indexed ns ix) where
  from_last : (m c : ℕ) → m ≤ length ns → Last ns (bucket_of x) m c → ((i : ℕ) → m ≤ i → i < length ns → same (name_at ns i) x ≡ false) → BucketWalk ns x c
  from_last m c l p above =
      record {
        le = omega (arith, p.le);
        here = p.here;
        rest = λ i a b. by_less i m (λ h. other_bucket (name_at ns i) x (p.none_on i a h)) (λ h. above i h b);
      }

  -- the chain begins with the bucket's entry
  pub walk_first : (b : ℕ) → b ≡ bucket_of x → BucketWalk ns x (get_or ix b 0)
  walk_first b e =
      rw (e, q.head (bucket_of x) (bucket_below x))
      (from_last (length ns) _ (omega arith) (last_is ns (bucket_of x) (length ns)) (λ i a h. absurd (omega arith)))

  -- and goes from a name to the one before it
  module _ (c : ℕ) (left : 0 < c) (w : BucketWalk ns x c) where
    chain_next : Last ns (bucket_of x) (c - 1) (get_or ix (buckets + (c - 1)) 0)
    chain_next =
        let h : bucket_of (name_at ns (c - 1)) ≡ bucket_of x = w.here (c - 1) (omega arith) in
        rw (q.next (c - 1) (omega (arith, w.le)), h) (last_is ns (bucket_of x) (c - 1))

    pub walk_less : get_or ix (buckets + (c - 1)) 0 < c
    walk_less = omega (arith, chain_next.le)

    pub walk_next : same (name_at ns (c - 1)) x ≡ false → BucketWalk ns x (get_or ix (buckets + (c - 1)) 0)
    walk_next e =
        from_last (c - 1) _ (omega (arith, w.le)) chain_next
        (λ i a b. by_equal i (c - 1) (λ z. rw z e) (λ n. w.rest i (omega (arith, n)) b))

    -- where no two names are the same, the one that is x is the first
    pub walk_hit : Distinct ns → same (name_at ns (c - 1)) x ≡ true → Some (c - 1) ≡ lookup_in x 0 ns
    walk_hit d e =
        ap (λ (k : ℕ). Some k) (sym (zero-add (c - 1)))
        ∙ sym (lookup_at ns x 0 (c - 1) (omega (arith, w.le)) e
        (λ i l. rw (← same_equal (name_at ns (c - 1)) x e) (d i (c - 1) l (omega (arith, w.le)))))

  pub walk_miss : (c : ℕ) → c ≤ 0 → BucketWalk ns x c → None ≡ lookup_in x 0 ns
  walk_miss c z w = sym (lookup_none ns x 0 (λ i l. w.rest i (omega arith) l))

-- ---- the index is kept

-- last_in rests on the names below m alone
last_more : (ns : List (List ℕ)) (x : List ℕ) (b m : ℕ) → m ≤ length ns → last_in (ns ++ x ∷ []) b m ≡ last_in ns b m
unfolding last_in
last_more ns x b zero h = refl
last_more ns x b (suc m) h =
    ap (λ (n : List ℕ). elim (eqb (bucket_of n) b) [ true ↦ suc m | false ↦ last_in (ns ++ x ∷ []) b m ]) (get_or-append ns (x ∷ []) [] m (omega arith))
    ∙ ap (λ (l : ℕ). elim (eqb (bucket_of (name_at ns m)) b) [ true ↦ suc m | false ↦ l ]) (last_more ns x b m (omega arith))

module _ (ns : List (List ℕ)) (x ix : List ℕ) (b : ℕ) (is : b ≡ bucket_of x) where
  more_size : length (ns ++ x ∷ []) ≡ suc (length ns)
  more_size = length-append ns (x ∷ []) ∙ add-one (length ns)

  -- the new name's own entry in last_in
  last_own : (d : ℕ) → last_in (ns ++ x ∷ []) d (suc (length ns)) ≡ elim (eqb b d) [ true ↦ suc (length ns) | false ↦ last_in ns d (length ns) ]
  unfolding last_in
  last_own d =
      ap (λ (n : List ℕ). elim (eqb (bucket_of n) d) [ true ↦ suc (length ns) | false ↦ last_in (ns ++ x ∷ []) d (length ns) ]) (get_or-append_seam ns x [] [])
      ∙ ap (λ (l : ℕ). elim (eqb (bucket_of x) d) [ true ↦ suc (length ns) | false ↦ l ]) (last_more ns x d (length ns) (omega arith))
      ∙ rw is refl

  pub indexed_more : Indexed ns ix → buckets + length ns < length ix → Indexed (ns ++ x ∷ []) (inserted (length ns) b ix)
  indexed_more q fits =
      record {
        room = rw (more_size, length-set (set ix (buckets + length ns) (get_or ix b 0)) b (length ns + 1), length-set ix (buckets + length ns) (get_or ix b 0)) (omega arith);
        head = λ d h. rw (more_size, last_own d) (by_equal d b (λ z. head_own d h z) (λ n. head_other d h n));
        next = λ k h. by_equal k (length ns) (λ z. next_own k z) (λ n. next_other k (omega (arith, rw more_size at h, n)));
      }
    where
      low : b < buckets
      low = rw is (bucket_below x)

      written : List ℕ
      written = set ix (buckets + length ns) (get_or ix b 0)

      head_own : (d : ℕ) → d < buckets → d ≡ b
          → get_or (set written b (length ns + 1)) d 0 ≡ elim (eqb b d) [ true ↦ suc (length ns) | false ↦ last_in ns d (length ns) ]
      head_own d h z =
          rw (z, get_or-set_same written b (length ns + 1) 0 (rw (length-set ix (buckets + length ns) (get_or ix b 0)) (omega (arith, low))), eq-eqb b b refl, add-one (length ns)) refl

      head_other : (d : ℕ) → d < buckets → (d ≡ b → ⊥)
          → get_or (set written b (length ns + 1)) d 0 ≡ elim (eqb b d) [ true ↦ suc (length ns) | false ↦ last_in ns d (length ns) ]
      head_other d h n =
          rw (ne_eqb b d (λ e. n (sym e)), get_or-set_other written b d (length ns + 1) 0 n, get_or-set_other ix (buckets + length ns) d (get_or ix b 0) 0 (λ e. omega arith))
          (q.head d h)

      next_own : (k : ℕ) → k ≡ length ns
          → get_or (set written b (length ns + 1)) (buckets + k) 0 ≡ last_in (ns ++ x ∷ []) (bucket_of (name_at (ns ++ x ∷ []) k)) k
      next_own k z =
          rw (
            z,
            get_or-append_seam ns x [] [],
            ← is,
            last_more ns x b (length ns) (omega arith),
            get_or-set_other written b (buckets + length ns) (length ns + 1) 0 (λ e. omega (arith, low)),
            get_or-set_same ix (buckets + length ns) (get_or ix b 0) 0 fits,
          )
          (q.head b low)

      next_other : (k : ℕ) → k < length ns
          → get_or (set written b (length ns + 1)) (buckets + k) 0 ≡ last_in (ns ++ x ∷ []) (bucket_of (name_at (ns ++ x ∷ []) k)) k
      next_other k h =
          rw (
            get_or-append ns (x ∷ []) [] k h,
            last_more ns x (bucket_of (name_at ns k)) k (omega arith),
            get_or-set_other written b (buckets + k) (length ns + 1) 0 (λ e. omega (arith, low)),
            get_or-set_other ix (buckets + length ns) (buckets + k) (get_or ix b 0) 0 (λ e. omega arith),
          )
          (q.next k h)

  pub distinct_more : Distinct ns → ((i : ℕ) → i < length ns → same (name_at ns i) x ≡ false) → Distinct (ns ++ x ∷ [])
  distinct_more d new i j l h =
      by_equal j (length ns)
      (λ z. rw (z, get_or-append_seam ns x [] [], get_or-append ns (x ∷ []) [] i (omega arith)) (new i (omega arith)))
      (λ n.
      let below : j < length ns = omega (arith, rw more_size at h, n) in
      rw (get_or-append ns (x ∷ []) [] i (omega arith), get_or-append ns (x ∷ []) [] j below) (d i j l below))

-- no names, and entries of zeros
pub indexed_none : (n : ℕ) → buckets ≤ n → Indexed [] (replicate n 0)
unfolding last_in
indexed_none n h =
    record {
      room = rw (length-replicate {A = ℕ} n 0) (omega arith);
      head = λ b l. get_or-replicate n b 0 0 (omega arith);
      next = λ k l. absurd (omega arith);
    }

pub distinct_none : Distinct []
distinct_none i j l h = absurd (omega arith)
