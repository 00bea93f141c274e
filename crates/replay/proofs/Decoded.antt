-- Fields: what follows a byte, how a byte is written, and the bytes that a field stands for, one by one.
use Rattle.std.proofs.Common.{◌≡◌, ℕ, zero, suc, ◌+◌, ◌-◌, ◌<◌, ◌≤◌, Bool, true, false, cond, ◌&&◌, eqb, ltb, List, [], ◌∷◌, ◌++◌, length, get_or, take, drop, set, sym, refl, ap, ◌∙◌, append_assoc, append-nil, add-one, arith, drop_of_length-le, length-take-le, take_all, drop-cons, drop-drop, take-suc-set, le-ltb, lt-ltb, eq-eqb, ne_eqb}
use lib.Seq.{take-append-le}
use Rattle.numbers.specs.Text.{byte, index_of}
use Rattle.numbers.proofs.Trims.{tail}
use Rattle.replay.specs.declared.field.Written.{Written}
use Rattle.replay.specs.Fields.{after, plain, hex_byte, written_first, decoded_past, decoded}

-- no b: nothing follows it
pub after_none : (b : ℕ) (s : List ℕ) (n : ℕ) → n ≡ index_of b s → length s < n + 1 → [] ≡ after b s
unfolding after
after_none b s n e h = rw (drop_of_length-le s {i = index_of b s + 1} (omega (arith, e, h))) refl

-- a b: what stands behind it
pub after_some : (b : ℕ) (s : List ℕ) (n : ℕ) → n ≡ index_of b s → take (length s - (n + 1)) (drop (n + 1) s) ≡ after b s
unfolding after
after_some b s n e = rw (tail s (n + 1), e) refl

both : (t : Bool) → t && false ≡ false
both true = refl
both false = refl

-- the four ways to write a first byte
pub first_empty : (s : List ℕ) → length s ≡ 0 → plain 0 ≡ written_first s
unfolding written_first
first_empty [] h = refl
first_empty (x ∷ xs) h = absurd (omega arith)

pub first_plain : (s : List ℕ) → (get_or s 0 0 ≡ byte "%" → ⊥) → plain (get_or s 0 0) ≡ written_first s
unfolding written_first
first_plain s h = rw (ne_eqb (get_or s 0 0) (byte "%") h) refl

pub first_short : (s : List ℕ) → length s ≤ 2 → plain (get_or s 0 0) ≡ written_first s
unfolding written_first
first_short s h = rw (le-ltb 2 (length s) h, both (eqb (get_or s 0 0) (byte "%"))) refl

pub first_escaped : (s : List ℕ) → get_or s 0 0 ≡ byte "%" → 2 < length s → hex_byte (get_or s 1 0) (get_or s 2 0) ≡ written_first s
unfolding written_first
first_escaped s h l = rw (eq-eqb (get_or s 0 0) (byte "%") h, lt-ltb 2 (length s) l) refl

-- it takes at least one byte, and at most three
width_of : (t : Bool) (a b c : ℕ) → (1 ≤ (cond t (hex_byte a b) (plain c)).width) × ((cond t (hex_byte a b) (plain c)).width ≤ 3)
width_of true a b c = (omega arith, omega arith)
width_of false a b c = (omega arith, omega arith)

width_some : (s : List ℕ) → (1 ≤ (written_first s).width) × ((written_first s).width ≤ 3)
unfolding written_first
width_some s = width_of (eqb (get_or s 0 0) (byte "%") && ltb 2 (length s)) (get_or s 1 0) (get_or s 2 0) (get_or s 0 0)

-- behind the first n bytes the field goes on as the field of what is left
pub past_drop : (n : ℕ) (s : List ℕ) → decoded_past n s ≡ decoded (drop n s)
unfolding decoded_past
past_drop zero s = refl
past_drop (suc n) [] = refl
past_drop (suc n) (b ∷ s) = past_drop n s

-- one byte, and the field behind it
decoded_cons : (b : ℕ) (s : List ℕ) → decoded (b ∷ s) ≡ (written_first (b ∷ s)).byte ∷ decoded (drop ((written_first (b ∷ s)).width - 1) s)
unfolding decoded_past
decoded_cons b s = ap (λ (r : List ℕ). (written_first (b ∷ s)).byte ∷ r) (past_drop ((written_first (b ∷ s)).width - 1) s)

-- the byte at a place of a field, as it was read there
module _ (s : List ℕ) (i : ℕ) (w : Written) (e : w ≡ written_first (take (length s - i) (drop i s))) where
  read_first : w ≡ written_first (drop i s)
  read_first = e ∙ ap written_first (tail s i)

  pub width_within : (1 ≤ w.width) × (w.width ≤ 3)
  width_within = rw read_first (width_some (drop i s))

  pub decoded-step : i < length s → decoded (drop i s) ≡ w.byte ∷ decoded (drop (i + w.width) s)
  decoded-step h =
      let d : drop i s ≡ get_or s i 0 ∷ drop (suc i) s = drop-cons s i 0 h in
      let f : w ≡ written_first (get_or s i 0 ∷ drop (suc i) s) = read_first ∙ ap written_first d in
      let k : suc i + (w.width - 1) ≡ i + w.width = omega (arith, width_within.0) in
      rw (d, decoded_cons (get_or s i 0) (drop (suc i) s), ← f, drop-drop (w.width - 1) (suc i) s, k) refl

-- a byte stored behind n bytes, and the bytes before it
pub store_one : (out : List ℕ) (n b : ℕ) (r : List ℕ) → n < length out → take (n + 1) (set out n b) ++ r ≡ take n out ++ (b ∷ r)
store_one out n b r h = rw (add-one n, take-suc-set out n b h, append_assoc) refl

-- the room is used up, or the field's end is met: either way the bytes are the field's first
pub full : (out all rest : List ℕ) (n : ℕ) → n ≤ length out → length out ≤ n → take n out ++ rest ≡ all → take n out ≡ take (length out) all
full out all rest n h g e = rw (← e, take-append-le (length out) (take n out) rest (rw (length-take-le n out h) g), take_all (length out) (take n out) (omega (arith, length-take-le n out h))) refl

pub ended : (out all s : List ℕ) (i n : ℕ) → n ≤ length out → length s ≤ i → take n out ++ decoded (drop i s) ≡ all → take n out ≡ take (length out) all
unfolding decoded_past
ended out all s i n h g e =
    let d : decoded (drop i s) ≡ [] = rw (drop_of_length-le s g) refl in
    let a : take n out ≡ all = sym (append-nil (take n out)) ∙ (rw (← d) e) in
    rw (← a, take_all (length out) (take n out) (omega (arith, length-take-le n out h))) refl
