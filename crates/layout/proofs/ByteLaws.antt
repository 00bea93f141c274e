-- Lent buffers: what stores leave, and numbers as bytes.
use Prim.Native.Nat.{ℕ, zero, suc, ◌+◌, ◌-◌, ◌*◌, ◌/◌, ◌%◌, ◌^◌, ◌≤◌, ◌<◌}
use native.Mathlib.Nat.{zero-sub, sub-zero, suc-sub-suc, one-le-pow, pow-suc, pow-succ', div-one, div-div-eq-div-mul, mod-eq_of_lt}
use native.Mathlib.Numerals.{add-one, add-two, add-three}
use native.Mathlib.Omega.{arith}
use mathlib.Core.Path.{◌≡◌, refl, sym, ap, ap₂, ◌∙◌}
use mathlib.Core.List.{List, [], ◌∷◌, ◌++◌, append_assoc, append-nil}
use lib.ListN.{length, take, drop, get_or, set, replicate, length-append, length-drop, length-replicate, drop_of_length-le}
use lib.Arith.{mod-mul}
use lib.Seq.{take_all, take_at, drop_at, take-suc, drop-cons, drop-drop, take-append-le, drop-append-le, drop-append-add, set_at, sets-eq, length-take-le, append_snoc}
use Rattle.std.specs.Int.{w64, cast_unsigned, byte_at, bytes_low_first}
use lib.IntN.{ℤ, pos, negsuc}
use Rattle.numbers.specs.Ints.{bits}
use Rattle.layout.specs.Bytes.{little_endian, put, padded}
use Rattle.layout.specs.Records.{little_endian_value}

-- ---- stores

-- two runs of stores side by side are one
pub put-put : (at n : ℕ) (vs ws xs : List ℕ) → n ≡ at + length vs → n ≤ length xs → put n ws (put at vs xs) ≡ put at (vs ++ ws) xs
put-put at n vs ws xs e h =
    let front : List ℕ = take at xs ++ vs in
    let rest : List ℕ = drop (at + length vs) xs in
    let front_length : length front ≡ n = length-append (take at xs) vs ∙ ap (λ (k : ℕ). k + length vs) (length-take-le at xs (omega arith)) ∙ sym e in
    let sum : at + length vs + length ws ≡ at + length (vs ++ ws) = simp length-append (omega arith) in
    let after : drop (n + length ws) (front ++ rest) ≡ drop (at + length (vs ++ ws)) xs =
    ap (λ (k : ℕ). drop (k + length ws) (front ++ rest)) (sym front_length)
    ∙ drop-append-add front rest (length ws)
    ∙ drop-drop (length ws) (at + length vs) xs
    ∙ ap (λ (k : ℕ). drop k xs) sum in
    ap₂ (λ (a b : List ℕ). a ++ ws ++ b) (take_at front rest n front_length) after
    ∙ ap (λ (a : List ℕ). a ++ drop (at + length (vs ++ ws)) xs) (append_assoc (take at xs) vs ws)

pub length-put : (at : ℕ) (vs xs : List ℕ) → at + length vs ≤ length xs → length (put at vs xs) ≡ length xs
length-put at vs xs h = simp (length-append, length-drop, length-take-le at xs (omega arith)) (omega arith)

-- what a writer of n bytes lent the part from `at` on leaves of the whole: its bytes stand at `at`
pub put_part_of : (at n : ℕ) (src d : List ℕ) → length src ≡ n → at + n ≤ length d
    → take at d ++ ((src ++ drop n (take (length d - at) (drop at d))) ++ drop (length d - at) (drop at d)) ≡ put at src d
put_part_of at n src d e h =
    let k : ℕ = length d - at in
    let whole : length (drop at d) ≤ k = simp length-drop (omega arith) in
    ap₂ (λ (a b : List ℕ). take at d ++ ((src ++ drop n a) ++ b)) (take_all k (drop at d) whole) (drop_of_length-le (drop at d) {i = k} whole)
    ∙ ap (λ (a : List ℕ). take at d ++ a) (append-nil (src ++ drop n (drop at d)))
    ∙ sym (append_assoc (take at d) src (drop n (drop at d)))
    ∙ ap (λ (a : List ℕ). take at d ++ src ++ a) (drop-drop n at d)
    ∙ ap (λ (m : ℕ). take at d ++ src ++ drop (at + m) d) (sym e)

-- the part that is lent runs to the end
pub length_mid : (at : ℕ) (d : List ℕ) → length (take (length d - at) (drop at d)) ≡ length d - at
length_mid at d = length-take-le (length d - at) (drop at d) (rw (length-drop at d) (omega arith))

-- what is left of the whole, from what the writer promises
pub put_lent : (at n : ℕ) (src d ys : List ℕ) → length src ≡ n → at + n ≤ length d → ys ≡ src ++ drop n (take (length d - at) (drop at d))
    → take at d ++ (ys ++ drop (length d - at) (drop at d)) ≡ put at src d
put_lent at n src d ys l h e = rw e (put_part_of at n src d l h)

-- a store in place of bytes of the same length
pub put_over : (front old new rest : List ℕ) (at : ℕ) → at ≡ length front → length old ≡ length new → put at new (front ++ (old ++ rest)) ≡ front ++ (new ++ rest)
put_over front old new rest at e l =
    let after : drop (at + length new) (front ++ (old ++ rest)) ≡ rest =
    ap (λ (k : ℕ). drop (k + length new) (front ++ (old ++ rest))) e ∙ drop-append-add front (old ++ rest) (length new) ∙ drop_at old rest (length new) l in
    ap₂ (λ (a b : List ℕ). a ++ new ++ b) (take_at front (old ++ rest) at (sym e)) after ∙ append_assoc front new rest

drop-replicate : (m n : ℕ) → drop {A = ℕ} m (replicate n 0) ≡ replicate (n - m) 0
drop-replicate zero n = rw (sub-zero n)
drop-replicate (suc m) zero = rw (zero-sub (suc m))
drop-replicate (suc m) (suc n) = rw (suc-sub-suc n m) (drop-replicate m n)

pub length-padded : (n : ℕ) (xs : List ℕ) → length xs ≤ n → length (padded n xs) ≡ n
length-padded n xs h = simp (length-append, length-replicate) (omega arith)

-- stores right after what is used carry it on
pub put_pad : (n at : ℕ) (xs vs : List ℕ) → at ≡ length xs → put at vs (padded n xs) ≡ padded n (xs ++ vs)
put_pad n at xs vs e =
    let zeros : List ℕ = replicate (n - length xs) 0 in
    let left : n - length xs - length vs ≡ n - length (xs ++ vs) = simp length-append (omega arith) in
    let after : drop (at + length vs) (xs ++ zeros) ≡ replicate (n - length (xs ++ vs)) 0 =
    ap (λ (k : ℕ). drop (k + length vs) (xs ++ zeros)) e
    ∙ drop-append-add xs zeros (length vs)
    ∙ drop-replicate (length vs) (n - length xs)
    ∙ ap (λ (k : ℕ). replicate k 0) left in
    ap₂ (λ (a b : List ℕ). a ++ vs ++ b) (take_at xs zeros at (sym e)) after

-- stores within what is used leave the zeros after it
pub put_used : (n at : ℕ) (vs xs : List ℕ) → at + length vs ≤ length xs → put at vs (padded n xs) ≡ padded n (put at vs xs)
put_used n at vs xs h =
    let zeros : List ℕ = replicate (n - length xs) 0 in
    ap₂ (λ (a b : List ℕ). a ++ vs ++ b) (take-append-le at xs zeros (omega arith)) (drop-append-le (at + length vs) xs zeros h)
    ∙ sym (append_assoc (take at xs ++ vs) (drop (at + length vs) xs) zeros)
    ∙ ap (λ (k : ℕ). put at vs xs ++ replicate (n - k) 0) (sym (length-put at vs xs h))

-- what a loop that copies src to the front of dst leaves, turn by turn
pub copied_more : (src dst : List ℕ) (i : ℕ) → i < length src → i < length dst
    → set (take i src ++ drop i dst) i (get_or src i 0) ≡ take (i + 1) src ++ drop (i + 1) dst
copied_more src dst i h k =
    rw (drop-cons dst i 0 k, add-one i, take-suc src i 0 h)
    (set_at (take i src) (get_or dst i 0) (drop (suc i) dst) (get_or src i 0) i (length-take-le i src (omega arith))
    ∙ sym (append_snoc (take i src) (get_or src i 0) (drop (suc i) dst)))

-- ---- numbers as bytes

pub length-little_endian : (w v : ℕ) → length (little_endian w v) ≡ w
unfolding little_endian
length-little_endian zero v = refl
length-little_endian (suc w) v = ap suc (length-little_endian w (v / 256))

-- the bytes above the low w, w at a time
high : (w v : ℕ) → v / 256 / 256 ^ w ≡ v / 256 ^ suc w
high w v = div-div-eq-div-mul v 256 (256 ^ w) ∙ ap (λ (k : ℕ). v / k) (sym (pow-succ' 256 w))

-- one byte more
little_endian_more : (w v : ℕ) → little_endian (suc w) v ≡ little_endian w v ++ (v / 256 ^ w % 256 ∷ [])
unfolding little_endian
little_endian_more zero v = rw (div-one v)
little_endian_more (suc w) v = ap (λ (bs : List ℕ). v % 256 ∷ bs) (little_endian_more w (v / 256) ∙ rw (high w v))

-- the low bytes are those of the low part
pub little_endian-low : (w v : ℕ) → little_endian w (v % 256 ^ w) ≡ little_endian w v
unfolding little_endian
little_endian-low zero v = refl
little_endian-low (suc w) v =
    let split : v % 256 ^ suc w ≡ (v / 256 % 256 ^ w) * 256 + v % 256 =
    rw (pow-suc 256 w) (mod-mul v {m = 256 ^ w} {c = 256} (one-le-pow w 256 (omega arith)) (omega arith)) in
    let first : v % 256 ^ suc w % 256 ≡ v % 256 = omega (arith, split) in
    let rest : v % 256 ^ suc w / 256 ≡ v / 256 % 256 ^ w = omega (arith, split) in
    rw (first, rest) (ap (λ (bs : List ℕ). v % 256 ∷ bs) (little_endian-low w (v / 256)))

-- what storing the low byte, or the four low ones, leaves
pub stored_one : (v : ℕ) (dst : List ℕ) → 1 ≤ length dst → set dst 0 (v % 256) ≡ little_endian 1 v ++ drop 1 dst
unfolding little_endian
stored_one v dst h = sets-eq (v % 256 ∷ []) dst 0 h

pub stored_four : (v : ℕ) (dst : List ℕ) → put 0 (little_endian 4 (v % 2 ^ 32)) dst ≡ little_endian 4 v ++ drop 4 dst
unfolding little_endian
stored_four v dst = ap (λ (bs : List ℕ). put 0 bs dst) (little_endian-low 4 v)

-- what a loop that stores v from its low byte on leaves, turn by turn
pub stored_more : (v i left : ℕ) (dst : List ℕ) → left ≡ v / 256 ^ i → i < length dst → set (little_endian i v ++ drop i dst) i (left % 256) ≡ little_endian (i + 1) v ++ drop (i + 1) dst
stored_more v i left dst e h =
    rw (drop-cons dst i 0 h, add-one i, little_endian_more i v, e)
    (set_at (little_endian i v) (get_or dst i 0) (drop (suc i) dst) (v / 256 ^ i % 256) i (length-little_endian i v)
    ∙ sym (append_snoc (little_endian i v) (v / 256 ^ i % 256) (drop (suc i) dst)))

pub left_more : (v i left : ℕ) → left ≡ v / 256 ^ i → left / 256 ≡ v / 256 ^ (i + 1)
left_more v i left e = rw (e, add-one i, pow-suc 256 i) (div-div-eq-div-mul v (256 ^ i) 256)

pub little_endian_value_lem : (w v : ℕ) → little_endian_value (little_endian w v) ≡ v % 256 ^ w
unfolding little_endian little_endian_value
little_endian_value_lem zero v = omega arith
little_endian_value_lem (suc w) v = rw (little_endian_value_lem w (v / 256), pow-suc 256 w, mod-mul v {m = 256 ^ w} {c = 256} (one-le-pow w 256 (omega arith)) (omega arith)) (omega arith)

-- a number of four bytes is read back
pub little_endian_back : (v : ℕ) → v < 2 ^ 32 → little_endian_value (little_endian 4 v) ≡ v
little_endian_back v h = little_endian_value_lem 4 v ∙ mod-eq_of_lt h

-- four bytes read at a place
pub four_at_lem : (xs : List ℕ) (at : ℕ) → at + 4 ≤ length xs
    → get_or xs at 0 + 256 * (get_or xs (at + 1) 0 + 256 * (get_or xs (at + 2) 0 + 256 * get_or xs (at + 3) 0)) ≡ little_endian_value (take 4 (drop at xs))
unfolding little_endian_value
four_at_lem xs at h =
    rw (
      add-one at,
      add-two at,
      add-three at,
      drop-cons xs at 0 (omega arith),
      drop-cons xs (suc at) 0 (omega arith),
      drop-cons xs (suc (suc at)) 0 (omega arith),
      drop-cons xs (suc (suc (suc at))) 0 (omega arith),
    )
    (omega arith)

-- eight bytes are four low and four high
eights : (ys : List ℕ) → 8 ≤ length ys → little_endian_value (take 4 ys) + 4294967296 * little_endian_value (take 4 (drop 4 ys)) ≡ little_endian_value (take 8 ys)
unfolding little_endian_value
eights [] h = absurd (omega arith)
eights (a ∷ []) h = absurd (omega arith)
eights (a ∷ b ∷ []) h = absurd (omega arith)
eights (a ∷ b ∷ c ∷ []) h = absurd (omega arith)
eights (a ∷ b ∷ c ∷ d ∷ []) h = absurd (omega arith)
eights (a ∷ b ∷ c ∷ d ∷ e ∷ []) h = absurd (omega arith)
eights (a ∷ b ∷ c ∷ d ∷ e ∷ f ∷ []) h = absurd (omega arith)
eights (a ∷ b ∷ c ∷ d ∷ e ∷ f ∷ g ∷ []) h = absurd (omega arith)
eights (a ∷ b ∷ c ∷ d ∷ e ∷ f ∷ g ∷ i ∷ ys) h = omega arith

pub eight_at_lem : (xs : List ℕ) (at : ℕ) → at + 8 ≤ length xs
    → little_endian_value (take 4 (drop at xs)) + 4294967296 * little_endian_value (take 4 (drop (at + 4) xs)) ≡ little_endian_value (take 8 (drop at xs))
eight_at_lem xs at h = rw (← drop-drop 4 at xs) (eights (drop at xs) (rw (length-drop at xs) (omega arith)))

-- ---- the library's bytes of a number, and a part of a buffer

byte_is : (i n : ℕ) → byte_at i n ≡ n / 256 ^ i % 256
byte_is zero n = rw (div-one n)
byte_is (suc i) n = refl

low_first : (k i n : ℕ) → bytes_low_first i k n ≡ little_endian k (n / 256 ^ i)
unfolding little_endian
low_first zero i n = refl
low_first (suc k) i n =
    let next : n / 256 ^ suc i ≡ n / 256 ^ i / 256 = rw (pow-suc 256 i) (sym (div-div-eq-div-mul n (256 ^ i) 256)) in
    ap₂ (λ (b : ℕ) (bs : List ℕ). b ∷ bs) (byte_is i n) (low_first k (suc i) n ∙ ap (little_endian k) next)

pub low_bytes : (k n : ℕ) → bytes_low_first 0 k n ≡ little_endian k n
low_bytes k n = low_first k 0 n ∙ ap (little_endian k) (div-one n)

-- n bytes copied to a place
pub put_part : (at n : ℕ) (vs d : List ℕ) → length vs ≡ n → take at d ++ (vs ++ drop (at + n - at) (drop at d)) ≡ put at vs d
put_part at n vs d e =
    let k : at + n - at ≡ n = omega arith in
    ap (λ (m : ℕ). take at d ++ (vs ++ drop m (drop at d))) k
    ∙ ap (λ (l : List ℕ). take at d ++ (vs ++ l)) (drop-drop n at d)
    ∙ ap (λ (m : ℕ). take at d ++ (vs ++ drop (at + m) d)) (sym e)
    ∙ sym (append_assoc (take at d) vs (drop (at + length vs) d))

-- a number of 64 signed bits as the library has its bits
pub cast_bits : (v : ℤ) → cast_unsigned w64 v ≡ bits 64 v
cast_bits (pos n) = refl
cast_bits (negsuc n) = refl
