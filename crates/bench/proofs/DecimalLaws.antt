-- A number's digits: the turns are enough, they are the fewest, and they read back as the number.
use Prim.Native.Nat.{ℕ, zero, suc, ◌+◌, ◌-◌, ◌*◌, ◌/◌, ◌%◌, ◌^◌, ◌≤◌, ◌<◌}
use native.Mathlib.Nat.{pow-suc, one-le-pow}
use native.Mathlib.Omega.{arith}
use mathlib.Core.Path.{◌≡◌, refl, sym, ◌∙◌}
use mathlib.Core.List.{List, [], ◌∷◌, ◌++◌}
use mathlib.Core.Bool.{Bool, true, false, ◌&&◌}
use Rattle.std.proofs.Common.{Some}
use lib.Dec.{ltb}
use lib.ListN.{length, length-append}
use borrow.Author.Tests.{ltb-true, ltb-false, lt-ltb, le-ltb, le-leb}
use Rattle.numbers.specs.Numbers.{digit_of, all_digits, value_from, digits_from, digits_of}
use Rattle.numbers.proofs.Values.{digits_start}
use Rattle.bench.specs.Lines.{digit, decimal_in, decimal}

in_one : (turns n : ℕ) → n < 10 → decimal_in (suc turns) n ≡ digit n ∷ []
unfolding decimal_in
in_one turns n h = rw (decimal_in, lt-ltb n 10 h)

in_more : (turns n : ℕ) → 10 ≤ n → decimal_in (suc turns) n ≡ decimal_in turns (n / 10) ++ (digit (n % 10) ∷ [])
unfolding decimal_in
in_more turns n h = rw (decimal_in, le-ltb n 10 h)

-- with more turns than the number it makes no difference how many there are
turns_alike : (a b n : ℕ) → n < a → n < b → decimal_in a n ≡ decimal_in b n
turns_alike zero b n h k = absurd (omega arith)
turns_alike (suc a) zero n h k = absurd (omega arith)
turns_alike (suc a) (suc b) n h k = by (ltb n 10) refl (turns_alike a b (n / 10))
  where
    by : (t : Bool) → ltb n 10 ≡ t → (n / 10 < a → n / 10 < b → decimal_in a (n / 10) ≡ decimal_in b (n / 10)) → decimal_in (suc a) n ≡ decimal_in (suc b) n
    by true e less = let l : n < 10 = ltb-true n 10 e in rw (in_one a n l, in_one b n l)
    by false e less =
        let l : 10 ≤ n = ltb-false n 10 e in
        let same : decimal_in a (n / 10) ≡ decimal_in b (n / 10) = less (omega arith) (omega arith) in
        rw (in_more a n l, in_more b n l, same)

pub decimal_one : (n : ℕ) → n < 10 → decimal n ≡ digit n ∷ []
unfolding decimal
decimal_one n h = in_one n n h

pub decimal_more : (n : ℕ) → 10 ≤ n → decimal n ≡ decimal (n / 10) ++ (digit (n % 10) ∷ [])
unfolding decimal
decimal_more n h = rw (in_more n n h, turns_alike n (suc (n / 10)) (n / 10) (omega arith) (omega arith))

-- the last k digits of n, the most significant first
abbrev pub last_digits : ℕ → ℕ → List ℕ
last_digits zero n = []
last_digits (suc k) n = last_digits k (n / 10) ++ (digit (n % 10) ∷ [])

-- n has k digits, and no fewer
abbrev pub IsDigitCount : ℕ → ℕ → Type 0
IsDigitCount n k = (1 ≤ k) × (n < 10 ^ k) × (1 < k → 10 ^ (k - 1) ≤ n)

-- the last k digits of a number that has k, and no fewer, are its digits
pub fewest_decimal : (k n : ℕ) → IsDigitCount n k → last_digits k n ≡ decimal n
fewest_decimal zero n f = absurd (omega (arith, f.0))
fewest_decimal (suc zero) n f =
    let low : n < 10 = omega (arith, f.1) in
    let same : n % 10 ≡ n = omega arith in
    rw (same, decimal_one n low) refl
fewest_decimal (suc (suc k)) n f =
    let two : suc (suc k) - 1 ≡ suc k = omega arith in
    let one : suc k - 1 ≡ k = omega arith in
    let more : 10 ^ suc k ≤ n = rw two at (f.2 (omega arith)) in
    let p : 10 ^ suc (suc k) ≡ 10 ^ suc k * 10 = pow-suc 10 (suc k) in
    let q : 10 ^ suc k ≡ 10 ^ k * 10 = pow-suc 10 k in
    let fewer : IsDigitCount (n / 10) (suc k) = (omega arith, omega (arith, f.1), λ _. rw one (omega arith)) in
    let least : 1 ≤ 10 ^ k = one-le-pow k 10 (omega arith) in
    rw (decimal_more n (omega arith), ← fewest_decimal (suc k) (n / 10) fewer) refl

-- a number below 10 ^ k has at most k digits
below_short : (k n : ℕ) → n < 10 ^ suc k → length (decimal n) ≤ suc k
below_short zero n h = let low : n < 10 = omega arith in rw (decimal_one n low) (omega arith)
below_short (suc k) n h = by (ltb n 10) refl (below_short k (n / 10) (omega (arith, pow-suc 10 (suc k))))
  where
    by : (t : Bool) → ltb n 10 ≡ t → length (decimal (n / 10)) ≤ suc k → length (decimal n) ≤ suc (suc k)
    by true e less = rw (decimal_one n (ltb-true n 10 e)) (omega arith)
    by false e less = rw (decimal_more n (ltb-false n 10 e), length-append (decimal (n / 10)) (digit (n % 10) ∷ [])) (omega arith)

pub decimal_short : (n : ℕ) → n < 2 ^ 64 → length (decimal n) ≤ 20
decimal_short n h = below_short 19 n (omega arith)

pub tenth_short : (n : ℕ) → n < 2 ^ 64 → length (decimal (n / 10)) ≤ 19
tenth_short n h = below_short 18 (n / 10) (omega arith)

-- ---- read back: the number that the digits spell, as `numbers` reads one

digit_back : (d : ℕ) → d < 10 → digit_of (digit d) ≡ d
digit_back d h = rw (le-leb 48 (48 + d) (omega arith), le-leb (48 + d) 57 (omega arith)) (omega arith)

all_snoc : (ds : List ℕ) (d : ℕ) → all_digits 10 ds ≡ true → d < 10 → all_digits 10 (ds ++ (digit d ∷ [])) ≡ true
unfolding all_digits
all_snoc [] d a h = rw (digit_back d h, lt-ltb d 10 h)
all_snoc (x ∷ ds) d a h = by (ltb (digit_of x) 10) a (all_snoc ds d)
  where
    by : (t : Bool) → (t && all_digits 10 ds) ≡ true → (all_digits 10 ds ≡ true → d < 10 → all_digits 10 (ds ++ (digit d ∷ [])) ≡ true)
        → (t && all_digits 10 (ds ++ (digit d ∷ []))) ≡ true
    by true a more = more a h
    by false a more = a

value_snoc : (ds : List ℕ) (v d : ℕ) → d < 10 → value_from 10 v (ds ++ (digit d ∷ [])) ≡ value_from 10 v ds * 10 + d
unfolding value_from
value_snoc [] v d h = rw (digit_back d h)
value_snoc (x ∷ ds) v d h = value_snoc ds (v * 10 + digit_of x) d h

spelled : (k n : ℕ) → n < k → (0 < length (decimal n)) × (all_digits 10 (decimal n) ≡ true) × (value_from 10 0 (decimal n) ≡ n)
unfolding all_digits value_from
spelled zero n h = absurd (omega arith)
spelled (suc k) n h = by (ltb n 10) refl (spelled k (n / 10))
  where
    by : (t : Bool) → ltb n 10 ≡ t
        → (n / 10 < k → (0 < length (decimal (n / 10))) × (all_digits 10 (decimal (n / 10)) ≡ true) × (value_from 10 0 (decimal (n / 10)) ≡ n / 10))
        → (0 < length (decimal n)) × (all_digits 10 (decimal n) ≡ true) × (value_from 10 0 (decimal n) ≡ n)
    by true e less =
        let l : n < 10 = ltb-true n 10 e in
        rw (decimal_one n l) (omega arith, rw (digit_back n l, lt-ltb n 10 l), rw (digit_back n l) (omega arith))
    by false e less =
        let l : 10 ≤ n = ltb-false n 10 e in
        let r = less (omega arith) in
        rw (decimal_more n l) (
          rw (length-append (decimal (n / 10)) (digit (n % 10) ∷ [])) (omega arith),
          all_snoc (decimal (n / 10)) (n % 10) r.1 (omega arith),
          value_snoc (decimal (n / 10)) 0 (n % 10) (omega arith) ∙ rw r.2 (omega arith),
        )

pub decimal_back : (n limit : ℕ) → n ≤ limit → digits_of 10 limit (decimal n) ≡ Some n
unfolding digits_from
decimal_back n limit h =
    let r = spelled (suc n) n (omega arith) in
    sym (digits_start 10 limit (decimal n) (λ z. omega arith)) ∙ rw (r.1, r.2, le-leb n limit h)
