-- Characters of a string: what they take stands in the text, and what a text stands for from a character on.
use Prim.Native.Nat.{ℕ, zero, suc, ◌+◌, ◌-◌, ◌*◌, ◌^◌, ◌≤◌, ◌<◌}
use native.Mathlib.Nat.{not-suc-le-zero, le_of_suc-le-suc, pow-suc, pow-le-pow_right}
use native.Mathlib.Numerals.{add-one}
use native.Mathlib.Omega.{arith}
use mathlib.Core.Path.{◌≡◌, refl, sym, ap, ◌∙◌, subst}
use mathlib.Core.List.{List, [], ◌∷◌, ◌++◌}
use mathlib.Core.Bool.{Bool, true, false, cond}
use Rattle.std.proofs.Common.{Option, None, Some}
use lib.Dec.{leb, ltb, eqb}
use lib.ListN.{length, take, drop, get_or, drop_of_length-le, length-drop}
use lib.Seq.{drop-cons, drop-drop, take-suc, take-length}
use borrow.Author.Tests.{leb-true, ltb-true, ltb-false}
use Rattle.numbers.specs.Text.{is_digit, leading, index_of}
use Rattle.numbers.specs.Numbers.{digit_of, value_from}
use Rattle.numbers.specs.Strings.{Char, char, simple_escape, octal_len, octal_value, octal_is, octal_of, escape_of, char_of, consed, then_rest, decoded_from, decoded}
use Rattle.numbers.specs.Code.Strings.{size_of, bytes_of}
use Rattle.numbers.proofs.Bools.{and_left, and_right, none-some}
use Rattle.numbers.proofs.Trims.{leading_more, leading-stop, leading_end, leading-within, leading-from}
use Rattle.numbers.proofs.Values.{digit-decimal}

-- ---- digits

-- a byte that is not 0 stands within the text, so a digit does
pub byte_inside : (s : List ℕ) (i : ℕ) → 0 < get_or s i 0 → i < length s
byte_inside [] i h = absurd (not-suc-le-zero h)
byte_inside (x ∷ xs) zero h = omega arith
byte_inside (x ∷ xs) (suc i) h = omega (arith, byte_inside xs i h)

pub digit_between : (b : ℕ) → is_digit b ≡ true → (48 ≤ b) × (b ≤ 57)
digit_between b e = (leb-true 48 b (and_left _ _ e), leb-true b 57 (and_right (leb 48 b) _ e))

-- the value of digits and one more
value_more : (base v : ℕ) (l : List ℕ) (x : ℕ) → value_from base v (l ++ (x ∷ [])) ≡ value_from base v l * base + digit_of x
unfolding value_from
value_more base v [] x = refl
value_more base v (y ∷ ys) x = value_more base (v * base + digit_of y) ys x

-- the first n bytes are among an octal's digits, and v is their value
module _ (s : List ℕ) (n v : ℕ) (h : n ≤ octal_len s) (e : v ≡ value_from 8 0 (take n s)) where
  -- they are all of them
  all_digits_lem : n ≡ octal_len s → octal_is v n ≡ octal_of s
  unfolding octal_of
  all_digits_lem k = rw (e, ← k) refl

  -- three
  pub octal_end : 3 ≤ n → octal_is v n ≡ octal_of s
  octal_end k = all_digits_lem (omega arith)

  -- by the byte behind them: no digit, or one more
  module _ (b : ℕ) (is : b ≡ get_or s n 0) where
    pub octal_stop : is_digit b ≡ false → octal_is v n ≡ octal_of s
    octal_stop d = all_digits_lem (omega (arith, leading-from is_digit n s (omega arith), stops (ltb n (length s)) refl))
      where
        stops : (t : Bool) → ltb n (length s) ≡ t → leading is_digit (drop n s) ≡ 0
        stops true k = leading-stop is_digit s n (ltb-true _ _ k) (rw (← is) d)
        stops false k = leading_end is_digit s n (ltb-false _ _ k)

    module _ (k : n < 3) (d : is_digit b ≡ true) where
      inside : n < length s
      inside = byte_inside s n (omega (arith, digit_between b d))

      pub octal_more : n + 1 ≤ octal_len s
      octal_more = omega (arith, leading-from is_digit n s (omega arith), leading_more is_digit s n inside (rw (← is) d))

      pub octal_value_lem : v * 8 + (b - 48) ≡ value_from 8 0 (take (n + 1) s)
      octal_value_lem =
          let r = digit_between b d in
          rw (add-one n, take-suc s n 0 inside) (rw (value_more 8 0 (take n s) (get_or s n 0), ← e, ← is, digit-decimal b r.0 r.1) refl)

-- a value of n decimal digits is small, and stays so with one more
pub few_small : (v n : ℕ) → v < 10 ^ n → n < 3 → v < 100
few_small v n h k =
    let two : n ≤ 2 = omega arith in
    omega (arith, pow-le-pow_right {n = 10} (omega arith) two)

pub more_small : (v n b : ℕ) → v < 10 ^ n → is_digit b ≡ true → v * 8 + (b - 48) < 10 ^ (n + 1)
more_small v n b h d =
    let power : 10 ^ (n + 1) ≡ 10 ^ n * 10 = rw (add-one n) (pow-suc 10 n) in
    omega (arith, power, digit_between b d)

-- ---- what a character takes

-- an escape takes a byte behind its backslash at least, and n at most
abbrev Takes : ℕ → Option Char → Type 0
Takes n None = Unit
Takes n (Some c) = (1 ≤ c.more) × (c.more ≤ n)

either_takes : (n : ℕ) (t : Bool) (a b : Option Char) → (t ≡ true → Takes n a) → Takes n b → Takes n (cond t a b)
either_takes n true a b h k = h refl
either_takes n false a b h k = k

octal_takes : (x : ℕ) (xs : List ℕ) → is_digit x ≡ true → Takes (suc (length xs)) (octal_of (x ∷ xs))
unfolding octal_of
octal_takes x xs d =
    let s : List ℕ = x ∷ xs in
    let first : leading is_digit s ≡ suc (leading is_digit (drop 1 s)) = leading_more is_digit s 0 (omega arith) d in
    either_takes (length s) (leb (octal_value s) 255) (Some (char (octal_value s) (octal_len s))) None
    (λ _. (omega (arith, first), omega (arith, leading-within is_digit s))) tt

simple_takes : (n e : ℕ) → 1 ≤ n → Takes n (simple_escape e)
simple_takes n e h =
    let one : (1 ≤ 1) × (1 ≤ n) = (omega arith, h) in
    either_takes n (eqb e 98) _ _ (λ _. one)
    (either_takes n (eqb e 102) _ _ (λ _. one)
    (either_takes n (eqb e 110) _ _ (λ _. one)
    (either_takes n (eqb e 114) _ _ (λ _. one)
    (either_takes n (eqb e 116) _ _ (λ _. one)
    (either_takes n (eqb e 92) _ _ (λ _. one)
    (either_takes n (eqb e 34) (Some (char 34 1)) None (λ _. one) tt))))))

escape_takes : (s : List ℕ) → Takes (length s) (escape_of s)
unfolding escape_of
escape_takes [] = tt
escape_takes (x ∷ xs) =
    either_takes (suc (length xs)) (is_digit x) _ _ (octal_takes x xs) (simple_takes (suc (length xs)) x (omega arith))

-- a character stands within the text
char-within : (s : List ℕ) (c : Char) → char_of s ≡ Some c → c.more < length s
unfolding char_of
char-within [] c e = absurd (none-some e)
char-within (x ∷ xs) c e = go (eqb x 92) e
  where
    go : (t : Bool) → cond t (escape_of xs) (Some (char x 0)) ≡ Some c → c.more < suc (length xs)
    go true k = omega (arith, subst (Takes (length xs)) k (escape_takes xs))
    go false k = let same : char x 0 ≡ c = cc in omega (arith, ap (λ (d : Char). d.more) same)

-- ---- what a text stands for

-- what belongs to the character before is passed
decoded_skip : (n : ℕ) (s : List ℕ) → decoded_from n s ≡ decoded (drop n s)
unfolding decoded_from
decoded_skip zero s = refl
decoded_skip (suc n) [] = refl
decoded_skip (suc n) (x ∷ xs) = decoded_skip n xs

decoded-char : (s : List ℕ) (c : Char) → char_of s ≡ Some c → decoded s ≡ consed c.is (decoded (drop (suc c.more) s))
unfolding decoded_from char_of
decoded-char [] c e = absurd (none-some e)
decoded-char (x ∷ xs) c e = rw e (ap (consed c.is) (decoded_skip c.more xs))

decoded-none : (s : List ℕ) → 0 < length s → char_of s ≡ None → decoded s ≡ None
unfolding decoded_from
decoded-none [] h e = absurd (not-suc-le-zero h)
decoded-none (x ∷ xs) h e = rw e refl

-- from a place on: by the character there, one that is none, and the end
module _ (s : List ℕ) (i : ℕ) where
  pub decoded_on : (c : Char) → char_of (drop i s) ≡ Some c → decoded (drop i s) ≡ consed c.is (decoded (drop (i + (c.more + 1)) s))
  decoded_on c e =
      let one : suc c.more ≡ c.more + 1 = omega arith in
      decoded-char (drop i s) c e ∙ rw (drop-drop (suc c.more) i s, one) refl

  pub decoded_bad : i < length s → char_of (drop i s) ≡ None → decoded (drop i s) ≡ None
  decoded_bad h e = decoded-none (drop i s) (omega (arith, length-drop i s)) e

  pub decoded_end : length s ≤ i → decoded (drop i s) ≡ Some []
  unfolding decoded_from
  decoded_end h = rw (drop_of_length-le s h) refl

  -- a character there ends within the text
  pub char_inside : (c : Char) → char_of (drop i s) ≡ Some c → i + (c.more + 1) ≤ length s
  char_inside c e = omega (arith, char-within (drop i s) c e, length-drop i s)

-- a text stands for no more bytes than it has
pub decoded_short : (n : ℕ) (s : List ℕ) → length (bytes_of (decoded_from n s)) ≤ length s
unfolding decoded_from
decoded_short n [] = omega arith
decoded_short (suc n) (x ∷ xs) = omega (arith, decoded_short n xs)
decoded_short zero (x ∷ xs) = by (char_of (x ∷ xs)) (λ n. decoded_short n xs)
  where
    more : (b : ℕ) (o : Option (List ℕ)) → length (bytes_of o) ≤ length xs → length (bytes_of (consed b o)) ≤ suc (length xs)
    more b None h = omega arith
    more b (Some bs) h = omega arith

    by : (c : Option Char) → ((n : ℕ) → length (bytes_of (decoded_from n xs)) ≤ length xs)
        → length (bytes_of (then_rest c (λ n. decoded_from n xs))) ≤ suc (length xs)
    by None h = omega arith
    by (Some c) h = more c.is (decoded_from c.more xs) (h c.more)

-- nor, where n of them belong to the character before, than the others
decoded_rest : (n : ℕ) (s : List ℕ) → length (bytes_of (decoded_from n s)) ≤ length s - n
decoded_rest n s = rw (decoded_skip n s) (omega (arith, decoded_short 0 (drop n s), length-drop n s))

-- a text that stands for as many bytes as it has stands for itself: an escape makes it shorter
pub decoded-whole : (s bs : List ℕ) → decoded s ≡ Some bs → length bs ≡ length s → bs ≡ s
unfolding decoded_from char_of
decoded-whole [] bs e n = cc
decoded-whole (x ∷ xs) bs e n = go (eqb x 92) (decoded-whole xs) e
  where
    plain : (o : Option (List ℕ)) → ((r : List ℕ) → o ≡ Some r → length r ≡ length xs → r ≡ xs) → consed x o ≡ Some bs → bs ≡ x ∷ xs
    plain None ih k = absurd (none-some k)
    plain (Some r) ih k =
        let all : x ∷ r ≡ bs = cc in
        sym all ∙ ap (λ (z : List ℕ). x ∷ z) (ih r refl (omega (arith, n, ap length all)))

    fewer : (b m : ℕ) (o : Option (List ℕ)) → 1 ≤ m → m ≤ length xs → length (bytes_of o) ≤ length xs - m → consed b o ≡ Some bs → ⊥
    fewer b m None h j l k = none-some k
    fewer b m (Some r) h j l k = let all : b ∷ r ≡ bs = cc in omega (arith, n, ap length all)

    escape : (c : Option Char) → Takes (length xs) c → then_rest c (λ m. decoded_from m xs) ≡ Some bs → ⊥
    escape None h k = none-some k
    escape (Some c) h k = fewer c.is c.more (decoded_from c.more xs) h.0 h.1 (decoded_rest c.more xs) k

    go : (t : Bool) → ((r : List ℕ) → decoded xs ≡ Some r → length r ≡ length xs → r ≡ xs)
        → then_rest (cond t (escape_of xs) (Some (char x 0))) (λ m. decoded_from m xs) ≡ Some bs → bs ≡ x ∷ xs
    go true ih k = absurd (escape (escape_of xs) (escape_takes xs) k)
    go false ih k = plain (decoded xs) ih k

-- ---- counting and storing

-- n bytes, and those of an answer
abbrev pub size_after : ℕ → Option ℕ → Option ℕ
size_after n None = None
size_after n (Some m) = Some (n + m)

pub size_start : (o : Option ℕ) → size_after 0 o ≡ o
size_start None = refl
size_start (Some m) = ap Some (omega arith)

-- a byte more before the answer is one byte more
pub size_more : (n b : ℕ) (o : Option (List ℕ)) → size_after (n + 1) (size_of o) ≡ size_after n (size_of (consed b o))
size_more n b None = refl
size_more n b (Some bs) = ap Some (omega arith)

-- a count is at most the text's length
pub size_short : (n : ℕ) (s : List ℕ) → Some n ≡ size_of (decoded s) → n ≤ length s
size_short n s e = by (decoded s) (decoded_short 0 s) e
  where
    by : (o : Option (List ℕ)) → length (bytes_of o) ≤ length s → Some n ≡ size_of o → n ≤ length s
    by None h k = absurd (none-some (sym k))
    by (Some bs) h k = let all : n ≡ length bs = cc in omega arith

-- n bytes before every backslash stand for themselves
size_past : (k n : ℕ) (s : List ℕ) → n ≤ index_of 92 s → size_after k (size_of (decoded s)) ≡ size_after (k + n) (size_of (decoded (drop n s)))
unfolding decoded_from char_of index_of
size_past k zero s h = ap (λ (m : ℕ). size_after m (size_of (decoded s))) (omega arith)
size_past k (suc n) [] h = absurd (not-suc-le-zero h)
size_past k (suc n) (x ∷ xs) h = go (eqb x 92) refl (size_past (k + 1) n xs) h
  where
    go : (t : Bool) → eqb x 92 ≡ t
        → (n ≤ index_of 92 xs → size_after (k + 1) (size_of (decoded xs)) ≡ size_after (k + 1 + n) (size_of (decoded (drop n xs))))
        → suc n ≤ cond t 0 (suc (index_of 92 xs)) → size_after k (size_of (decoded (x ∷ xs))) ≡ size_after (k + suc n) (size_of (decoded (drop n xs)))
    go true e ih j = absurd (not-suc-le-zero j)
    go false e ih j =
        let count : k + 1 + n ≡ k + suc n = omega arith in
        rw e (sym (size_more k x (decoded xs)) ∙ ih (le_of_suc-le-suc j) ∙ ap (λ (m : ℕ). size_after m (size_of (decoded (drop n xs)))) count)

pub size_plain : (n : ℕ) (s : List ℕ) → n ≤ index_of 92 s → size_of (decoded s) ≡ size_after n (size_of (decoded (drop n s)))
size_plain n s h = sym (size_start (size_of (decoded s))) ∙ size_past 0 n s h ∙ ap (λ (m : ℕ). size_after m (size_of (decoded (drop n s)))) (omega arith)

-- a byte before an answer is the next of all the bytes, and the answer is what comes behind it
pub next_byte : (bs : List ℕ) (n b : ℕ) (o : Option (List ℕ)) → consed b o ≡ Some (drop n bs)
    → (n < length bs) × (get_or bs n 0 ≡ b) × (o ≡ Some (drop (n + 1) bs))
next_byte bs n b None e = absurd (none-some e)
next_byte bs n b (Some rest) e =
    let whole : b ∷ rest ≡ drop n bs = cc in
    let h : n < length bs = omega (arith, ap length whole, length-drop n bs) in
    let parts : b ∷ rest ≡ get_or bs n 0 ∷ drop (n + 1) bs = whole ∙ rw (add-one n) (drop-cons bs n 0 h) in
    (h, cc, cc)

-- where nothing comes behind them all are stored
pub stored_all : (bs dst : List ℕ) (n : ℕ) → n ≤ length bs → drop n bs ≡ [] → take n bs ++ drop n dst ≡ bs ++ drop (length bs) dst
stored_all bs dst n h e =
    let all : n ≡ length bs = omega (arith, ap length e, length-drop n bs) in
    rw (all, take-length bs) refl

-- ---- a text without an escape

-- it stands for itself
pub decoded-plain : (s : List ℕ) → length s ≤ index_of 92 s → decoded s ≡ Some s
decoded-plain s h =
    let count : size_of (decoded s) ≡ Some (length s + 0) = rw (decoded_end s (length s) (omega arith)) at (size_plain (length s) s h) in
    by (decoded s) (decoded-whole s) (count ∙ ap Some (omega arith))
  where
    by : (o : Option (List ℕ)) → ((bs : List ℕ) → o ≡ Some bs → length bs ≡ length s → bs ≡ s) → size_of o ≡ Some (length s) → o ≡ Some s
    by None whole e = absurd (none-some e)
    by (Some bs) whole e = ap Some (whole bs refl cc)
