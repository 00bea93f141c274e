-- Tokens by the place where each stands: what `scan` gives there, and that the tokens of a text are those found one after the other.
use Prim.Native.Nat.{ℕ, zero, suc, ◌+◌, ◌-◌, ◌≤◌, ◌<◌}
use mathlib.Core.Path.{◌≡◌, refl, sym, ap, ◌∙◌}
use mathlib.Core.List.{List, [], ◌∷◌}
use mathlib.Core.Bool.{Bool, true, false, cond, ◌&&◌, false≢true}
use Rattle.std.proofs.Common.{Option, None, Some}
use native.Mathlib.Omega.{arith}
use lib.Dec.{leb, eqb}
use lib.ListN.{length, take, drop, get_or, length-drop, drop_of_length-le}
use lib.IntN.{ℤ}
use lib.Seq.{drop-cons, drop-drop}
use borrow.Author.Tests.{le-leb, lt-leb, leb-true, leb-false, ne_eqb, eqb-true}
use Rattle.numbers.specs.Text.{is_space, leading, cons_trimmed, trim_start, trim_end, trimmed, starts_with, is_digit}
use Rattle.numbers.specs.Numbers.{prefixed, outer_signed, number_of}
use Rattle.numbers.specs.Code.Spans.{spanned}
use Rattle.numbers.proofs.Bools.{and_left, and_right}
use Rattle.numbers.proofs.Trims.{leading_more, leading-within}
use Rattle.layout.specs.declared.tokens.Token as code
use Rattle.layout.specs.declared.tokens.Token.TheVariants as kind
use Rattle.layout.specs.Expressions.{Token, name, is_blank, is_name_byte, is_number_byte, number_token, name_token, positive, negative, scan, tokens_in, tokens}
use Rattle.layout.specs.Code.Tokens.{token_of, numeral, sign_of, TokenWithin, TokenStands}
use Rattle.layout.proofs.Ending.{scan_takes, tokens_fuel}

-- ---- numbers

-- past the space no byte is white space
pub high_no_space : (x : ℕ) → 33 ≤ x → is_space x ≡ false
high_no_space x h = rw (ne_eqb x 32 (λ q. omega (arith, q, h)), le-leb 9 x (omega arith), lt-leb x 13 (omega arith)) refl

digit-high : (x : ℕ) → is_digit x ≡ true → 48 ≤ x
digit-high x e = leb-true 48 x (and_left (leb 48 x) (leb x 57) e)

-- a number's bytes stand from the digits on
pub low_no_number : (x : ℕ) → x < 48 → is_number_byte x ≡ false
low_no_number x h =
    let other : (b : ℕ) → 48 ≤ b → eqb x b ≡ false = λ b k. ne_eqb x b (λ q. omega (arith, q, h, k)) in
    rw (lt-leb 48 x h, lt-leb 97 x (omega arith), lt-leb 65 x (omega arith), other 120 (omega arith), other 88 (omega arith)) refl

number-byte-high : (x : ℕ) → is_number_byte x ≡ true → 48 ≤ x
number-byte-high x e = go (leb 48 x) refl
  where
    go : (t : Bool) → leb 48 x ≡ t → 48 ≤ x
    go true h = leb-true 48 x h
    go false h = absurd (false≢true (sym (low_no_number x (leb-false 48 x h)) ∙ e))

-- before any text a byte that is no white space is kept
other_kept : (x : ℕ) (r : List ℕ) → is_space x ≡ false → cons_trimmed x r ≡ x ∷ r
other_kept x [] e = rw e refl
other_kept x (y ∷ ys) e = refl

-- of a run of number bytes nothing is trimmed
run_kept : (s : List ℕ) → trim_end (take (leading is_number_byte s) s) ≡ take (leading is_number_byte s) s
unfolding leading trim_end
run_kept [] = refl
run_kept (x ∷ xs) = go (is_number_byte x) refl (run_kept xs)
  where
    k : ℕ
    k = leading is_number_byte xs

    go : (t : Bool) → is_number_byte x ≡ t → trim_end (take k xs) ≡ take k xs → trim_end (take (cond t (suc k) 0) (x ∷ xs)) ≡ take (cond t (suc k) 0) (x ∷ xs)
    go true e h = ap (cons_trimmed x) h ∙ other_kept x (take k xs) (high_no_space x (omega (arith, number-byte-high x e)))
    go false e h = refl

-- a number that begins with a digit and ends with no white space has no sign before its prefix, and nothing is trimmed
unsigned-number : (x : ℕ) (xs : List ℕ) → 48 ≤ x → trim_end (x ∷ xs) ≡ x ∷ xs → number_of (x ∷ xs) ≡ prefixed (x ∷ xs)
unfolding number_of trimmed trim_start outer_signed starts_with
unsigned-number x xs h k =
    rw (high_no_space x (omega arith), k, ne_eqb x 45 (λ q. omega (arith, q, h)), ne_eqb x 43 (λ q. omega (arith, q, h))) refl

run-first : (b : ℕ) (bs : List ℕ) → is_number_byte b ≡ true → leading is_number_byte (b ∷ bs) ≡ suc (leading is_number_byte bs)
unfolding leading
run-first b bs e = rw e refl

-- the reading of a run of number bytes from a digit on is what the definition takes
pub run-number : (b : ℕ) (bs : List ℕ) → is_digit b ≡ true
    → number_of (take (leading is_number_byte (b ∷ bs)) (b ∷ bs)) ≡ prefixed (take (leading is_number_byte (b ∷ bs)) (b ∷ bs))
run-number b bs e =
    let k = run-first b bs (rw e refl) in
    rw k (unsigned-number b (take (leading is_number_byte bs) bs) (digit-high b e) (rw k at (run_kept (b ∷ bs))))

-- ---- signs

-- a byte by what it is as a sign
module _ (b : ℕ) where
  sign_by : (P : Option Bool → Type 0) → (eqb b 43 ≡ true → P (Some positive)) → (eqb b 43 ≡ false → eqb b 45 ≡ true → P (Some negative))
      → (eqb b 43 ≡ false → eqb b 45 ≡ false → P None) → P (sign_of b)
  sign_by P on-plus on-minus on-other = go (eqb b 43) refl (eqb b 45) refl
    where
      go : (t : Bool) → eqb b 43 ≡ t → (u : Bool) → eqb b 45 ≡ u → P (cond t (Some positive) (cond u (Some negative) None))
      go true e u f = on-plus e
      go false e true f = on-minus e f
      go false e false f = on-other e f

  sign_plus : sign_of b ≡ Some positive → b ≡ 43
  sign_plus = sign_by (λ x. x ≡ Some positive → b ≡ 43) (λ e h. eqb-true b 43 e) (λ e f h. cc) (λ e f h. cc)

  sign_minus : sign_of b ≡ Some negative → b ≡ 45
  sign_minus = sign_by (λ x. x ≡ Some negative → b ≡ 45) (λ e h. cc) (λ e f h. eqb-true b 45 f) (λ e f h. cc)

  no_plus : sign_of b ≡ None → eqb b 43 ≡ false
  no_plus = sign_by (λ x. x ≡ None → eqb b 43 ≡ false) (λ e h. cc) (λ e f h. e) (λ e f h. e)

  no_minus : sign_of b ≡ None → eqb b 45 ≡ false
  no_minus = sign_by (λ x. x ≡ None → eqb b 45 ≡ false) (λ e h. cc) (λ e f h. cc) (λ e f h. f)

-- ---- what stands at a place

numeral_token : (s : List ℕ) (o : Option ℤ) → number_token o ≡ token_of s (numeral o)
numeral_token s None = refl
numeral_token s (Some z) = refl

numeral-within : (s : List ℕ) (o : Option ℤ) → TokenWithin s (numeral o)
numeral-within s None = tt
numeral-within s (Some z) = tt

and_so : (a : Bool) → a && true ≡ false → a ≡ false
and_so true e = e
and_so false e = refl

-- a run of name bytes that is not a dot alone is a name
name-run : (n b : ℕ) (bs : List ℕ) → 1 ≤ n → n ≤ length (b ∷ bs) → eqb b 46 && eqb n 1 ≡ false → name_token (take n (b ∷ bs)) ≡ name (take n (b ∷ bs))
name-run zero b bs h k e = absurd (omega arith)
name-run (suc zero) b bs h k e = rw (and_so (eqb b 46) e) refl
name-run (suc (suc n)) b [] h k e = absurd (omega arith)
name-run (suc (suc n)) b (y ∷ ys) h k e = refl

-- a token of one byte
module _ (s : List ℕ) (at : ℕ) (h : at < length s) where
  pub plus_stands : sign_of (get_or s at 0) ≡ Some positive → TokenStands s at kind.Plus (at + 1)
  unfolding scan
  plus_stands q = let e = sign_plus (get_or s at 0) q in record { token = rw e refl; next = rw e refl; start = h; within = omega arith; named = tt }

  pub minus_stands : sign_of (get_or s at 0) ≡ Some negative → TokenStands s at kind.Minus (at + 1)
  unfolding scan
  minus_stands q = let e = sign_minus (get_or s at 0) q in record { token = rw e refl; next = rw e refl; start = h; within = omega arith; named = tt }

  -- a run from a place on lies within the text
  pub run-within : (test : ℕ → Bool) → at + leading test (drop at s) ≤ length s
  run-within test = omega (arith, leading-within test (drop at s), length-drop at s, h)

  -- a number
  pub number_stands : is_digit (get_or s at 0) ≡ true → (end : ℕ) → end ≡ at + leading is_number_byte (drop at s)
      → (t : code.Token) → t ≡ numeral (number_of (take (end - at) (drop at s))) → TokenStands s at t end
  unfolding scan
  number_stands e end q t r =
      let b = get_or s at 0 in
      let run = take (leading is_number_byte (drop at s)) (drop at s) in
      let low = digit-high b e in
      let p : eqb b 43 ≡ false = ne_eqb b 43 (λ z. omega (arith, z, low)) in
      let m : eqb b 45 ≡ false = ne_eqb b 45 (λ z. omega (arith, z, low)) in
      let size : end - at ≡ leading is_number_byte (drop at s) = omega arith in
      let reads : number_of run ≡ prefixed run = rw (drop-cons s at 0 h) (run-number b (drop (suc at) s) e) in
      let is : t ≡ numeral (prefixed run) = r ∙ ap (λ n. numeral (number_of (take n (drop at s)))) size ∙ ap numeral reads in
      record {
        token = rw (p, m, e, is) (numeral_token s (prefixed run));
        next = rw (p, m, e) q;
        start = h;
        within = rw q (run-within is_number_byte);
        named = rw is (numeral-within s (prefixed run));
      }

  module _ (n : sign_of (get_or s at 0) ≡ None) (d : is_digit (get_or s at 0) ≡ false) where
    -- a byte that begins no token
    pub other_stands : is_name_byte (get_or s at 0) ≡ false → TokenStands s at kind.Unreadable (at + 1)
    unfolding scan
    other_stands e = record {
      token = rw (no_plus (get_or s at 0) n, no_minus (get_or s at 0) n, e, d) refl;
      next = rw (no_plus (get_or s at 0) n, no_minus (get_or s at 0) n, e, d) refl;
      start = h;
      within = omega arith;
      named = tt;
    }

    module _ (e : is_name_byte (get_or s at 0) ≡ true) (end : ℕ) (q : end ≡ at + leading is_name_byte (drop at s)) where
      name_size : end - at ≡ leading is_name_byte (drop at s)
      name_size = omega (arith, q)

      name-scan : (t : Token) → name_token (take (end - at) (drop at s)) ≡ t → (scan (get_or s at 0) (drop at s)).token ≡ t
      unfolding scan
      name-scan t k = rw (no_plus (get_or s at 0) n, no_minus (get_or s at 0) n, e, d) (rw name_size at k)

      name_next : end ≡ at + (scan (get_or s at 0) (drop at s)).size
      unfolding scan
      name_next = rw (no_plus (get_or s at 0) n, no_minus (get_or s at 0) n, e, d) q

      -- a dot alone
      pub dot_stands : eqb (get_or s at 0) 46 && eqb (end - at) 1 ≡ true → TokenStands s at kind.Dot end
      dot_stands k =
          let one = eqb-true (end - at) 1 (and_right (eqb (get_or s at 0) 46) (eqb (end - at) 1) k) in
          let dot-here = and_left (eqb (get_or s at 0) 46) (eqb (end - at) 1) k in
          record {
            token = name-scan _ (rw (one, drop-cons s at 0 h, dot-here) refl);
            next = name_next;
            start = h;
            within = rw q (run-within is_name_byte);
            named = tt;
          }

      -- a name
      pub name_stands : eqb (get_or s at 0) 46 && eqb (end - at) 1 ≡ false → TokenStands s at (kind.Name (record { start = at; len = end - at })) end
      unfolding spanned
      name_stands k =
          let inside = run-within is_name_byte in
          let some_byte = leading_more is_name_byte s at h e in
          let fits : end - at ≤ length (get_or s at 0 ∷ drop (suc at) s) = omega (arith, q, inside, length-drop (suc at) s, h) in
          record {
            token = name-scan _ (rw (drop-cons s at 0 h) (name-run (end - at) (get_or s at 0) (drop (suc at) s) (omega (arith, q, some_byte)) fits k));
            next = name_next;
            start = h;
            within = rw q inside;
            named = omega (arith, q, inside);
          }

-- ---- one after the other

-- of no bytes there is no token
pub none_in : (n : ℕ) → tokens_in n [] ≡ []
unfolding tokens_in
none_in zero = refl
none_in (suc n) = refl

pub unroll : (n b : ℕ) (bs : List ℕ) → tokens_in (suc n) (b ∷ bs)
    ≡ (scan b (b ∷ bs)).token ∷ tokens_in n (drop (leading is_blank (drop (scan b (b ∷ bs)).size (b ∷ bs))) (drop (scan b (b ∷ bs)).size (b ∷ bs)))
unfolding tokens_in
unroll n b bs = refl

unroll_at : (n : ℕ) (s : List ℕ) (k : ℕ) → k < length s → (size : ℕ) → size ≡ (scan (get_or s k 0) (drop k s)).size
    → tokens_in (suc n) (drop k s) ≡ (scan (get_or s k 0) (drop k s)).token ∷ tokens_in n (drop (leading is_blank (drop size (drop k s))) (drop size (drop k s)))
unroll_at n s k h size e =
    (rw (drop-cons s k 0 h) (unroll n (get_or s k 0) (drop (suc k) s)))
    ∙ ap (λ z. (scan (get_or s k 0) (drop k s)).token ∷ tokens_in n (drop (leading is_blank (drop z (drop k s))) (drop z (drop k s)))) (sym e)

-- a token takes a byte at least
pub stands_further : (s : List ℕ) (k : ℕ) (t : code.Token) (after : ℕ) → TokenStands s k t after → k < after
stands_further s k t after w =
    let one : 1 ≤ (scan (get_or s k 0) (drop k s)).size = rw (drop-cons s k 0 w.start) (scan_takes (get_or s k 0) (drop (suc k) s)) in
    omega (arith, w.next, one)

-- the token that stands at a place comes first, then those from the place after it on
tokens-here : (n : ℕ) (s : List ℕ) (k : ℕ) (t : code.Token) (after : ℕ) → TokenStands s k t after → k < after → length (drop k s) ≤ n
    → tokens_in n (drop k s) ≡ token_of s t ∷ tokens (drop after s)
tokens-here n s k t after w f h =
    let l : ℕ = length (drop k s) in
    let rest = drop after s in
    let size : after - k ≡ (scan (get_or s k 0) (drop k s)).size = omega (arith, w.next) in
    let sum : k + (after - k) ≡ after = omega (arith, f) in
    let there : drop (after - k) (drop k s) ≡ rest = drop-drop (after - k) k s ∙ ap (λ i. drop i s) sum in
    let fewer : length (drop (leading is_blank rest) rest) ≤ l =
    omega (arith, f, length-drop (leading is_blank rest) rest, length-drop after s, length-drop k s) in
    let within : length (drop (leading is_blank rest) rest) ≤ length rest = omega (arith, length-drop (leading is_blank rest) rest) in
    tokens_fuel n (suc l) (drop k s) h (omega arith)
    ∙ unroll_at l s k w.start (after - k) size
    ∙ ap (λ x. x ∷ tokens_in l (drop (leading is_blank (drop (after - k) (drop k s))) (drop (after - k) (drop k s)))) w.token
    ∙ ap (λ x. token_of s t ∷ tokens_in l (drop (leading is_blank x) x)) there
    ∙ ap (λ ts. token_of s t ∷ ts) (tokens_fuel l (length rest) (drop (leading is_blank rest) rest) fewer within)

-- after the blanks from a place on, at k
module _ (s : List ℕ) (at k : ℕ) (e : k ≡ at + leading is_blank (drop at s)) where
  blanks_there : drop (leading is_blank (drop at s)) (drop at s) ≡ drop k s
  blanks_there = drop-drop (leading is_blank (drop at s)) at s ∙ ap (λ i. drop i s) (sym e)

  fewer_there : length (drop k s) ≤ length (drop at s)
  fewer_there = omega (arith, e, length-drop k s, length-drop at s)

  pub none_from : length s ≤ k → tokens (drop at s) ≡ []
  none_from h = ap (tokens_in (length (drop at s))) (blanks_there ∙ drop_of_length-le s h) ∙ none_in (length (drop at s))

  pub leads_from : (t : code.Token) (after : ℕ) → TokenStands s k t after → tokens (drop at s) ≡ token_of s t ∷ tokens (drop after s)
  leads_from t after w =
      ap (tokens_in (length (drop at s))) blanks_there
      ∙ tokens-here (length (drop at s)) s k t after w (stands_further s k t after w) fewer_there
