-- Tokens of a text in which each run of white space is one space: they are read from the text itself, with all white space as blanks.
use Rattle.layout.specs.declared.tokens.Token.{Token}
use Rattle.std.proofs.Common.{Option, Some, None}
use Prim.Native.Nat.{ℕ, suc, ◌+◌, ◌-◌, ◌≤◌, ◌<◌}
use mathlib.Core.Path.{◌≡◌, refl, sym, ap, ◌∙◌}
use mathlib.Core.List.{List, [], ◌∷◌}
use mathlib.Core.Bool.{Bool, true, false, cond, false≢true}
use native.Mathlib.Omega.{arith}
use lib.Dec.{leb, eqb}
use lib.ListN.{length, take, drop, get_or, length-drop, drop_of_length-le}
use lib.Seq.{drop-cons, drop-drop}
use borrow.Author.Tests.{lt-leb, leb-true, leb-false, ne_eqb}
use Rattle.numbers.specs.Text.{byte, is_space, leading, space_first, one_spaced, is_digit}
use Rattle.numbers.specs.Numbers.{prefixed}
use Rattle.numbers.specs.Code.Cursors.{is_separator}
use Rattle.numbers.proofs.Bools.{or_left}
use Rattle.layout.specs.declared.tokens.Token as code
use Rattle.layout.specs.Expressions.{plus, minus, unreadable, is_blank, is_name_byte, is_number_byte, Scanned, number_token, name_token, scan, tokens_in, tokens}
use Rattle.layout.specs.Expressions.{is_unreadable, any_unreadable}
use Rattle.layout.specs.Code.Tokens.{token_of, TokenStands, TokenHere, spaced_in, blank_in, tokens_from, TokenLeads, TokenFrom}
use Rattle.layout.proofs.Ending.{tokens_fuel}
use Rattle.layout.proofs.TokenLaws.{high_no_space, low_no_number, unroll, none_in, stands_further, none_from, leads_from}

-- what a first byte gives
spaced_other : (x : ℕ) (xs : List ℕ) → is_space x ≡ false → one_spaced (x ∷ xs) ≡ x ∷ one_spaced xs
unfolding one_spaced
spaced_other x xs e = rw e refl

spaced_inner : (x : ℕ) (xs : List ℕ) → is_space x ≡ true → space_first xs ≡ true → one_spaced (x ∷ xs) ≡ one_spaced xs
unfolding one_spaced
spaced_inner x xs e f = rw (e, f) refl

spaced_last : (x : ℕ) (xs : List ℕ) → is_space x ≡ true → space_first xs ≡ false → one_spaced (x ∷ xs) ≡ 32 ∷ one_spaced xs
unfolding one_spaced
spaced_last x xs e f = rw (e, f) refl

-- a run of bytes that are no white space stays as it is
module _ (test : ℕ → Bool) (other : (x : ℕ) → is_space x ≡ true → test x ≡ false) where
  no_run : (xs : List ℕ) → space_first xs ≡ true → leading test xs ≡ 0
  unfolding leading
  no_run [] e = refl
  no_run (y ∷ ys) e = rw (other y e) refl

  first_run : (x : ℕ) (xs : List ℕ) → test x ≡ false → leading test (x ∷ xs) ≡ 0
  unfolding leading
  first_run x xs e = rw e refl

  more_run : (x : ℕ) (xs : List ℕ) → test x ≡ true → leading test (x ∷ xs) ≡ suc (leading test xs)
  unfolding leading
  more_run x xs e = rw e refl

  abbrev RunKept : List ℕ → Type 0
  RunKept s =
      (leading test (one_spaced s) ≡ leading test s)
      × (take (leading test s) (one_spaced s) ≡ take (leading test s) s)
      × (drop (leading test s) (one_spaced s) ≡ one_spaced (drop (leading test s) s))

  run_spaced : (s : List ℕ) → RunKept s
  unfolding leading one_spaced
  run_spaced [] = (refl, refl, refl)
  run_spaced (x ∷ xs) = go (is_space x) refl (space_first xs) refl (test x) refl (run_spaced xs)
    where
      go : (c : Bool) → is_space x ≡ c → (f : Bool) → space_first xs ≡ f → (t : Bool) → test x ≡ t → RunKept xs → RunKept (x ∷ xs)
      go true e true h t k ih =
          let n = first_run x xs (other x e) in
          (ap (leading test) (spaced_inner x xs e h) ∙ ih.0 ∙ no_run xs h ∙ sym n, rw n refl, rw n refl)
      go true e false h t k ih =
          let n = first_run x xs (other x e) in
          (ap (leading test) (spaced_last x xs e h) ∙ first_run 32 (one_spaced xs) (other 32 refl) ∙ sym n, rw n refl, rw n refl)
      go false e f h true k ih =
          let n = more_run x xs k in
          let s = spaced_other x xs e in (
            ap (leading test) s ∙ more_run x (one_spaced xs) k ∙ ap suc ih.0 ∙ sym n,
            rw (n, s) (ap (λ r. x ∷ r) ih.1),
            rw (n, s) ih.2,
          )
      go false e f h false k ih =
          let n = first_run x xs k in
          (ap (leading test) (spaced_other x xs e) ∙ first_run x (one_spaced xs) k ∙ sym n, rw n refl, rw n refl)

-- neither a number nor a name has white space
space_low : (x : ℕ) → is_space x ≡ true → x ≤ 32
space_low x e = go (leb x 32) refl
  where
    go : (t : Bool) → leb x 32 ≡ t → x ≤ 32
    go true h = leb-true x 32 h
    go false h = absurd (false≢true (sym (high_no_space x (leb-false x 32 h)) ∙ e))

space_no_number : (x : ℕ) → is_space x ≡ true → is_number_byte x ≡ false
space_no_number x e = low_no_number x (omega (arith, space_low x e))

space_no_name : (x : ℕ) → is_space x ≡ true → is_name_byte x ≡ false
space_no_name x e =
    let low = space_low x e in
    let other : (b : ℕ) → 32 < b → eqb x b ≡ false = λ b h. ne_eqb x b (λ q. omega (arith, q, h, low)) in
    rw (lt-leb 97 x (omega arith), lt-leb 65 x (omega arith), lt-leb 48 x (omega arith), other 95 (omega arith), other 46 (omega arith), other 36 (omega arith)) refl

-- of bytes that are no white space the comma alone is a blank
blank_other : (x : ℕ) → is_space x ≡ false → is_blank x ≡ eqb x 44
blank_other x e =
    let other : (b : ℕ) → is_space b ≡ true → eqb x b ≡ false = λ b h. ne_eqb x b (λ q. false≢true (sym e ∙ ap is_space q ∙ h)) in
    rw (other 9 refl, other 10 refl, other 13 refl, other 32 refl) refl

-- a text without the blanks before it
abbrev unblanked : List ℕ → List ℕ
unblanked s = drop (leading is_blank s) s

blank_first : (x : ℕ) (xs : List ℕ) → is_blank x ≡ true → unblanked (x ∷ xs) ≡ unblanked xs
unfolding leading
blank_first x xs e = rw e refl

separator_first : (x : ℕ) (xs : List ℕ) → is_separator x ≡ true → drop (leading is_separator (x ∷ xs)) (x ∷ xs) ≡ drop (leading is_separator xs) xs
unfolding leading
separator_first x xs e = rw e refl

other-first : (test : ℕ → Bool) (x : ℕ) (xs : List ℕ) → test x ≡ false → drop (leading test (x ∷ xs)) (x ∷ xs) ≡ x ∷ xs
unfolding leading
other-first test x xs e = rw e refl

-- the blanks before it are the white space and the commas before the text itself
pub blanks_spaced : (s : List ℕ) → unblanked (one_spaced s) ≡ one_spaced (drop (leading is_separator s) s)
unfolding leading one_spaced
blanks_spaced [] = refl
blanks_spaced (x ∷ xs) = go (is_space x) refl (space_first xs) refl (eqb x 44) refl (blanks_spaced xs)
  where
    go : (c : Bool) → is_space x ≡ c → (f : Bool) → space_first xs ≡ f → (t : Bool) → eqb x 44 ≡ t
        → unblanked (one_spaced xs) ≡ one_spaced (drop (leading is_separator xs) xs)
        → unblanked (one_spaced (x ∷ xs)) ≡ one_spaced (drop (leading is_separator (x ∷ xs)) (x ∷ xs))
    go true e true h t k ih = ap unblanked (spaced_inner x xs e h) ∙ ih ∙ ap one_spaced (sym (separator_first x xs (rw e refl)))
    go true e false h t k ih =
        ap unblanked (spaced_last x xs e h) ∙ blank_first 32 (one_spaced xs) refl ∙ ih ∙ ap one_spaced (sym (separator_first x xs (rw e refl)))
    go false e f h true k ih =
        ap unblanked (spaced_other x xs e) ∙ blank_first x (one_spaced xs) (blank_other x e ∙ k) ∙ ih
        ∙ ap one_spaced (sym (separator_first x xs (rw (e, k) refl)))
    go false e f h false k ih =
        ap unblanked (spaced_other x xs e) ∙ other-first is_blank x (one_spaced xs) (blank_other x e ∙ k) ∙ sym (spaced_other x xs e)
        ∙ ap one_spaced (sym (other-first is_separator x xs (rw (e, k) refl)))

-- the same token is scanned
scan_spaced : (b : ℕ) (s : List ℕ) → scan b (one_spaced s) ≡ scan b s
unfolding scan
scan_spaced b s =
    let n = run_spaced is_number_byte space_no_number s in
    let m = run_spaced is_name_byte space_no_name s in
    rw (n.0, n.1, m.0, m.1) refl

-- and the same is left after it
left_spaced : (b : ℕ) (bs : List ℕ) → is_space b ≡ false
    → drop (scan b (b ∷ bs)).size (one_spaced (b ∷ bs)) ≡ one_spaced (drop (scan b (b ∷ bs)).size (b ∷ bs))
unfolding scan
left_spaced b bs e = by (eqb b (byte "+")) (eqb b (byte "-")) (is_digit b) (is_name_byte b)
  where
    s : List ℕ
    s = b ∷ bs

    size : Bool → Bool → Bool → Bool → ℕ
    size p m d n = (cond {A = Scanned} p (record { token = plus; size = 1 })
        (cond m (record { token = minus; size = 1 })
        (cond d (record { token = number_token (prefixed (take (leading is_number_byte s) s)); size = leading is_number_byte s })
        (cond n (record { token = name_token (take (leading is_name_byte s) s); size = leading is_name_byte s })
        (record { token = unreadable; size = 1 }))))).size

    one : drop 1 (one_spaced s) ≡ one_spaced (drop 1 s)
    one = ap (drop 1) (spaced_other b bs e)

    by : (p m d n : Bool) → drop (size p m d n) (one_spaced s) ≡ one_spaced (drop (size p m d n) s)
    by true m d n = one
    by false true d n = one
    by false false true n = (run_spaced is_number_byte space_no_number s).2
    by false false false true = (run_spaced is_name_byte space_no_name s).2
    by false false false false = one

-- ---- one after the other

-- the byte where a run ends is none of it
run_stops : (test : ℕ → Bool) (s : List ℕ) (b : ℕ) (bs : List ℕ) → drop (leading test s) s ≡ b ∷ bs → test b ≡ false
unfolding leading
run_stops test [] b bs e = absurd (omega (arith, ap length e))
run_stops test (x ∷ xs) b bs e = go (test x) refl (run_stops test xs b bs) e
  where
    go : (t : Bool) → test x ≡ t → (drop (leading test xs) xs ≡ b ∷ bs → test b ≡ false) → drop (cond t (suc (leading test xs)) 0) (x ∷ xs) ≡ b ∷ bs
        → test b ≡ false
    go true k ih q = ih q
    go false k ih q = let same_byte : x ≡ b = cc in rw (← same_byte) k

unroll_spaced : (n : ℕ) (s : List ℕ) (k : ℕ) → k < length s → is_space (get_or s k 0) ≡ false
    → tokens_in (suc n) (one_spaced (drop k s))
    ≡ (scan (get_or s k 0) (one_spaced (drop k s))).token ∷ tokens_in n (unblanked (drop (scan (get_or s k 0) (one_spaced (drop k s))).size (one_spaced (drop k s))))
unroll_spaced n s k h o =
    rw (drop-cons s k 0 h, spaced_other (get_or s k 0) (drop (suc k) s) o) (unroll n (get_or s k 0) (one_spaced (drop (suc k) s)))

-- the token that stands at a place where no white space does comes first, then those from the place after it on
spaced_here : (n : ℕ) (s : List ℕ) (k : ℕ) (t : code.Token) (after : ℕ) → TokenStands s k t after → k < after → is_space (get_or s k 0) ≡ false
    → length (one_spaced (drop k s)) ≤ n → tokens_in n (one_spaced (drop k s)) ≡ token_of s t ∷ tokens (one_spaced (drop after s))
spaced_here n s k t after w f o h =
    let b : ℕ = get_or s k 0 in
    let u : List ℕ = one_spaced (drop k s) in
    let rest : List ℕ = one_spaced (drop after s) in
    let size : after - k ≡ (scan b (drop k s)).size = omega (arith, w.next) in
    let sum : k + (after - k) ≡ after = omega (arith, f) in
    let there : drop (after - k) (drop k s) ≡ drop after s = drop-drop (after - k) k s ∙ ap (λ i. drop i s) sum in
    let left_at : drop (scan b (drop k s)).size u ≡ one_spaced (drop (scan b (drop k s)).size (drop k s)) =
    rw (drop-cons s k 0 w.start) (left_spaced b (drop (suc k) s) o) in
    let left : drop (after - k) u ≡ rest =
    ap (λ z. drop z u) size ∙ left_at ∙ ap (λ z. one_spaced (drop z (drop k s))) (sym size) ∙ ap one_spaced there in
    let within : length (unblanked rest) ≤ length rest = omega (arith, length-drop (leading is_blank rest) rest) in
    let fewer : length (unblanked rest) ≤ length u = omega (arith, within, length-drop (after - k) u, ap length left) in
    tokens_fuel n (suc (length u)) u h (omega arith)
    ∙ unroll_spaced (length u) s k w.start o
    ∙ ap (λ c. c.token ∷ tokens_in (length u) (unblanked (drop c.size u))) (scan_spaced b (drop k s))
    ∙ ap (λ z. (scan b (drop k s)).token ∷ tokens_in (length u) (unblanked (drop z u))) (sym size)
    ∙ ap (λ x. x ∷ tokens_in (length u) (unblanked (drop (after - k) u))) w.token
    ∙ ap (λ r. token_of s t ∷ tokens_in (length u) (unblanked r)) left
    ∙ ap (λ ts. token_of s t ∷ ts) (tokens_fuel (length u) (length rest) (unblanked rest) fewer within)

-- after the white space and the commas from a place on, at k
module _ (s : List ℕ) (at k : ℕ) (e : k ≡ at + leading is_separator (drop at s)) where
  separators_there : drop (leading is_separator (drop at s)) (drop at s) ≡ drop k s
  separators_there = drop-drop (leading is_separator (drop at s)) at s ∙ ap (λ i. drop i s) (sym e)

  spaced_there : unblanked (one_spaced (drop at s)) ≡ one_spaced (drop k s)
  spaced_there = blanks_spaced (drop at s) ∙ ap one_spaced separators_there

  pub spaced_none : length s ≤ k → tokens (one_spaced (drop at s)) ≡ []
  unfolding one_spaced
  spaced_none h =
      ap (tokens_in (length (one_spaced (drop at s)))) (spaced_there ∙ ap one_spaced (drop_of_length-le s h))
      ∙ none_in (length (one_spaced (drop at s)))

  pub spaced_leads : (t : code.Token) (after : ℕ) → TokenStands s k t after → tokens (one_spaced (drop at s)) ≡ token_of s t ∷ tokens (one_spaced (drop after s))
  spaced_leads t after w =
      let u : List ℕ = one_spaced (drop at s) in
      let b : ℕ = get_or s k 0 in
      let other = or_left (is_space b) (eqb b 44) (run_stops is_separator (drop at s) b (drop (suc k) s) (separators_there ∙ drop-cons s k 0 w.start)) in
      let fewer : length (one_spaced (drop k s)) ≤ length u = omega (arith, length-drop (leading is_blank u) u, ap length spaced_there) in
      ap (tokens_in (length u)) spaced_there ∙ spaced_here (length u) s k t after w (stands_further s k t after w) other fewer

-- ---- both ways to read a text

-- what stands after the blanks is the first token from the place on
pub from-here : (one_space : Bool) (s : List ℕ) (at k : ℕ) → k ≡ at + leading (blank_in one_space) (drop at s) → (r : Option (Token × ℕ)) → TokenHere s k r → TokenFrom one_space s at r
unfolding tokens_from
from-here true s at k e (Some (t, after)) w = record {
  leads = spaced_leads s at k e t after w;
  further = omega (arith, e, stands_further s k t after w);
  within = w.within;
  named = w.named;
}
from-here false s at k e (Some (t, after)) w = record {
  leads = leads_from s at k e t after w;
  further = omega (arith, e, stands_further s k t after w);
  within = w.within;
  named = w.named;
}
from-here true s at k e None h = spaced_none s at k e h
from-here false s at k e None h = none_from s at k e h

-- from the start on there are all
pub unreadable-start : (one_space : Bool) (s : List ℕ) → any_unreadable (tokens_from one_space s 0) ≡ any_unreadable (tokens (spaced_in one_space s))
unfolding tokens_from
unreadable-start one_space s = refl

-- no token, none unreadable
pub unreadable_end : (one_space : Bool) (s : List ℕ) (at : ℕ) → tokens_from one_space s at ≡ [] → any_unreadable (tokens_from one_space s at) ≡ false
unfolding any_unreadable
unreadable_end one_space s at e = ap any_unreadable e

-- the first is, or what is left decides
module _ (one_space : Bool) (s : List ℕ) (at : ℕ) (t : code.Token) (after : ℕ) (l : TokenLeads one_space s at t after) where
  pub unreadable-first : is_unreadable (token_of s t) ≡ true → any_unreadable (tokens_from one_space s at) ≡ true
  unfolding any_unreadable
  unreadable-first e = ap any_unreadable l.leads ∙ rw e refl

  pub unreadable_next : is_unreadable (token_of s t) ≡ false → any_unreadable (tokens_from one_space s at) ≡ any_unreadable (tokens_from one_space s after)
  unfolding any_unreadable
  unreadable_next e = ap any_unreadable l.leads ∙ rw e refl
