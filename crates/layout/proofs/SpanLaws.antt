-- Spans and their pieces: how many bytes a span has, how many stand before a byte, and a part of a span's piece read back by its own span.
use Prim.Native.Nat.{ℕ, zero, suc, ◌+◌, ◌-◌, min, ◌≤◌, ◌<◌}
use native.Mathlib.Nat.{not-suc-le-zero, le_of_suc-le-suc}
use mathlib.Core.Path.{◌≡◌, refl, sym, ap, ◌∙◌}
use mathlib.Core.List.{List, [], ◌∷◌}
use mathlib.Core.Bool.{Bool, true, false, cond, not, ◌||◌}
use native.Mathlib.Omega.{arith}
use native.Mathlib.Numerals.{add-one}
use lib.Dec.{eqb}
use lib.ListN.{length, take, drop, get_or, drop_of_length-le, length-take, length-drop}
use lib.Seq.{drop-cons, drop-drop, take-take, take-length, length-take-le}
use Rattle.numbers.specs.declared.text.Span.{Span}
use Rattle.numbers.specs.Text.{leading, leading_spaces, trimmed, index_of, uncommented}
use Rattle.numbers.specs.Code.Spans.{trim_span, spanned}
use Rattle.numbers.proofs.Trims.{tail, span_front, span_later, trim_span-text, trim_span-within, statement_text, statement_within}
use Rattle.layout.specs.Pieces.{piece, trim_piece, from_byte, statement_of}
use Rattle.layout.specs.Bytes.{count_before}
use Rattle.layout.specs.Code.Spans.{span_of, piece_at, line_at, SpanWithin}
use Rattle.layout.specs.Code.Fits.{Inside}

-- how many bytes stand before the first that meets a test, from a place on
module _ (test : ℕ → Bool) (s : List ℕ) (i : ℕ) where
  -- the byte at i does not: one more than from the next place on
  pub count_more : i < length s → test (get_or s i 0) ≡ false → count_before test (drop i s) ≡ suc (count_before test (drop (i + 1) s))
  unfolding count_before
  count_more h e = rw (add-one i, drop-cons s i 0 h, e) refl

  -- it does: none
  pub count_stop : i < length s → test (get_or s i 0) ≡ true → count_before test (drop i s) ≡ 0
  unfolding count_before
  count_stop h e = rw (drop-cons s i 0 h, e) refl

  -- none past the end
  pub count_end : length s ≤ i → count_before test (drop i s) ≡ 0
  unfolding count_before
  count_end h = rw (drop_of_length-le s h) refl

-- they lie within the text
pub count_within : (test : ℕ → Bool) (s : List ℕ) → count_before test s ≤ length s
unfolding count_before
count_within test [] = omega arith
count_within test (x ∷ xs) = go (test x) (count_within test xs)
  where
    go : (t : Bool) → count_before test xs ≤ length xs → cond t 0 (suc (count_before test xs)) ≤ suc (length xs)
    go true h = omega arith
    go false h = omega arith

-- from a place before that one on
pub count_from : (test : ℕ → Bool) (n : ℕ) (s : List ℕ) → n ≤ count_before test s → n + count_before test (drop n s) ≡ count_before test s
unfolding count_before
count_from test zero s h = omega arith
count_from test (suc n) [] h = absurd (not-suc-le-zero h)
count_from test (suc n) (x ∷ xs) h = go (test x) (count_from test n xs) h
  where
    go : (t : Bool) → (n ≤ count_before test xs → n + count_before test (drop n xs) ≡ count_before test xs) → suc n ≤ cond t 0 (suc (count_before test xs))
        → suc n + count_before test (drop n xs) ≡ cond t 0 (suc (count_before test xs))
    go true ih k = absurd (not-suc-le-zero k)
    go false ih k = omega (arith, ih (le_of_suc-le-suc k))

-- the same of a text from a place on
pub count_on : (test : ℕ → Bool) (t : List ℕ) (at i : ℕ) → at ≤ i → i ≤ at + count_before test (drop at t)
    → i + count_before test (drop i t) ≡ at + count_before test (drop at t)
count_on test t at i h k =
    let e : at + (i - at) ≡ i = omega arith in
    let d : drop (i - at) (drop at t) ≡ drop i t = drop-drop (i - at) at t ∙ ap (λ (n : ℕ). drop n t) e in
    omega (arith, rw d at (count_from test (i - at) (drop at t) (omega arith)))

-- in a text's first n bytes
pub count_take : (test : ℕ → Bool) (n : ℕ) (s : List ℕ) → count_before test (take n s) ≡ min n (count_before test s)
unfolding count_before
count_take test zero s = omega arith
count_take test (suc n) [] = omega arith
count_take test (suc n) (x ∷ xs) = go (test x) (count_take test n xs)
  where
    go : (t : Bool) → count_before test (take n xs) ≡ min n (count_before test xs)
        → cond t 0 (suc (count_before test (take n xs))) ≡ min (suc n) (cond t 0 (suc (count_before test xs)))
    go true ih = omega arith
    go false ih = omega arith

-- the first that meets one of two tests
pub count_either : (f g : ℕ → Bool) (s : List ℕ) → count_before (λ x. f x || g x) s ≡ min (count_before f s) (count_before g s)
unfolding count_before
count_either f g [] = omega arith
count_either f g (x ∷ xs) = go (f x) (g x) (count_either f g xs)
  where
    go : (a b : Bool) → count_before (λ x. f x || g x) xs ≡ min (count_before f xs) (count_before g xs)
        → cond (a || b) 0 (suc (count_before (λ x. f x || g x) xs)) ≡ min (cond a 0 (suc (count_before f xs))) (cond b 0 (suc (count_before g xs)))
    go true b ih = omega arith
    go false true ih = omega arith
    go false false ih = omega arith

-- a byte's place
pub index_count : (b : ℕ) (s : List ℕ) → index_of b s ≡ count_before (λ x. eqb x b) s
unfolding index_of count_before
index_count b [] = refl
index_count b (x ∷ xs) = ap (λ (n : ℕ). cond (eqb x b) 0 (suc n)) (index_count b xs)

module _ (t : List ℕ) (q : Span) where
  -- a span has the bytes that it names, as far as the text has them
  pub spanned_size : length (spanned t q) ≡ min q.len (length t - q.start)
  unfolding spanned
  spanned_size = simp (length-take, length-drop)

  -- n bytes of a span, from its ath on, stand in the text by their own span
  pub part_back : (a n : ℕ) → a + n ≤ length (spanned t q) → spanned t (record { start = q.start + a; len = n }) ≡ take n (drop a (spanned t q))
  unfolding spanned
  part_back a n h = span_later t q.start a n ∙ span_front q.len (drop q.start t) (record { start = a; len = n }) h

  -- its first n bytes
  pub to_back : (n : ℕ) → n ≤ length (spanned t q) → spanned t (span_of (piece q.start (take n (spanned t q)))) ≡ take n (spanned t q)
  unfolding spanned
  to_back n h =
      rw (length-take-le n (spanned t q) h)
      (sym (take-take n q.len (drop q.start t) (omega (arith, length-take q.len (drop q.start t)))))

  -- all of them
  pub whole_part : (bytes : List ℕ) (r : Span) → bytes ≡ spanned t q → r ≡ span_of (piece q.start (take (length bytes) (spanned t q))) → r ≡ span_of (piece_at t q)
  whole_part bytes r e f = rw (e, take-length (spanned t q)) at f

  -- from its nth byte on
  pub from_back : (n : ℕ) → n ≤ length (spanned t q) → spanned t (span_of (from_byte n (piece_at t q))) ≡ drop n (spanned t q)
  from_back n h = rw (length-drop n (spanned t q)) (part_back n (length (spanned t q) - n) (omega (arith, h)) ∙ tail (spanned t q) n)

  -- without the white space at its ends
  trim_back : spanned t (span_of (trim_piece (piece_at t q))) ≡ trimmed (spanned t q)
  unfolding trim_span spanned
  trim_back =
      let s = spanned t q in
      part_back (leading_spaces s) (length (trimmed s)) (trim_span-within s) ∙ trim_span-text s

-- a part p of a part q, by its own place in the text: it lies within that, and has the same bytes there
module _ (t : List ℕ) (q p r : Span) (i : SpanWithin (spanned t q) p) (e : r ≡ record { start = q.start + p.start; len = p.len }) where
  pub part_within : SpanWithin t q → SpanWithin t r
  part_within w = rw e (omega (arith, w, i, spanned_size t q))

  pub part_same : spanned t r ≡ spanned (spanned t q) p
  unfolding spanned
  part_same = rw e (part_back t q p.start p.len i)

-- from its nth byte on, without the white space at its ends
pub trim_from_back : (t : List ℕ) (q : Span) (n : ℕ) → n ≤ length (spanned t q)
    → spanned t (span_of (trim_piece (from_byte n (piece_at t q)))) ≡ trimmed (drop n (spanned t q))
trim_from_back t q n h = rw (from_back t q n h) at (trim_back t (span_of (from_byte n (piece_at t q))))

-- the statement of the line from one place to another
pub statement_back : (t : List ℕ) (at end : ℕ) → spanned t (span_of (statement_of (line_at t at end))) ≡ (statement_of (line_at t at end)).bytes
unfolding trim_span spanned
statement_back t at end =
    let s = take (end - at) (drop at t) in
    let u = uncommented s in
    part_back t (record { start = at; len = end - at }) (leading_spaces u) (length (trimmed u)) (statement_within s) ∙ statement_text s

-- a span within the text has as many bytes as it says, and they are a piece of the text
module _ (t : List ℕ) (q : Span) (h : SpanWithin t q) where
  pub within_size : length (spanned t q) ≡ q.len
  within_size = spanned_size t q ∙ omega arith

  pub within_inside : Inside t (piece_at t q)
  unfolding spanned
  within_inside = record { within = rw within_size h; is = rw within_size refl }

-- those that meet no test are those with which a text begins
pub count_leading : (test : ℕ → Bool) (s : List ℕ) → count_before test s ≡ leading (λ x. not (test x)) s
unfolding count_before leading
count_leading test [] = refl
count_leading test (x ∷ xs) = go (test x) (count_leading test xs)
  where
    go : (t : Bool) → count_before test xs ≡ leading (λ y. not (test y)) xs → cond t 0 (suc (count_before test xs)) ≡ cond (not t) (suc (leading (λ y. not (test y)) xs)) 0
    go true h = refl
    go false h = ap suc h
