-- A line cut by one scan: its statement ends at the first LF, `;` or `#`, and up to the first `:` or `=` nothing parts it.
use Rattle.std.proofs.Common.{Some}
use Prim.Native.Nat.{ℕ, suc, ◌+◌, ◌-◌, min, ◌≤◌, ◌<◌}
use mathlib.Core.Path.{◌≡◌, refl, sym, ap, ◌∙◌}
use mathlib.Core.List.{List, [], ◌∷◌}
use Rattle.std.proofs.Common.{None}
use mathlib.Core.Bool.{Bool, true, false, cond, ◌||◌, true≢false}
use native.Mathlib.Numerals.{add-one}
use native.Mathlib.Omega.{arith}
use lib.Dec.{ltb, eqb}
use lib.ListN.{length, take, drop, length-drop}
use lib.Seq.{take-take, length-take-le}
use borrow.Author.Tests.{eqb-true, lt-ltb, le-ltb, ltb-true, ltb-false}
use Rattle.numbers.specs.declared.text.Span.{Span}
use Rattle.numbers.specs.Text.{byte, is_space, leading, leading_spaces, trimmed, index_of, before, uncommented}
use Rattle.numbers.specs.Code.Spans.{spanned, trim_span}
use Rattle.numbers.proofs.Places.{index_within}
use Rattle.numbers.proofs.Trims.{trim_span-text}
use Rattle.layout.specs.declared.state.Section.{Section}
use Rattle.layout.specs.declared.scan.Cut.{Cut}
use Rattle.layout.specs.declared.line.Labelled.{Labelled}
use Rattle.layout.specs.Bytes.{count_before}
use Rattle.layout.specs.Pieces.{Piece, piece, trim_piece, from_byte, holds, statement_of}
use Rattle.layout.specs.Code.Spans.{span_of, piece_at}
use Rattle.layout.specs.Code.Cuts.{is_stop, is_mark, is_cut, cut_line, LineCut, NoSignBefore, is_bare, label_by, rest_by, Parted}
use Rattle.layout.proofs.SpanLaws.{count_from, count_on, count_take, count_either, count_within, index_count, trim_from_back, statement_back}

cond_same : {A : Type 0} (b : Bool) (x : A) → cond b x x ≡ x
cond_same true x = refl
cond_same false x = refl

-- ---- tests joined

-- is the first byte that meets one of two tests among the first n?
either_below : (f g : ℕ → Bool) (n : ℕ) (s : List ℕ) → ltb (count_before f s) n || ltb (count_before g s) n ≡ ltb (count_before (λ x. f x || g x) s) n
either_below f g n s = rw (count_either f g s) (go (ltb (count_before f s) n) (ltb (count_before g s) n) refl refl)
  where
    a : ℕ
    a = count_before f s

    b : ℕ
    b = count_before g s

    go : (p q : Bool) → ltb a n ≡ p → ltb b n ≡ q → p || q ≡ ltb (min a b) n
    go true q e k = sym (lt-ltb (min a b) n (omega (arith, ltb-true a n e)))
    go false true e k = sym (lt-ltb (min a b) n (omega (arith, ltb-true b n k)))
    go false false e k = sym (le-ltb (min a b) n (omega (arith, ltb-false a n e, ltb-false b n k)))

-- is the first of the five bytes?
pub cut_below : (n : ℕ) (s : List ℕ)
    → ((ltb (index_of 10 s) n || ltb (index_of (byte ";") s) n) || ltb (index_of (byte "#") s) n) || (ltb (index_of (byte ":") s) n || ltb (index_of (byte "=") s) n)
    ≡ ltb (count_before is_cut s) n
cut_below n s =
    rw (
      index_count 10 s,
      index_count (byte ";") s,
      index_count (byte "#") s,
      index_count (byte ":") s,
      index_count (byte "=") s,
      either_below (λ x. eqb x 10) (λ x. eqb x (byte ";")) n s,
      either_below (λ x. eqb x 10 || eqb x (byte ";")) (λ x. eqb x (byte "#")) n s,
      either_below (λ x. eqb x (byte ":")) (λ x. eqb x (byte "=")) n s,
    )
    (either_below is_stop is_mark n s)

-- cut at the first that meets a test, then at the first that meets another: cut at the first that meets one of them
until_until : (f g : ℕ → Bool) (s : List ℕ)
    → take (count_before g (take (count_before f s) s)) (take (count_before f s) s) ≡ take (count_before (λ x. f x || g x) s) s
until_until f g s =
    rw (count_take g (count_before f s) s, count_either f g s) (take-take (min (count_before f s) (count_before g s)) (count_before f s) s (omega arith))

-- ---- statements

before_until : (s : List ℕ) (b : ℕ) → before b s ≡ take (count_before (λ x. eqb x b) s) s
unfolding before
before_until s b = ap (λ (n : ℕ). take n s) (index_count b s)

-- a line without its comment: what stands before the first LF, `;` or `#`
until_stop : (s : List ℕ) → uncommented (take (index_of 10 s) s) ≡ take (count_before is_stop s) s
unfolding uncommented
until_stop s =
    rw (
      index_count 10 s,
      before_until (take (count_before (λ x. eqb x 10) s) s) (byte ";"),
      until_until (λ x. eqb x 10) (λ x. eqb x (byte ";")) s,
      before_until (take (count_before (λ x. eqb x 10 || eqb x (byte ";")) s) s) (byte "#"),
    )
    (until_until (λ x. eqb x 10 || eqb x (byte ";")) (λ x. eqb x (byte "#")) s)

-- the line ends no earlier than its statement
stop-first : (s : List ℕ) → count_before is_stop s ≤ index_of 10 s
stop-first s =
    omega (
      arith,
      index_count 10 s,
      count_either (λ x. eqb x 10 || eqb x (byte ";")) (λ x. eqb x (byte "#")) s,
      count_either (λ x. eqb x 10) (λ x. eqb x (byte ";")) s,
    )

-- the first of the five bytes is the statement's first mark, or its end
cut_mark : (s : List ℕ) → count_before is_cut s ≡ count_before is_mark (take (count_before is_stop s) s)
cut_mark s = count_either is_stop is_mark s ∙ sym (count_take is_mark (count_before is_stop s) s)

-- ---- marks

-- white space is no mark
space_unmarked : (x : ℕ) → is_space x ≡ true → is_mark x ≡ false
space_unmarked x e = go (eqb x (byte ":")) (eqb x (byte "=")) refl refl
  where
    go : (p q : Bool) → eqb x (byte ":") ≡ p → eqb x (byte "=") ≡ q → p || q ≡ false
    go true q f g = absurd (true≢false (sym e ∙ rw (eqb-true x (byte ":") f) refl))
    go false true f g = absurd (true≢false (sym e ∙ rw (eqb-true x (byte "=") g) refl))
    go false false f g = refl

-- so that a text's white space stands before its first mark
spaces_unmarked : (s : List ℕ) → leading_spaces s ≤ count_before is_mark s
unfolding leading count_before
spaces_unmarked [] = omega arith
spaces_unmarked (x ∷ xs) = go (is_space x) refl (spaces_unmarked xs)
  where
    go : (t : Bool) → is_space x ≡ t → leading_spaces xs ≤ count_before is_mark xs
        → cond t (suc (leading_spaces xs)) 0 ≤ cond (is_mark x) 0 (suc (count_before is_mark xs))
    go true e ih = rw (space_unmarked x e) (omega arith)
    go false e ih = omega arith

-- of a trimmed text
mark_trimmed : (s : List ℕ) → count_before is_mark (trimmed s) ≡ min (count_before is_mark s - leading_spaces s) (length (trimmed s))
unfolding spanned trim_span
mark_trimmed s =
    ap (count_before is_mark) (sym (trim_span-text s))
    ∙ count_take is_mark (length (trimmed s)) (drop (leading_spaces s) s)
    ∙ omega (arith, count_from is_mark (leading_spaces s) s (spaces_unmarked s))

-- ---- a line

-- the first of the five bytes from a place on, then the first that ends the statement
module _ (t : List ℕ) (at mark stop : ℕ) (h : at ≤ length t)
    (m : mark ≡ at + count_before is_cut (drop at t)) (s : stop ≡ mark + count_before is_stop (drop mark t)) where
  stop_is : count_before is_stop (drop at t) ≡ stop - at
  stop_is = omega (arith, count_on is_stop t at mark (omega arith) (omega (arith, count_either is_stop is_mark (drop at t))))

  pub stop-within : stop ≤ length t
  stop-within = omega (arith, stop_is, count_within is_stop (drop at t), length-drop at t)

  mark_is : mark ≡ at + count_before is_mark (take (stop - at) (drop at t))
  mark_is = m ∙ ap (λ (n : ℕ). at + n) (rw stop_is at (cut_mark (drop at t)))

  -- where the statement stands in what is before that
  module _ (inner : Span) (i : inner ≡ trim_span (take (stop - at) (drop at t))) where
    pub start-within : at + inner.start ≤ mark
    unfolding trim_span
    start-within = rw i (omega (arith, mark_is, spaces_unmarked (take (stop - at) (drop at t))))

    -- and the line's end
    module _ (end : ℕ) (e : end ≡ stop + index_of 10 (drop stop t)) where
      end_is : end ≡ at + index_of 10 (drop at t)
      end_is =
          let after = stop-first (drop at t) in
          omega (
            arith,
            stop_is,
            index_count 10 (drop stop t),
            index_count 10 (drop at t),
            count_on (λ x. eqb x 10) t at stop (omega arith) (omega (arith, stop_is, index_count 10 (drop at t))),
          )

      uncommented-is : uncommented (take (end - at) (drop at t)) ≡ take (stop - at) (drop at t)
      uncommented-is =
          let long : end - at ≡ index_of 10 (drop at t) = omega (arith, end_is) in
          rw long (until_stop (drop at t) ∙ ap (λ (n : ℕ). take n (drop at t)) stop_is)

      pub line_cut : (n : ℕ) → n ≡ min (mark - (at + inner.start)) inner.len
          → LineCut t (record { at = at; end = end; part = record { start = at + inner.start; len = inner.len }; mark = n })
      unfolding trim_span
      line_cut n k =
          let u = take (stop - at) (drop at t) in
          record {
            within = h;
            ends = end_is;
            statement = rw (i, uncommented-is) refl;
            marked = rw uncommented-is (k ∙ rw i (omega (arith, mark_is, mark_trimmed u, spaces_unmarked u)));
          }

-- a line that was cut: it lies within the text, its statement is read back by its part, and its mark is that statement's
module _ (t : List ℕ) (c : Cut) (w : LineCut t c) where
  pub cut_order : c.at ≤ c.end
  cut_order = omega (arith, w.ends)

  pub cut_end : c.end ≤ length t
  cut_end = omega (arith, w.ends, w.within, index_within 10 (drop c.at t), length-drop c.at t)

  pub cut_statement : piece_at t c.part ≡ statement_of (cut_line t c)
  cut_statement = ap (piece_at t) w.statement ∙ ap (piece (statement_of (cut_line t c)).at) (statement_back t c.at c.end)

  pub cut_marked : c.mark ≡ count_before is_mark (spanned t c.part)
  cut_marked = w.marked ∙ ap (λ (p : Piece). count_before is_mark p.bytes) (sym cut_statement)

  pub cut_long : c.end ≡ c.at + length (cut_line t c).bytes
  cut_long =
      let size : length (take (c.end - c.at) (drop c.at t)) ≡ c.end - c.at =
      length-take-le (c.end - c.at) (drop c.at t) (omega (arith, cut_end, length-drop c.at t)) in
      omega (arith, size, w.ends)

-- ---- a statement in its parts

-- no mark before the colon, none before the sign
module _ (s : List ℕ) (n : ℕ) (e : n ≡ count_before is_mark s) where
  marks_first : n ≤ index_of (byte ":") s × n ≤ index_of (byte "=") s
  marks_first =
      let both = count_either (λ x. eqb x (byte ":")) (λ x. eqb x (byte "=")) s in
      (omega (arith, index_count (byte ":") s), omega (arith, index_count (byte "=") s))

  pub mark_colon : n ≤ index_of (byte ":") s
  mark_colon = marks_first.0

  pub marked_sign : NoSignBefore n s
  marked_sign = marks_first.1

-- parted at the first colon, which stands at n: there is none, it ends no label, or what stands before it is one
module _ (t : List ℕ) (s : Section) (q : Span) (n : ℕ) (e : n ≡ index_of (byte ":") (spanned t q)) where
  abbrev there : Piece
  there = piece_at t q

  bare_parts : (m : ℕ) → m ≡ count_before is_mark (spanned t q) → label_by s there ≡ None → rest_by s there ≡ there
      → Parted t s there (record { label = None; rest = q; from = m })
  bare_parts m k label rest = record { label = rw label refl; rest = sym rest; from = rw rest (marked_sign (spanned t q) m k) }

  pub unlabelled_parts : (m : ℕ) → m ≡ count_before is_mark (spanned t q) → length (spanned t q) ≤ n
      → Parted t s there (record { label = None; rest = q; from = m })
  unlabelled_parts m k h =
      let no : holds (byte ":") there ≡ false = rw (← e) (le-ltb _ _ h) in
      bare_parts m k (rw no (cond_same (is_bare s (spanned t q)) None)) (rw no (cond_same (is_bare s (spanned t q)) there))

  pub string_parts : (m : ℕ) → m ≡ count_before is_mark (spanned t q) → is_bare s (spanned t q) ≡ true
      → Parted t s there (record { label = None; rest = q; from = m })
  string_parts m k b = bare_parts m k (rw b refl) (rw b refl)

  pub labelled_parts : (name rest : Span) → n < length (spanned t q) → is_bare s (spanned t q) ≡ false
      → name ≡ span_of (trim_piece (piece q.start (take n (spanned t q)))) → rest ≡ span_of (trim_piece (from_byte (n + 1) there))
      → Parted t s there (record { label = Some name; rest = rest; from = 0 })
  unfolding before
  labelled_parts name rest h b f g =
      let found : holds (byte ":") there ≡ true = rw (← e) (lt-ltb _ _ h) in
      record {
        label = rw (b, found, ← e) (ap Some f);
        rest = rw (b, found, ← e, ← add-one n, g) (ap (piece _) (trim_from_back t q (n + 1) (omega arith)));
        from = omega arith;
      }

pub parted_from : (t : List ℕ) (s : Section) (p : Piece) (r : Labelled) → Parted t s p r → NoSignBefore r.from (spanned t r.rest)
parted_from t s p r d = rw (ap (λ (x : Piece). x.bytes) d.rest) d.from
