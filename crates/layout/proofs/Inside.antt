-- Lines and their parts lie within the text: where a piece says it starts, the text has its bytes.
use Prim.Native.Nat.{ℕ, suc, ◌+◌, ◌-◌, ◌≤◌}
use mathlib.Core.Path.{◌≡◌, refl, sym, ◌∙◌, ap, transport}
use mathlib.Core.List.{List, [], ◌∷◌, ◌++◌, append_assoc}
use mathlib.Core.Bool.{Bool, true, false, cond}
use native.Mathlib.Omega.{arith}
use native.Mathlib.Numerals.{add-one}
use lib.Dec.{eqb}
use lib.ListN.{length, take, drop, length-append, length-drop}
use lib.Seq.{length-take-le, drop-drop, drop-append-add, drop-append_seam}
use borrow.Author.Tests.{ltb-true}
use Rattle.numbers.specs.declared.text.Span.{Span}
use Rattle.numbers.specs.Text.{leading_spaces, trimmed, index_of, before, uncommented}
use Rattle.numbers.specs.Operands.{cons_first}
use Rattle.numbers.specs.Code.Spans.{trim_span, spanned}
use Rattle.numbers.proofs.Trims.{trim_span-text, trim_span-within, span_front, tail}
use Rattle.numbers.proofs.Places.{index_within}
use Rattle.layout.specs.Pieces.{Piece, piece, trim_piece, from_byte, holds, piece_before, piece_after, statement_of, lines, line_pieces}
use Rattle.layout.specs.Code.Fits.{Each, Inside}

-- n bytes of a piece, from its ath on, are a piece of the text
pub part_inside : (t : List ℕ) (p : Piece) (a n : ℕ) → Inside t p → a + n ≤ length p.bytes
    → Inside t (piece (p.at + a) (take n (drop a p.bytes)))
unfolding spanned
part_inside t p a n g h =
    let s = p.bytes in
    let x = drop p.at t in
    let e : length (take n (drop a s)) ≡ n = length-take-le n (drop a s) (rw (length-drop a s) (omega arith)) in
    let long : a + n ≤ length (take (length s) x) = rw g.is h in
    let q : Span = record { start = a; len = n } in
    let front : take n (drop a x) ≡ take n (drop a (take (length s) x)) = span_front (length s) x q long in
    record {
      within = rw e (omega (arith, g.within));
      is = rw (e, ← drop-drop a p.at t) (front ∙ ap (λ (l : List ℕ). take n (drop a l)) g.is);
    }

-- without the white space at its ends
pub trim_inside : (t : List ℕ) (p : Piece) → Inside t p → Inside t (trim_piece p)
unfolding spanned trim_span
trim_inside t p g =
    rw (← trim_span-text p.bytes) (part_inside t p (leading_spaces p.bytes) (length (trimmed p.bytes)) g (trim_span-within p.bytes))

-- from its nth byte on
pub from_inside : (t : List ℕ) (p : Piece) (n : ℕ) → n ≤ length p.bytes → Inside t p → Inside t (from_byte n p)
from_inside t p n h g = rw (← tail p.bytes n) (part_inside t p n (length p.bytes - n) g (omega (arith, h)))

-- its first n bytes
pub first_inside : (t : List ℕ) (p : Piece) (n : ℕ) → n ≤ length p.bytes → Inside t p → Inside t (piece p.at (take n p.bytes))
first_inside t p n h g = let e : p.at + 0 ≡ p.at = omega arith in rw (← e) (part_inside t p 0 n g (omega (arith, h)))

-- before the first b, and after it
pub before_inside : (t : List ℕ) (p : Piece) (b : ℕ) → Inside t p → Inside t (piece_before b p)
unfolding before
before_inside t p b = first_inside t p (index_of b p.bytes) (index_within b p.bytes)

pub after_inside : (t : List ℕ) (p : Piece) (b : ℕ) → holds b p ≡ true → Inside t p → Inside t (piece_after b p)
after_inside t p b h = from_inside t p (suc (index_of b p.bytes)) (ltb-true _ _ h)

-- a line's statement
pub statement_inside : (t : List ℕ) (l : Piece) → Inside t l → Inside t (statement_of l)
unfolding uncommented
statement_inside t l g = trim_inside t _ (before_inside t _ _ (before_inside t l _ g))

module _ (u : List ℕ) (b : ℕ) (bs : List ℕ) where
  -- a piece of what comes after u
  front_inside : (s : List ℕ) → length s ≤ length bs + 1 → take (length s) (b ∷ bs) ≡ s → Inside (u ++ (b ∷ bs)) (piece (length u) s)
  front_inside s h e = record { within = rw (length-append u (b ∷ bs)) (omega (arith, h)); is = rw (drop-append_seam u (b ∷ bs)) e }

  after-byte : drop (suc (length u)) (u ++ (b ∷ bs)) ≡ bs
  after-byte = rw (← add-one (length u)) (drop-append-add u (b ∷ bs) 1)

  -- a piece right after b, with b before it
  cons_inside : (l : List ℕ) → Inside (u ++ (b ∷ bs)) (piece (suc (length u)) l) → Inside (u ++ (b ∷ bs)) (piece (length u) (b ∷ l))
  cons_inside l g =
      let w : suc (length u) + length l ≤ length u + suc (length bs) = rw (← length-append u (b ∷ bs)) g.within in
      front_inside (b ∷ l) (omega (arith, w)) (ap (λ (r : List ℕ). b ∷ r) (ap (take (length l)) (sym after-byte) ∙ g.is))

-- the same places, the same pieces
same_place : (t : List ℕ) (ls : List (List ℕ)) (m n : ℕ) → m ≡ n → Each (Inside t) (line_pieces m ls) → Each (Inside t) (line_pieces n ls)
same_place t ls m n e = transport (ap (λ (k : ℕ). Each (Inside t) (line_pieces k ls)) e)

-- the lines of s, where u stands before it
lines_after : (u s : List ℕ) → Each (Inside (u ++ s)) (line_pieces (length u) (lines s))
unfolding lines line_pieces
lines_after u [] = tt
lines_after u (b ∷ bs) = go (eqb b 10) (lines bs) (later (lines_after (u ++ (b ∷ [])) bs))
  where
    t : List ℕ
    t = u ++ (b ∷ bs)

    later : Each (Inside ((u ++ (b ∷ [])) ++ bs)) (line_pieces (length (u ++ (b ∷ []))) (lines bs))
        → Each (Inside t) (line_pieces (suc (length u)) (lines bs))
    later h =
        let more : length (u ++ (b ∷ [])) ≡ suc (length u) = length-append u (b ∷ []) ∙ add-one (length u) in
        let whole : List ℕ → Type 0 = λ v. Each (Inside v) (line_pieces (length (u ++ (b ∷ []))) (lines bs)) in
        same_place t (lines bs) _ _ more (transport (ap whole (append_assoc u (b ∷ []) bs)) h)

    go : (c : Bool) (ls : List (List ℕ)) → Each (Inside t) (line_pieces (suc (length u)) ls)
        → Each (Inside t) (line_pieces (length u) (cond c ([] ∷ ls) (cons_first b ls)))
    go true ls h = (front_inside u b bs [] (omega arith) refl, same_place t ls _ _ (omega arith) h)
    go false [] h = (front_inside u b bs (b ∷ []) (omega arith) refl, tt)
    go false (l ∷ ls) h = (cons_inside u b bs l h.0, same_place t ls _ _ (omega arith) h.1)

-- every line of the text is a piece of it
pub lines_inside : (t : List ℕ) → Each (Inside t) (line_pieces 0 (lines t))
lines_inside t = lines_after [] t
