-- What a statement says: names without their dot, a piece parted at a byte, and the row of a directive.
use Prim.Native.Nat.{ℕ, ◌+◌, ◌≤◌, ◌<◌}
use mathlib.Core.Path.{◌≡◌, refl, sym, subst, ◌∙◌}
use mathlib.Core.List.{List, [], ◌∷◌}
use mathlib.Core.Bool.{Bool, true, false, cond, not, ◌&&◌, ◌||◌, and-true, true≢false}
use Rattle.std.proofs.Common.{Option, None, Some}
use native.Mathlib.Omega.{arith}
use native.Mathlib.Numerals.{add-one}
use lib.Dec.{eqb}
use lib.ListN.{length, take, drop}
use borrow.Author.Tests.{ne_eqb, lt-ltb, le-ltb}
use Rattle.numbers.specs.Text.{text, byte, is_space, starts_with, same, index_of, before}
use Rattle.numbers.proofs.Prefixes.{same_equal, longer_prefix}
use Rattle.layout.specs.declared.state.Section.{Section}
use Rattle.layout.specs.declared.directives.Spelling.{Spelling}
use Rattle.layout.specs.Bytes.{count_before}
use Rattle.layout.specs.Pieces.{Piece, piece, trim_piece, from_byte, is_empty}
use Rattle.layout.specs.Directives.{Row, directives, row_in}
use Rattle.layout.specs.Statements.{as_written, with_one_space, without_dot, is_section_line, equate_of, equ_of, other_in, assignment_of, directive_in, on_row, unlabelled_of}
use Rattle.layout.specs.Code.Rows.{row_code}

-- a name with a dot is what follows it, and one without it is itself
pub dotted : (n : List ℕ) → starts_with (text ".") n ≡ true → without_dot n ≡ drop 1 n
unfolding starts_with
dotted [] e = refl
dotted (x ∷ xs) e = rw (sym (and-true (eqb x (byte "."))) ∙ e) refl

pub undotted : (n : List ℕ) → starts_with (text ".") n ≡ false → without_dot n ≡ n
unfolding starts_with
undotted [] e = refl
undotted (x ∷ xs) e = rw (sym (and-true (eqb x (byte "."))) ∙ e) refl

-- it is the same as no text with one
undotted_other : (n s : List ℕ) → starts_with (text ".") n ≡ true → starts_with (text ".") s ≡ false → same n s ≡ false
undotted_other n s d h = go (same n s) refl
  where
    go : (t : Bool) → same n s ≡ t → t ≡ false
    go true e = absurd (true≢false (sym d ∙ rw (same_equal n s e) h))
    go false e = refl

-- nor is it a section line
pub undotted_line : (s : List ℕ) → starts_with (text ".") s ≡ false → is_section_line s ≡ false
unfolding starts_with
undotted_line s h =
    rw (
      undotted_other (text ".text") s refl h,
      undotted_other (text ".data") s refl h,
      undotted_other (text ".bss") s refl h,
      longer_prefix (byte ".") (text "section") s h,
    )
    refl

-- not one of two is neither
not_either : (a b : Bool) → not (a || b) ≡ not a && not b
not_either true b = refl
not_either false b = refl

-- what the code finds in the table is the definition's row
none_coded : (o : Option Row) → row_code o ≡ None → o ≡ None
none_coded None e = refl
none_coded (Some r) e = let z : ◌≡◌ {A = ℕ} 0 1 = cc in absurd (omega arith)

row_coded : (o : Option Row) (x : Spelling) (s : Section) (p : Piece) → row_code o ≡ Some x
    → on_row o s p ≡ directive_in s x.directive x.in_data p (from_byte x.len p)
row_coded None x s p e = let z : ◌≡◌ {A = ℕ} 0 1 = cc in absurd (omega arith)
row_coded (Some r) x s p e =
    let is : record { directive = r.directive; len = length r.name; in_data = r.in_data } ≡ x = cc in
    subst (λ (y : Spelling). on_row (Some r) s p ≡ directive_in s y.directive y.in_data p (from_byte y.len p)) is refl

-- a piece parted at the first byte of a kind, which stands at n
module _ (p : Piece) (n : ℕ) where
  abbrev left_of : Piece
  left_of = trim_piece (piece p.at (take n p.bytes))

  abbrev right_of : Piece
  right_of = trim_piece (from_byte (n + 1) p)

  -- an `.equ` with a comma, and one without
  pub equ_comma : n ≡ index_of (byte ",") p.bytes → n < length p.bytes → equ_of p ≡ equate_of left_of (as_written right_of)
  unfolding equ_of before
  equ_comma e h = rw (← e, lt-ltb _ _ h, add-one n) refl

  pub equ_blank : (m : ℕ) → n ≡ index_of (byte ",") p.bytes → length p.bytes ≤ n → m ≡ count_before is_space p.bytes
      → equ_of p ≡ equate_of (piece p.at (take m p.bytes)) (with_one_space (trim_piece (from_byte m p)))
  unfolding equ_of
  equ_blank m e h k = rw (← e, le-ltb _ _ h, ← k) refl

module _ (s : Section) (p : Piece) where
  -- a statement that is not empty: by its directive's row
  module _ (some_bytes : length p.bytes ≡ 0 → ⊥) where
    by_row : unlabelled_of s p ≡ on_row (row_in directives p.bytes) s p
    unfolding unlabelled_of
    by_row = rw (ne_eqb _ _ some_bytes) refl

    -- what the code finds no row for is no directive
    pub rowless_other : None ≡ row_code (row_in directives p.bytes) → unlabelled_of s p ≡ assignment_of s p
    rowless_other e = by_row ∙ rw (none_coded (row_in directives p.bytes) (sym e)) refl

    pub directive_said : (x : Spelling) → Some x ≡ row_code (row_in directives p.bytes)
        → unlabelled_of s p ≡ directive_in s x.directive x.in_data p (from_byte x.len p)
    directive_said x e = by_row ∙ row_coded (row_in directives p.bytes) x s p (sym e)

  -- what begins with a dot is no equate
  pub dot-other : starts_with (text ".") p.bytes ≡ true → assignment_of s p ≡ other_in s p
  unfolding assignment_of
  dot-other e = rw e refl

  -- parted at the byte that stands at n
  module _ (n : ℕ) where
    -- what may be `name = expr`: no sign, or nothing at a side of it, and it is no equate
    module _ (e : n ≡ index_of (byte "=") p.bytes) (d : starts_with (text ".") p.bytes ≡ false) where
      pub unsigned-other : length p.bytes ≤ n → assignment_of s p ≡ other_in s p
      unfolding assignment_of
      unsigned-other h = rw (← e, d, le-ltb _ _ h) refl

      sides : n < length p.bytes → assignment_of s p ≡ cond (not (is_empty (left_of p n) || is_empty (right_of p n))) (equate_of (left_of p n) (as_written (right_of p n))) (other_in s p)
      unfolding assignment_of before
      sides h = rw (← e, d, lt-ltb _ _ h, add-one n, ← not_either) refl

      pub bare_other : n < length p.bytes → is_empty (left_of p n) || is_empty (right_of p n) ≡ true → assignment_of s p ≡ other_in s p
      bare_other h k = sides h ∙ rw k refl

      pub signed-equate : n < length p.bytes → is_empty (left_of p n) || is_empty (right_of p n) ≡ false → assignment_of s p ≡ equate_of (left_of p n) (as_written (right_of p n))
      signed-equate h k = sides h ∙ rw k refl
