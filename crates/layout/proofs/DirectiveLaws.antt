-- The table of directives, in the code's columns, against the definition's rows: for any table.
use Prim.Native.Nat.{ℕ, zero, suc, ◌+◌, ◌≤◌, ◌<◌}
use native.Mathlib.Omega.{arith}
use mathlib.Core.Path.{◌≡◌, refl, sym, ap, subst, ◌∙◌}
use mathlib.Core.List.{List, [], ◌∷◌, map}
use mathlib.Core.Bool.{Bool, true, false, cond, not, ◌&&◌, false≢true}
use Rattle.std.proofs.Common.{Option, None, Some}
use lib.Dec.{eqb, ltb, leb}
use lib.ListN.{length, take, drop, get_or}
use mir.Syntax.{w64}
use mir.Val.{Fits}
use borrow.Author.Tests.{eqb-true, ltb-true, leb-true}
use Rattle.numbers.specs.Text.{text, starts_with}
use Rattle.numbers.specs.Code.Tables.{is_word, row_name, all, first, found_row}
use Rattle.numbers.proofs.Bools.{and_left, and_right}
use Rattle.numbers.proofs.Prefixes.{prefix_length, longer_prefix}
use Rattle.numbers.proofs.Rows.{made_name, made_room, made_read, first_meets, row_missed, row_found}
use Rattle.layout.specs.declared.directives.Width.TheVariants.{Byte, Half, Word, Dword}
use Rattle.layout.specs.declared.directives.Reserve.TheVariants.{Space, Align}
use Rattle.layout.specs.declared.directives.Store.TheVariants.{Numbers, Text, Float}
use Rattle.layout.specs.declared.directives.Directive.{Directive}
use Rattle.layout.specs.declared.directives.Directive.TheVariants.{Symbol, Ignored, Equate, Reserves, Stores}
use Rattle.layout.specs.declared.directives.Spelling.{Spelling}
use Rattle.layout.specs.Directives.{Row, directives, row_in}
use Rattle.layout.specs.Code.Rows.{directive_number, directive_row, row_code, DirectiveFits, SpelledWithin}

-- ---- numbers

-- the last arm of a match on a number from m on: it is none of the k first
abbrev pub Others : ℕ → ℕ → ℕ → Type 0
Others m zero n = Unit
Others m (suc k) n = Others m k n × (n ≡ m + k → ⊥)

pub others_above : (m k n : ℕ) → m ≤ n → Others m k n → m + k ≤ n
others_above m zero n h o = omega arith
others_above m (suc k) n h o = let g = others_above m k n h o.0 in omega (arith, o.1)

-- a directive's number tells it
abbrev from_number : ℕ → Directive
from_number n =
    get_or (Symbol ∷ Ignored ∷ Equate ∷ Reserves Align ∷ Reserves Space ∷ Stores (Numbers Byte) ∷ Stores (Numbers Half) ∷ Stores (Numbers Word)
    ∷ Stores (Numbers Dword) ∷ Stores Float ∷ Stores (Text 1) ∷ []) n (Stores (Text 0))

number_back : (d : Directive) → directive_number d ≤ 11 → from_number (directive_number d) ≡ d
number_back Symbol h = refl
number_back Ignored h = refl
number_back Equate h = refl
number_back (Reserves Align) h = refl
number_back (Reserves Space) h = refl
number_back (Stores (Numbers Byte)) h = refl
number_back (Stores (Numbers Half)) h = refl
number_back (Stores (Numbers Word)) h = refl
number_back (Stores (Numbers Dword)) h = refl
number_back (Stores Float) h = refl
number_back (Stores (Text zero)) h = refl
number_back (Stores (Text (suc zero))) h = refl
number_back (Stores (Text (suc (suc z)))) h = absurd (omega arith)

number_tells : (a b : Directive) → directive_number a ≡ directive_number b → directive_number a ≤ 11 → a ≡ b
number_tells a b e h = sym (number_back a h) ∙ ap from_number e ∙ number_back b (rw e at h)

-- a string adds one byte 0 at most
number_fits : (d : Directive) → directive_number d ≤ 11 → DirectiveFits d
number_fits Symbol h = tt
number_fits Ignored h = tt
number_fits Equate h = tt
number_fits (Reserves x) h = tt
number_fits (Stores (Numbers w)) h = tt
number_fits (Stores Float) h = tt
number_fits (Stores (Text zero)) h = omega arith
number_fits (Stores (Text (suc zero))) h = omega arith
number_fits (Stores (Text (suc (suc z)))) h = absurd (omega arith)

-- ---- rows

-- a name is a word of at most 12 bytes, and the number one that `Directive::numbered` knows
abbrev is_small : Row → Bool
is_small r = is_word r.name && (ltb (length r.name) 13 && leb (directive_number r.directive) 11)

abbrev DirectivesSmall : List Row → Type 0
DirectivesSmall rs = all is_small rs ≡ true

pub directives_small : DirectivesSmall directives
unfolding directives all is_word
directives_small = refl

module _ (r : Row) (small : is_small r ≡ true) where
  small_word : is_word r.name ≡ true
  small_word = and_left (is_word r.name) (ltb (length r.name) 13 && leb (directive_number r.directive) 11) small

  small_rest : ltb (length r.name) 13 && leb (directive_number r.directive) 11 ≡ true
  small_rest = and_right (is_word r.name) (ltb (length r.name) 13 && leb (directive_number r.directive) 11) small

  small_length : length r.name < 13
  small_length = ltb-true (length r.name) 13 (and_left (ltb (length r.name) 13) (leb (directive_number r.directive) 11) small_rest)

  small_number : directive_number r.directive ≤ 11
  small_number = leb-true (directive_number r.directive) 11 (and_right (ltb (length r.name) 13) (leb (directive_number r.directive) 11) small_rest)

-- a statement begins with a row's name
abbrev begins : List ℕ → Row → Bool
begins s r = starts_with r.name s

row_first : (rs : List Row) (s : List ℕ) → row_in rs s ≡ first (begins s) rs
unfolding row_in first
row_first [] s = refl
row_first (r ∷ rs) s = ap (cond (starts_with r.name s) (Some r)) (row_first rs s)

row_begins : (s : List ℕ) (r : Row) → is_small r ≡ true → starts_with (row_name (directive_row r)) s ≡ begins s r
row_begins s r small =
    ap (λ (n : List ℕ). starts_with n s)
    (made_name r.name (length r.name ∷ directive_number r.directive ∷ cond r.in_data 1 0 ∷ []) (omega (arith, small_length r small)) (small_word r small))

flag_back : (b : Bool) → not (eqb (cond b 1 0) 0) ≡ b
flag_back true = refl
flag_back false = refl

-- a spelling that is found stands at the statement's start
pub row_within : (rs : List Row) (s : List ℕ) → DirectivesSmall rs → SpelledWithin (row_code (row_in rs s)) (length s)
row_within rs s small = go (row_in rs s) (row_first rs s)
  where
    go : (o : Option Row) → o ≡ first (begins s) rs → SpelledWithin (row_code o) (length s)
    go None e = tt
    go (Some r) e =
        let m = first_meets is_small (begins s) rs small r (sym e) in
        (prefix_length r.name s m.1, number_fits r.directive (small_number r m.0))

-- the row that the code finds: none, or one whose columns say what it is
module _ (rs : List Row) (t s : List ℕ) (small : DirectivesSmall rs) (r : Option ℕ) (is : found_row t r ≡ first (λ x. starts_with (row_name x) s) (map directive_row rs)) where
  -- what the statement's row is, is within the statement
  within : (r : Option Spelling) → r ≡ row_code (row_in rs s) → (r ≡ row_code (row_in rs s)) × SpelledWithin r (length s)
  within r e = (e, subst (λ (x : Option Spelling). SpelledWithin x (length s)) (sym e) (row_within rs s small))

  pub row_past : r ≡ None → (None ≡ row_code (row_in rs s)) × SpelledWithin None (length s)
  row_past e =
      within None
      (sym (ap row_code (row_first rs s ∙ row_missed directive_row (λ x. starts_with (row_name x) s) is_small (begins s) (row_begins s) rs small t r is e)))

  module _ (at : ℕ) (e : r ≡ Some at) where
    there : (x : Row) × (first (begins s) rs ≡ Some x) × (directive_row x ≡ take 16 (drop at t))
    there = row_found directive_row (λ x. starts_with (row_name x) s) is_small (begins s) (row_begins s) rs small t r is at e

    abbrev found : Row
    found = there.0

    abbrev columns : List ℕ
    columns = length found.name ∷ directive_number found.directive ∷ cond found.in_data 1 0 ∷ []

    good : is_small found ≡ true
    good = (first_meets is_small (begins s) rs small found there.1).0

    fits : length found.name + length columns ≤ 16
    fits = omega (arith, small_length found good)

    pub row_room : at + 16 ≤ length t
    row_room = made_room t found.name columns at fits (sym there.2)

    column : (i : ℕ) → i < 3 → get_or t (at + (13 + i)) 0 ≡ get_or columns i 0
    column i h = made_read t found.name columns at fits (sym there.2) i h

    number_is : get_or t (at + 14) 0 ≡ directive_number found.directive
    number_is = column 1 (omega arith)

    pub directive_few : get_or t (at + 14) 0 ≤ 11
    directive_few = rw number_is (small_number found good)

    module _ (d : Directive) (says : directive_number d ≡ get_or t (at + 14) 0) where
      abbrev answer : Spelling
      answer = record { directive = d; len = get_or t (at + 13) 0; in_data = not (eqb (get_or t (at + 15) 0) 0) }

      directive_back : d ≡ found.directive
      directive_back = number_tells d found.directive (says ∙ number_is) (omega (arith, says, directive_few))

      length_back : get_or t (at + 13) 0 ≡ length found.name
      length_back = column 0 (omega arith)

      data_back : not (eqb (get_or t (at + 15) 0) 0) ≡ found.in_data
      data_back = ap (λ (k : ℕ). not (eqb k 0)) (column 2 (omega arith)) ∙ flag_back found.in_data

      pub row_here : (Some answer ≡ row_code (row_in rs s)) × SpelledWithin (Some answer) (length s)
      row_here =
          let row : row_in rs s ≡ Some found = row_first rs s ∙ there.1 in
          let same : row_code (Some found) ≡ Some answer = rw (directive_back, length_back, data_back) refl in
          within (Some answer) (sym (ap row_code row ∙ same))

      -- the length of the row's name
      pub length_fits : Fits w64 (length s) → Fits w64 (get_or t (at + 13) 0)
      length_fits f = record { fits = omega (arith, row_here.1.0, f.fits) }

-- ---- statements without a dot

-- does every name begin with a dot?
unfoldable pub all_dotted : List Row → Bool
all_dotted [] = true
all_dotted (r ∷ rs) = starts_with (text ".") r.name && all_dotted rs

dotted_other : (n s : List ℕ) → starts_with (text ".") n ≡ true → starts_with (text ".") s ≡ false → starts_with n s ≡ false
unfolding starts_with
dotted_other [] s e h = absurd (false≢true e)
dotted_other (y ∷ n) s e h = rw (eqb-true y 46 (and_left (eqb y 46) true e)) (longer_prefix 46 n s h)

-- a text that begins with no dot begins with none of such names
dotless : (rs : List Row) (s : List ℕ) → all_dotted rs ≡ true → starts_with (text ".") s ≡ false → row_in rs s ≡ None
unfolding all_dotted row_in
dotless [] s e h = refl
dotless (r ∷ rs) s e h =
    rw (row_in, dotted_other r.name s (and_left (starts_with (text ".") r.name) (all_dotted rs) e) h)
    (dotless rs s (and_right (starts_with (text ".") r.name) (all_dotted rs) e) h)

directives_dotted : all_dotted directives ≡ true
unfolding all_dotted starts_with directives
directives_dotted = refl

pub no_row : (s : List ℕ) → starts_with (text ".") s ≡ false → row_in directives s ≡ None
no_row s h = dotless directives s directives_dotted h
