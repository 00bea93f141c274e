-- Pseudo-instructions: a line's item by its first word's row in the table of spellings, for any table; an li's words; an item by its kind.
use Rattle.std.proofs.Common.{Ok, Err}
use Prim.Native.Nat.{ℕ, suc, ◌+◌, ◌≤◌, ◌<◌}
use native.Mathlib.Omega.{arith}
use mathlib.Core.Path.{◌≡◌, refl, sym, ap, ◌∙◌}
use mathlib.Core.List.{List, [], ◌∷◌, map}
use mathlib.Core.Bool.{Bool, true, false, cond, not, ◌&&◌, ◌||◌, false≢true, and-false}
use Rattle.std.proofs.Common.{Option, None, Some}
use lib.Dec.{eqb, ltb, leb, leb-suc-suc}
use lib.ListN.{length, take, drop, get_or}
use borrow.Author.Tests.{eqb-true, eq-eqb, ne_eqb, eqb-false, not-true, lt-leb, ltb-true}
use Rattle.numbers.specs.declared.text.Span.{Span}
use Rattle.numbers.specs.Text.{text, starts_with, same, index_of, before, one_spaced}
use Rattle.numbers.specs.Code.Spans.{spanned}
use Rattle.numbers.specs.Code.Tables.{is_word, row_name, all, first, found_row}
use Rattle.numbers.specs.Numbers.{imm_of, spaced_imm_of}
use Rattle.numbers.specs.Operands.{item_operands}
use Rattle.numbers.specs.Code.Cursors.{item_operands_from, item_operand_at}
use Rattle.numbers.proofs.Bools.{and_left, and_right, or_left, or_right}
use Rattle.numbers.proofs.Prefixes.{same_equal}
use Rattle.numbers.proofs.Rows.{made_name, made_room, made_read, first_meets, row_missed, row_found}
use Rattle.numbers.proofs.Parts.{items_spaced, item-step, item_end, items_all}
use Rattle.layout.specs.declared.pseudo.Pseudo.{Pseudo}
use Rattle.layout.specs.declared.pseudo.Pseudo.TheVariants.{Li, La, Push, Pop, Print, PrintStr, Read, ReadByte, Random}
use Rattle.layout.specs.Pseudos.{Item, ordinary, pseudo, other, Spelling, spellings, item_in}
use Rattle.layout.specs.Pseudos.{pseudo_operands, is_single, li_words, reserved_words, pseudo_kind, item_kind}
use Rattle.layout.specs.Code.Kinds.{item_number, spelling_row, begins_as_pseudo, text_line_code}
use Rattle.layout.proofs.Each.{cond_has}

-- ---- one spelling

-- does a line end where its first word does?
abbrev pub ends_line : List ℕ → Bool
ends_line s = leb (length s) (length (before 32 s))

-- a name without a blank is followed by one, or is the whole line, where it is the first word and does not end the line, or may
spelled-word : (n s : List ℕ) (bare : Bool) → is_word n ≡ true
    → starts_with n s && (starts_with (text " ") (drop (length n) s) || (bare && same n s)) ≡ same n (before 32 s) && not (ends_line s && not bare)
unfolding is_word starts_with same index_of before
spelled-word [] [] bare h = go bare
  where
    go : (b : Bool) → b && true ≡ not (not b)
    go true = refl
    go false = refl
spelled-word [] (x ∷ s) bare h = go (eqb x 32)
  where
    go : (t : Bool) → (t && true) || (bare && false) ≡ same [] (take (cond t 0 (suc (index_of 32 s))) (x ∷ s)) && not (leb (suc (length s)) (length (take (cond t 0 (suc (index_of 32 s))) (x ∷ s))) && not bare)
    go true = rw (lt-leb (suc (length s)) 0 (omega arith)) refl
    go false = and-false bare
spelled-word (y ∷ n) [] bare h = refl
spelled-word (y ∷ n) (x ∷ s) bare h = go (eqb x y) refl (eqb x 32) refl (spelled-word n s bare (and_right (not (eqb y 32)) (is_word n) h))
  where
    go : (t : Bool) → eqb x y ≡ t → (u : Bool) → eqb x 32 ≡ u
        → starts_with n s && (starts_with (text " ") (drop (length n) s) || (bare && same n s)) ≡ same n (take (index_of 32 s) s) && not (leb (length s) (length (take (index_of 32 s) s)) && not bare)
        → (t && starts_with n s) && (starts_with (text " ") (drop (length n) s) || (bare && (eqb y x && same n s)))
        ≡ same (y ∷ n) (take (cond u 0 (suc (index_of 32 s))) (x ∷ s)) && not (leb (suc (length s)) (length (take (cond u 0 (suc (index_of 32 s))) (x ∷ s))) && not bare)
    go true e true f ih = absurd (false≢true (rw (sym (eqb-true x y e) ∙ eqb-true x 32 f) at (and_left (not (eqb y 32)) (is_word n) h)))
    go true e false f ih = rw (eq-eqb y x (sym (eqb-true x y e)), leb-suc-suc (length s) (length (take (index_of 32 s) s))) ih
    go false e true f ih = refl
    go false e false f ih = rw (ne_eqb y x (λ q. eqb-false x y e (sym q))) refl

-- ---- the table of spellings

-- every name a word of at most 13 bytes, and no two the same: what a table is tested for
abbrev is_short : Spelling → Bool
is_short x = is_word x.name && ltb (length x.name) 14

unfoldable pub is_name : List ℕ → List Spelling → Bool
is_name w [] = false
is_name w (x ∷ xs) = same x.name w || is_name w xs

unfoldable pub apart : List Spelling → Bool
apart [] = true
apart (x ∷ xs) = not (is_name x.name xs) && apart xs

abbrev Sound : List Spelling → Type 0
Sound xs = (all is_short xs ≡ true) × (apart xs ≡ true)

pub spellings_sound : Sound spellings
unfolding all apart is_name is_word same spellings
spellings_sound = (refl, refl)

module _ (x : Spelling) (short : is_short x ≡ true) where
  short_word : is_word x.name ≡ true
  short_word = and_left (is_word x.name) (ltb (length x.name) 14) short

  short_length : length x.name < 14
  short_length = ltb-true (length x.name) 14 (and_right (is_word x.name) (ltb (length x.name) 14) short)

-- a spelling of a word
abbrev names : List ℕ → Spelling → Bool
names w x = same x.name w

no_name : (xs : List Spelling) (s : List ℕ) → all is_short xs ≡ true → is_name (before 32 s) xs ≡ false → item_in xs s ≡ ordinary
unfolding is_name item_in all
no_name [] s p h = refl
no_name (x ∷ xs) s p h =
    rw (
      item_in,
      spelled-word x.name s x.bare (short_word x (and_left (is_short x) (all is_short xs) p)),
      or_left (same x.name (before 32 s)) (is_name (before 32 s) xs) h,
    )
    (no_name xs s (and_right (is_short x) (all is_short xs) p) (or_right (same x.name (before 32 s)) (is_name (before 32 s) xs) h))

-- the item of a spelling that is found, where the line goes on after its first word or the spelling may end it
abbrev item_found : Option Spelling → Bool → Item
item_found None t = ordinary
item_found (Some x) t = cond (not (t && not x.bare)) x.item ordinary

item-first : (xs : List Spelling) (s : List ℕ) → all is_short xs ≡ true → apart xs ≡ true → item_in xs s ≡ item_found (first (names (before 32 s)) xs) (ends_line s)
unfolding all apart item_in first
item-first [] s p d = refl
item-first (x ∷ xs) s p d =
    let more = and_right (is_short x) (all is_short xs) p in
    rw (spelled-word x.name s x.bare (short_word x (and_left (is_short x) (all is_short xs) p)))
    (go (same x.name (before 32 s)) refl more (not-true (is_name x.name xs) (and_left (not (is_name x.name xs)) (apart xs) d))
    (item-first xs s more (and_right (not (is_name x.name xs)) (apart xs) d)))
  where
    go : (t : Bool) → same x.name (before 32 s) ≡ t → all is_short xs ≡ true → is_name x.name xs ≡ false
        → item_in xs s ≡ item_found (first (names (before 32 s)) xs) (ends_line s)
        → cond (t && not (ends_line s && not x.bare)) x.item (item_in xs s)
        ≡ item_found (cond t (Some x) (first (names (before 32 s)) xs)) (ends_line s)
    go true e p a ih = rw (no_name xs s p (rw (same_equal x.name (before 32 s) e) at a)) refl
    go false e p a ih = ih

-- the name in a spelling's row
row_named : (w : List ℕ) (x : Spelling) → is_short x ≡ true → same (row_name (spelling_row x)) w ≡ names w x
row_named w x short =
    ap (λ (n : List ℕ). same n w)
    (made_name x.name (item_number x.item ∷ cond x.bare 1 0 ∷ []) (omega (arith, short_length x short)) (short_word x short))

-- ---- an item's kind

pub kind_small : (o : Option Pseudo) → item_kind o ≤ 9
kind_small None = omega arith
kind_small (Some Li) = omega arith
kind_small (Some La) = omega arith
kind_small (Some Push) = omega arith
kind_small (Some Pop) = omega arith
kind_small (Some Print) = omega arith
kind_small (Some PrintStr) = omega arith
kind_small (Some Read) = omega arith
kind_small (Some ReadByte) = omega arith
kind_small (Some Random) = omega arith

-- it tells the item
abbrev from_kind : ℕ → Option Pseudo
from_kind n =
    get_or (None ∷ Some Li ∷ Some La ∷ Some Push ∷ Some Pop ∷ Some Print ∷ Some PrintStr ∷ Some Read ∷ Some ReadByte ∷ Some Random ∷ []) n None

kind_back : (o : Option Pseudo) → from_kind (item_kind o) ≡ o
kind_back None = refl
kind_back (Some Li) = refl
kind_back (Some La) = refl
kind_back (Some Push) = refl
kind_back (Some Pop) = refl
kind_back (Some Print) = refl
kind_back (Some PrintStr) = refl
kind_back (Some Read) = refl
kind_back (Some ReadByte) = refl
kind_back (Some Random) = refl

pub item_told : (x y : Option Pseudo) → item_kind x ≡ item_kind y → x ≡ y
item_told x y e = sym (kind_back x) ∙ ap from_kind e ∙ kind_back y

-- ---- the code's columns

flag_back : (b : Bool) → eqb (cond b 1 0) 0 ≡ not b
flag_back true = refl
flag_back false = refl

number_small : (i : Item) → item_number i ≤ 9
number_small ordinary = omega arith
number_small (pseudo p) = kind_small (Some p)
number_small other = omega arith

-- no spelling names an ordinary line
abbrev is_named : Item → Bool
is_named ordinary = false
is_named (pseudo p) = true
is_named other = true

abbrev Named : List Spelling → Type 0
Named xs = all (λ x. is_named x.item) xs ≡ true

pub spellings-named : Named spellings
unfolding spellings all
spellings-named = refl

-- the row that the code finds: none, one that may not end the line, or one whose columns say what it is
module _ (xs : List Spelling) (t s : List ℕ) (ok : Sound xs) (r : Option ℕ) (is : found_row t r ≡ first (λ x. same (row_name x) (before 32 s)) (map spelling_row xs)) where
  pub line_plain : r ≡ None → Ok None ≡ text_line_code (item_in xs s)
  line_plain e =
      rw (
        item-first xs s ok.0 ok.1,
        row_missed spelling_row (λ x. same (row_name x) (before 32 s)) is_short (names (before 32 s)) (row_named (before 32 s)) xs ok.0 t r is e,
      )
      refl

  module _ (at : ℕ) (e : r ≡ Some at) where
    there : (x : Spelling) × (first (names (before 32 s)) xs ≡ Some x) × (spelling_row x ≡ take 16 (drop at t))
    there = row_found spelling_row (λ x. same (row_name x) (before 32 s)) is_short (names (before 32 s)) (row_named (before 32 s)) xs ok.0 t r is at e

    abbrev spelling : Spelling
    spelling = there.0

    abbrev columns : List ℕ
    columns = item_number spelling.item ∷ cond spelling.bare 1 0 ∷ []

    fits : length spelling.name + length columns ≤ 16
    fits = omega (arith, short_length spelling (first_meets is_short (names (before 32 s)) xs ok.0 spelling there.1).0)

    pub line_room : at + 16 ≤ length t
    line_room = made_room t spelling.name columns at fits (sym there.2)

    column : (i : ℕ) → i < 2 → get_or t (at + (14 + i)) 0 ≡ get_or columns i 0
    column i h = made_read t spelling.name columns at fits (sym there.2) i h

    rowed : (b : Bool) → ends_line s && eqb (get_or t (at + 15) 0) 0 ≡ b → item_in xs s ≡ cond (not b) spelling.item ordinary
    rowed b ends =
        let bare : eqb (get_or t (at + 15) 0) 0 ≡ not spelling.bare = ap (λ (k : ℕ). eqb k 0) (column 1 (omega arith)) ∙ flag_back spelling.bare in
        item-first xs s ok.0 ok.1 ∙ ap (λ (o : Option Spelling). item_found o (ends_line s)) there.1 ∙ rw (rw bare at ends) refl

    pub line_ended : ends_line s && eqb (get_or t (at + 15) 0) 0 ≡ true → Ok None ≡ text_line_code (item_in xs s)
    line_ended ends = rw (rowed true ends) refl

    number_is : get_or t (at + 14) 0 ≡ item_number spelling.item
    number_is = column 0 (omega arith)

    pub number_few : get_or t (at + 14) 0 ≤ 9
    number_few = rw number_is (number_small spelling.item)

    module _ (ends : ends_line s && eqb (get_or t (at + 15) 0) 0 ≡ false) where
      module _ (o : Option Pseudo) (told : item_kind o ≡ get_or t (at + 14) 0) where
        pub line_other : Named xs → o ≡ None → Err 21 ≡ text_line_code (item_in xs s)
        line_other named z =
            rw (rowed false ends)
            (by spelling.item (first_meets (λ x. is_named x.item) (names (before 32 s)) xs named spelling there.1).0
            (sym number_is ∙ sym told ∙ ap item_kind z))
          where
            by : (j : Item) → is_named j ≡ true → item_number j ≡ 0 → Err 21 ≡ text_line_code j
            by ordinary n z = absurd (false≢true n)
            by (pseudo p) n z = let w = item_told (Some p) None z in cc
            by other n z = refl

        pub line_pseudo : (p : Pseudo) → o ≡ Some p → Ok (Some p) ≡ text_line_code (item_in xs s)
        line_pseudo p z = rw (rowed false ends) (by spelling.item (sym (ap item_kind z) ∙ told ∙ number_is))
          where
            by : (j : Item) → pseudo_kind p ≡ item_number j → Ok (Some p) ≡ text_line_code j
            by ordinary m = let w = item_told (Some p) None m in cc
            by (pseudo r) m = let w = item_told (Some p) (Some r) m in cc
            by other m = let w = item_told (Some p) None m in cc

-- ---- the first letter

-- every name begins as one may
unfoldable pub begun : List Spelling → Bool
begun [] = true
begun (x ∷ xs) = begins_as_pseudo x.name && begun xs

pub spellings_begun : begun spellings ≡ true
unfolding begun spellings starts_with
spellings_begun = refl

begins_on : (n s : List ℕ) → starts_with n s ≡ true → begins_as_pseudo n ≡ true → begins_as_pseudo s ≡ true
unfolding starts_with
begins_on [] s h b = absurd (false≢true b)
begins_on (y ∷ ys) [] h b = absurd (false≢true h)
begins_on (y ∷ ys) (x ∷ xs) h b = rw (eqb-true x y (and_left (eqb x y) (starts_with ys xs) h)) b

-- what begins otherwise is no pseudo
pub other-first : (xs : List Spelling) (s : List ℕ) → begun xs ≡ true → begins_as_pseudo s ≡ false → item_in xs s ≡ ordinary
unfolding begun item_in
other-first [] s h e = refl
other-first (x ∷ xs) s h e = by (starts_with x.name s) refl (other-first xs s (and_right (begins_as_pseudo x.name) (begun xs) h) e)
  where
    rest : Bool
    rest = starts_with (text " ") (drop (length x.name) s) || (x.bare && same x.name s)

    by : (c : Bool) → starts_with x.name s ≡ c → item_in xs s ≡ ordinary → cond (c && rest) x.item (item_in xs s) ≡ ordinary
    by true q more = absurd (false≢true (sym e ∙ begins_on x.name s q (and_left (begins_as_pseudo x.name) (begun xs) h)))
    by false q more = more

-- ---- an item's words

-- one at least, 11 at most
abbrev Few : ℕ → Type 0
Few n = (1 ≤ n) × (n ≤ 11)

pub words_few : (o : Option Pseudo) (s : List ℕ) → Few (reserved_words o s)
words_few None s = (omega arith, omega arith)
words_few (Some Li) s = by (pseudo_operands s)
  where
    by : (ops : List (List ℕ)) → Few (li_words ops)
    by [] = (omega arith, omega arith)
    by (a ∷ []) = (omega arith, omega arith)
    by (a ∷ b ∷ bs) = cond_has Few (is_single (imm_of b)) 1 2 (omega arith, omega arith) (omega arith, omega arith)
words_few (Some La) s = (omega arith, omega arith)
words_few (Some Push) s = (omega arith, omega arith)
words_few (Some Pop) s = (omega arith, omega arith)
words_few (Some Print) s = (omega arith, omega arith)
words_few (Some PrintStr) s = (omega arith, omega arith)
words_few (Some Read) s = (omega arith, omega arith)
words_few (Some ReadByte) s = (omega arith, omega arith)
words_few (Some Random) s = (omega arith, omega arith)

-- ---- what follows the first word

-- an li's words by the operands that are found after its name
module _ (t : List ℕ) where
  li_operands : li_words (item_operands (one_spaced t)) ≡ li_words (map one_spaced (item_operands_from t 0))
  li_operands = rw (items_spaced t, items_all t) refl

  pub li_none : item_operand_at t 0 ≡ None → li_words (item_operands (one_spaced t)) ≡ 1
  li_none e = rw (li_operands, item_end t 0 e) refl

  module _ (p : Span) (next : ℕ) (e : item_operand_at t 0 ≡ Some (p, next)) where
    pub li_one : item_operand_at t next ≡ None → li_words (item_operands (one_spaced t)) ≡ 1
    li_one f = rw (li_operands, item-step t 0 p next e, item_end t next f) refl

    pub li_two : (q : Span) (after : ℕ) → item_operand_at t next ≡ Some (q, after)
        → li_words (item_operands (one_spaced t)) ≡ cond (is_single (spaced_imm_of (spanned t q))) 1 2
    unfolding spaced_imm_of
    li_two q after f = rw (li_operands, item-step t 0 p next e, item-step t next q after f) refl
