-- Strings to their closing quote: which lines have one, and where its operand stands.
use Prim.Native.Nat.{ℕ, suc, ◌+◌, min, ◌≤◌, ◌<◌}
use mathlib.Core.Path.{◌≡◌, refl, sym, ap, ◌∙◌, subst}
use mathlib.Core.List.{List, [], ◌∷◌, ◌++◌}
use mathlib.Core.Bool.{Bool, true, false, cond, not, ◌&&◌, ◌||◌, true≢false}
use Rattle.std.proofs.Common.{Option, None, Some}
use native.Mathlib.Omega.{arith}
use lib.Dec.{ltb, eqb}
use lib.ListN.{length, take, drop, get_or, length-drop}
use lib.Seq.{take-take}
use borrow.Author.Tests.{lt-ltb, le-ltb, ltb-true, ltb-false, eqb-true, eqb-false, ne_eqb}
use Rattle.std.proofs.Common.{Result, Ok, Err}
use Rattle.numbers.specs.Text.{text, byte, trimmed, index_of, before, starts_with, same}
use Rattle.numbers.specs.Code.Spans.{trim_span}
use Rattle.numbers.specs.Code.Tables.{all}
use Rattle.numbers.proofs.Bools.{and_left, and_right}
use Rattle.numbers.proofs.Places.{index_within, index_found, index_take, before-length}
use Rattle.numbers.proofs.Prefixes.{prefix_splits, same_equal}
use Rattle.numbers.proofs.Trims.{trim_span-within, statement_within}
use Rattle.layout.specs.declared.state.Section.{Section}
use Rattle.layout.specs.declared.state.Section.TheVariants as section
use Rattle.layout.specs.declared.directives.Reserve.{Reserve}
use Rattle.layout.specs.declared.directives.Store.TheVariants.{Numbers, Text, Float}
use Rattle.layout.specs.declared.directives.Directive.{Directive}
use Rattle.layout.specs.declared.directives.Directive.TheVariants as directive
use Rattle.layout.specs.Pieces.{Piece, piece, trim_piece, from_byte, holds, piece_before, piece_after, is_empty, statement_of}
use Rattle.layout.specs.Directives.{Row, directives, row_in}
use Rattle.layout.specs.Statements.{Expr, OwnStatement, item, stores, string, reserves, reserves_bss, Statement, nothing, enters, equate, own}
use Rattle.layout.specs.Statements.{is_section_line, is_assignment, symbol_after, equate_of, equ_of, other_in, assignment_of, reserves_in, directive_in}
use Rattle.layout.specs.Statements.{on_row, unlabelled_of, Line, label_in, after_label, labelled, before_quote, string_in, string_or, parsed}
use Rattle.layout.specs.Code.Steps.{Exists}
use Rattle.layout.specs.Code.Rows.{row_code, SpelledWithin}
use Rattle.layout.specs.Code.Cuts.{is_text, is_string_row, to_line_end}
use Rattle.layout.proofs.DirectiveLaws.{directives_small, row_within}
use Rattle.layout.proofs.Each.{cond_has}
use Rattle.layout.proofs.Gives.{Gives}

-- ---- the first colon and the first quote

-- a quote stands before the first colon, and there is a colon
abbrev pub is_quote_first : List ℕ → Bool
is_quote_first s = ltb (index_of (byte ":") s) (length s) && ltb (index_of (byte "\"") s) (index_of (byte ":") s)

-- they do not stand at one place
apart : (s : List ℕ) → index_of (byte ":") s < length s → index_of (byte ":") s ≡ index_of (byte "\"") s → ⊥
apart s h e =
    let colon = index_found (byte ":") s h in
    let quote : get_or s (index_of (byte ":") s) 0 ≡ byte "\"" = rw (← e) at (index_found (byte "\"") s (rw e at h)) in
    absurd (omega (arith, colon, quote))

module _ (p : Piece) where
  abbrev colon : ℕ
  colon = index_of (byte ":") p.bytes

  abbrev quote : ℕ
  quote = index_of (byte "\"") p.bytes

  -- what stands before the quote has a colon where the first one precedes it
  head_holds : holds (byte ":") (before_quote p) ≡ ltb (min quote colon) quote
  unfolding before
  head_holds = rw (before-length (byte "\"") p.bytes, index_take (byte ":") quote p.bytes) refl

  head_yes : colon < quote → holds (byte ":") (before_quote p) ≡ true
  head_yes h = head_holds ∙ lt-ltb (min quote colon) quote (omega (arith, h))

  head_no : quote ≤ colon → holds (byte ":") (before_quote p) ≡ false
  head_no h = head_holds ∙ le-ltb (min quote colon) quote (omega (arith, h))

  -- a label that precedes the quote is one of the whole
  pub head_label : holds (byte ":") (before_quote p) ≡ true → holds (byte ":") p ≡ true
  head_label e =
      lt-ltb colon (length p.bytes)
      (omega (arith, ltb-true (min quote colon) quote (sym head_holds ∙ e), index_within (byte "\"") p.bytes))

  -- a quote before the first colon: no label precedes the quote
  pub quote_bare : is_quote_first p.bytes ≡ true → holds (byte ":") (before_quote p) ≡ false
  quote_bare e = head_no (omega (arith, ltb-true quote colon (and_right (ltb colon (length p.bytes)) _ e)))

  -- a label precedes the quote, or there is none
  pub label_found : is_quote_first p.bytes ≡ false → holds (byte ":") p ≡ true → colon < quote
  label_found e h = go (ltb quote colon) refl
    where
      go : (b : Bool) → ltb quote colon ≡ b → colon < quote
      go true f = absurd (true≢false (sym (rw (h, f) refl) ∙ e))
      go false f = by (eqb colon quote) refl
        where
          by : (b : Bool) → eqb colon quote ≡ b → colon < quote
          by true g = absurd (apart p.bytes (ltb-true _ _ h) (eqb-true colon quote g))
          by false g = omega (arith, ltb-false quote colon f, eqb-false colon quote g)

  -- so that it is the same in what precedes the quote, and what follows it too
  head_same : is_quote_first p.bytes ≡ false → holds (byte ":") (before_quote p) ≡ holds (byte ":") p
  head_same e = go (holds (byte ":") p) refl
    where
      go : (b : Bool) → holds (byte ":") p ≡ b → holds (byte ":") (before_quote p) ≡ b
      go true h = head_yes (label_found e h)
      go false h = head_no (omega (arith, index_within (byte "\"") p.bytes, ltb-false colon (length p.bytes) h))

  pub after_same : is_quote_first p.bytes ≡ false → after_label (before_quote p) p ≡ after_label p p
  after_same e = rw (head_same e) refl

  pub label_same : is_quote_first p.bytes ≡ false → label_in (before_quote p) ≡ label_in p
  unfolding before
  label_same e = rw (head_same e) (go (holds (byte ":") p) refl)
    where
      named : Piece → Option Piece
      named x = Some (trim_piece (piece_before (byte ":") x))

      go : (b : Bool) → holds (byte ":") p ≡ b → cond b (named (before_quote p)) None ≡ cond b (named p) None
      go true h =
          let first : index_of (byte ":") (take quote p.bytes) ≡ colon = omega (arith, index_take (byte ":") quote p.bytes, label_found e h) in
          let same : take (index_of (byte ":") (take quote p.bytes)) (take quote p.bytes) ≡ take colon p.bytes =
          rw first (take-take colon quote p.bytes (omega (arith, label_found e h))) in
          ap (λ (s : List ℕ). Some (trim_piece (piece p.at s))) same
      go false h = refl

-- ---- what a statement stores

-- what stands from a directive on in the data section
pub record Stored (s : Section) (p rest : Piece) : Type 0 where
  pub in_data : s ≡ section.Data
  pub name : ℕ
  pub within : name ≤ length p.bytes
  pub is : rest ≡ from_byte name p

abbrev OwnStores : Section → Piece → OwnStatement → Type 0
OwnStores s p (item q) = Unit
OwnStores s p (stores x rest) = Stored s p rest
OwnStores s p (string _ rest) = Unit
OwnStores s p (reserves x rest) = Unit
OwnStores s p (reserves_bss x rest) = Unit

abbrev StatementStores : Section → Piece → Statement → Type 0
StatementStores s p nothing = Unit
StatementStores s p (enters x) = Unit
StatementStores s p (equate name e) = Unit
StatementStores s p (own x) = OwnStores s p x

abbrev pub SaysStores : Section → Piece → Result Statement ℕ → Type 0
SaysStores s p x = Gives (StatementStores s p) x

module _ (s : Section) (p : Piece) where
  equate-stores : (name : Piece) (e : Expr) → SaysStores s p (equate_of name e)
  unfolding equate_of
  equate-stores name e = cond_has (SaysStores s p) (is_empty name || is_empty e.source) _ _ tt tt

  equ_stores : (q : Piece) → SaysStores s p (equ_of q)
  unfolding equ_of
  equ_stores q = cond_has (SaysStores s p) (holds (byte ",") q) _ _ (equate-stores _ _) (equate-stores _ _)

other-stores : (s : Section) (p : Piece) → SaysStores s p (other_in s p)
other-stores section.Text p = tt
other-stores section.Data p = tt
other-stores section.Bss p = tt

directive_stores : (s : Section) (d : Directive) (b : Bool) (p : Piece) (n : ℕ) → n ≤ length p.bytes
    → SaysStores s p (directive_in s d b p (from_byte n p))
unfolding symbol_after
directive_stores s directive.Symbol b p n h = cond_has (SaysStores s p) (eqb (length (trimmed (from_byte n p).bytes)) 0) _ _ tt tt
directive_stores s directive.Ignored b p n h = tt
directive_stores s directive.Equate b p n h = equ_stores s p (trim_piece (from_byte n p))
directive_stores section.Text (directive.Reserves x) b p n h = tt
directive_stores section.Data (directive.Reserves x) b p n h = cond_has (SaysStores section.Data p) b _ _ tt tt
directive_stores section.Bss (directive.Reserves x) b p n h = tt
directive_stores section.Text (directive.Stores x) b p n h = tt
directive_stores section.Data (directive.Stores x) b p n h = record { in_data = refl; name = n; within = h; is = refl }
directive_stores section.Bss (directive.Stores x) b p n h = tt

-- nothing is stored but in the data section, and there it is what follows a directive's name
pub unlabelled_stores : (s : Section) (p : Piece) → SaysStores s p (unlabelled_of s p)
unfolding unlabelled_of assignment_of
unlabelled_stores s p = cond_has (SaysStores s p) (is_empty p) _ _ tt (by (row_in directives p.bytes) (row_within directives p.bytes directives_small))
  where
    by : (o : Option Row) → SpelledWithin (row_code o) (length p.bytes) → SaysStores s p (on_row o s p)
    by None w = cond_has (SaysStores s p) (is_assignment p) _ _ (equate-stores s p _ _) (other-stores s p)
    by (Some r) w = directive_stores s r.directive r.in_data p (length r.name) w.0

-- ---- a part of a line

-- p stands in l
pub record Within (l p : Piece) : Type 0 where
  pub from : l.at ≤ p.at
  pub to : p.at + length p.bytes ≤ l.at + length l.bytes

pub within-within : (l p q : Piece) → Within l p → Within p q → Within l q
within-within l p q g h = record { from = omega (arith, g.from, h.from); to = omega (arith, g.to, h.to) }

trim_part : (p : Piece) → Within p (trim_piece p)
trim_part p = record { from = omega arith; to = omega (arith, trim_span-within p.bytes) }

from_part : (p : Piece) (n : ℕ) → n ≤ length p.bytes → Within p (from_byte n p)
from_part p n h = record { from = omega arith; to = omega (arith, h, length-drop n p.bytes) }

pub statement_part : (l : Piece) → Within l (statement_of l)
unfolding trim_span
statement_part l = record { from = omega arith; to = omega (arith, statement_within l.bytes) }

pub after_part : (h p : Piece) → (holds (byte ":") h ≡ true → holds (byte ":") p ≡ true) → Within p (after_label h p)
after_part h p e = go (holds (byte ":") h) refl
  where
    rest : Piece
    rest = piece_after (byte ":") p

    go : (b : Bool) → holds (byte ":") h ≡ b → Within p (cond b (trim_piece rest) p)
    go true f = within-within p rest (trim_piece rest) (from_part p (suc (index_of (byte ":") p.bytes)) (ltb-true _ _ (e f))) (trim_part rest)
    go false f = record { from = omega arith; to = omega arith }

-- what is stored stands in the line
pub operand_starts : (l p : Piece) → Within l p → (s : Section) (rest : Piece) → Stored s p rest → (l.at ≤ rest.at) × (rest.at ≤ l.at + length l.bytes)
operand_starts l p w s rest g = rw g.is (omega (arith, w.from), omega (arith, w.to, g.within))

-- elsewhere than in data there is none
pub string_elsewhere : (l p : Piece) (s : Section) → (s ≡ section.Data → ⊥) → (x : Result Statement ℕ) → SaysStores s p x → string_in l x ≡ None
string_elsewhere l p s h (Ok (own (stores x rest))) g = absurd (h g.in_data)
string_elsewhere l p s h (Ok (own (item q))) g = refl
string_elsewhere l p s h (Ok (own (string _ rest))) g = refl
string_elsewhere l p s h (Ok (own (reserves x rest))) g = refl
string_elsewhere l p s h (Ok (own (reserves_bss x rest))) g = refl
string_elsewhere l p s h (Ok nothing) g = refl
string_elsewhere l p s h (Ok (enters x)) g = refl
string_elsewhere l p s h (Ok (equate name x)) g = refl
string_elsewhere l p s h (Err n) g = refl

-- ---- a line that is no section line

-- by the string that its statement stores, if it stores one
abbrev pub string_line : Section → Piece → Option OwnStatement → Line
string_line s p None = labelled s p
string_line s p (Some x) = record { label = label_in p; says = Ok (own x) }

module _ (l p : Piece) (k : is_section_line p.bytes ≡ false) where
  -- in another section than data it has none
  pub elsewhere_parsed : (s : Section) → (s ≡ section.Data → ⊥) → parsed s l p ≡ labelled s p
  unfolding parsed
  elsewhere_parsed s h =
      let q = after_label (before_quote p) p in
      rw (k, string_elsewhere l q s h (unlabelled_of s q) (unlabelled_stores s q)) refl

  -- in data, where no quote precedes its first colon
  pub plain-parsed : is_quote_first p.bytes ≡ false → parsed section.Data l p ≡ string_line section.Data p (string_in l (unlabelled_of section.Data (after_label p p)))
  unfolding parsed
  plain-parsed e = rw (k, after_same p e) (by (string_in l (unlabelled_of section.Data (after_label p p))))
    where
      by : (o : Option OwnStatement) → string_or o section.Data p ≡ string_line section.Data p o
      by None = refl
      by (Some x) = rw (label_same p e) refl

  -- where one does: a string directive without a label, or document 01's line
  module _ (e : is_quote_first p.bytes ≡ true) where
    pub quoted_string : (x : OwnStatement) → string_in l (unlabelled_of section.Data p) ≡ Some x → parsed section.Data l p ≡ record { label = None; says = Ok (own x) }
    unfolding parsed
    quoted_string x i = rw (k, quote_bare p e, i, quote_bare p e) refl

    pub quoted_other : string_in l (unlabelled_of section.Data p) ≡ None → parsed section.Data l p ≡ labelled section.Data p
    unfolding parsed
    quoted_other i = rw (k, quote_bare p e, i) refl

-- ---- string directives

-- their names
abbrev is_string_name : List ℕ → Bool
is_string_name n = same n (text ".ascii") || (same n (text ".asciz") || same n (text ".string"))

abbrev named_so : Row → Bool
named_so r = not (is_text r.directive) || is_string_name r.name

strings_named : all named_so directives ≡ true
unfolding all same directives
strings_named = refl

-- no row of a text that begins with none of them
no_row : (s : List ℕ) → ((n : List ℕ) → is_string_name n ≡ true → starts_with n s ≡ false) → (rs : List Row) → all named_so rs ≡ true
    → is_string_row (row_in rs s) ≡ false
unfolding row_in all
no_row s h [] g = refl
no_row s h (r ∷ rs) g = by (starts_with r.name s) refl (is_text r.directive) refl (and_left (named_so r) (all named_so rs) g) (no_row s h rs (and_right (named_so r) (all named_so rs) g))
  where
    by : (b : Bool) → starts_with r.name s ≡ b → (t : Bool) → is_text r.directive ≡ t → not t || is_string_name r.name ≡ true → is_string_row (row_in rs s) ≡ false
        → is_string_row (cond b (Some r) (row_in rs s)) ≡ false
    by true e true f n ih = absurd (true≢false (sym e ∙ h r.name n))
    by true e false f n ih = f
    by false e t f n ih = ih

-- they are these three
pub begins_row : (s : List ℕ)
    → starts_with (text ".ascii") s || (starts_with (text ".asciz") s || starts_with (text ".string") s) ≡ is_string_row (row_in directives s)
unfolding directives row_in starts_with
begins_row s = by (starts_with (text ".ascii") s) (starts_with (text ".asciz") s) (starts_with (text ".string") s) refl refl refl
  where
    found : (name : List ℕ) → starts_with name s ≡ true → is_string_row (row_in directives (name ++ drop (length name) s)) ≡ true → true ≡ is_string_row (row_in directives s)
    found name e f = sym (subst (λ (x : List ℕ). is_string_row (row_in directives x) ≡ true) (sym (prefix_splits name s e)) f)

    by : (x y z : Bool) → starts_with (text ".ascii") s ≡ x → starts_with (text ".asciz") s ≡ y → starts_with (text ".string") s ≡ z
        → x || (y || z) ≡ is_string_row (row_in directives s)
    by true y z e f g = found (text ".ascii") e refl
    by false true z e f g = found (text ".asciz") f refl
    by false false true e f g = found (text ".string") g refl
    by false false false e f g = sym (no_row s (λ n h. which n (same n (text ".ascii")) refl (same n (text ".asciz")) refl h) directives strings_named)
      where
        which : (n : List ℕ) (a : Bool) → same n (text ".ascii") ≡ a → (b : Bool) → same n (text ".asciz") ≡ b → a || (b || same n (text ".string")) ≡ true
            → starts_with n s ≡ false
        which n true p b q h = rw (same_equal n (text ".ascii") p) e
        which n false p true q h = rw (same_equal n (text ".asciz") q) f
        which n false p false q h = rw (same_equal n (text ".string") h) g

-- ---- what stores no string

abbrev is_string : Option OwnStatement → Bool
is_string None = false
is_string (Some x) = true

module _ (l : Piece) where
  abbrev Stringless : Result Statement ℕ → Type 0
  Stringless x = string_in l x ≡ None

  either : (c : Bool) (x y : Result Statement ℕ) → Stringless x → Stringless y → Stringless (cond c x y)
  either = cond_has Stringless

  pub symbol_stringless : (rest : List ℕ) → Stringless (symbol_after rest)
  unfolding symbol_after
  symbol_stringless rest = either (eqb (length (trimmed rest)) 0) _ _ refl refl

  equate_stringless : (name : Piece) (e : Expr) → Stringless (equate_of name e)
  unfolding equate_of
  equate_stringless name e = either (is_empty name || is_empty e.source) _ _ refl refl

  pub equ_stringless : (p : Piece) → Stringless (equ_of p)
  unfolding equ_of
  equ_stringless p = either (holds (byte ",") p) _ _ (equate_stringless _ _) (equate_stringless _ _)

  other_stringless : (s : Section) (p : Piece) → Stringless (other_in s p)
  other_stringless section.Text p = refl
  other_stringless section.Data p = refl
  other_stringless section.Bss p = refl

  pub assignment_stringless : (s : Section) (p : Piece) → Stringless (assignment_of s p)
  unfolding assignment_of
  assignment_stringless s p = either (is_assignment p) _ _ (equate_stringless _ _) (other_stringless s p)

  pub reserves_stringless : (s : Section) (b : Bool) (x : Reserve) (p rest : Piece) → Stringless (reserves_in s b x p rest)
  reserves_stringless section.Text b x p rest = refl
  reserves_stringless section.Data b x p rest = either b _ _ refl refl
  reserves_stringless section.Bss b x p rest = refl

  -- it says the same in its line
  pub as_is : (b : Bool) (x : Result Statement ℕ) → Stringless x → to_line_end b l x ≡ x
  as_is true x e = refl
  as_is false x e = rw e refl

  -- a statement of the data section, by its directive's row
  by_row : (o : Option Row) (p : Piece) → (c : Bool) → is_string_row o ≡ c → is_string (string_in l (on_row o section.Data p)) ≡ c
  by_row None p c e = rw (assignment_stringless section.Data p) e
  by_row (Some r) p c e = by r.directive e
    where
      by : (d : Directive) → is_text d ≡ c → is_string (string_in l (directive_in section.Data d r.in_data p (from_byte (length r.name) p))) ≡ c
      by directive.Symbol f = rw (symbol_stringless (from_byte (length r.name) p).bytes) f
      by directive.Ignored f = f
      by directive.Equate f = rw (equ_stringless (trim_piece (from_byte (length r.name) p))) f
      by (directive.Reserves x) f = rw (reserves_stringless section.Data r.in_data x p (from_byte (length r.name) p)) f
      by (directive.Stores (Numbers w)) f = f
      by (directive.Stores (Text zeros)) f = f
      by (directive.Stores Float) f = f

  string-row : (p : Piece) → is_string (string_in l (unlabelled_of section.Data p)) ≡ is_string_row (row_in directives p.bytes)
  unfolding unlabelled_of directives row_in starts_with
  string-row p = by p.bytes
    where
      by : (bytes : List ℕ) → is_string (string_in l (unlabelled_of section.Data (piece p.at bytes))) ≡ is_string_row (row_in directives bytes)
      by [] = refl
      by (x ∷ xs) =
          rw (ne_eqb (length (x ∷ xs)) 0 (λ e. omega (arith, e)))
          (by_row (row_in directives (x ∷ xs)) (piece p.at (x ∷ xs)) (is_string_row (row_in directives (x ∷ xs))) refl)

  -- so that a string directive stores one, and no other statement does
  pub string_found : (p : Piece) → is_string_row (row_in directives p.bytes) ≡ true → Exists (λ x. string_in l (unlabelled_of section.Data p) ≡ Some x)
  string_found p e = by (string_in l (unlabelled_of section.Data p)) (string-row p ∙ e)
    where
      by : (o : Option OwnStatement) → is_string o ≡ true → Exists (λ x. o ≡ Some x)
      by None f = absurd (true≢false (sym f))
      by (Some x) f = record { it = x; stands = refl }

  pub string-other : (p : Piece) → is_string_row (row_in directives p.bytes) ≡ false → string_in l (unlabelled_of section.Data p) ≡ None
  string-other p e = by (string_in l (unlabelled_of section.Data p)) (string-row p ∙ e)
    where
      by : (o : Option OwnStatement) → is_string o ≡ false → o ≡ None
      by None f = refl
      by (Some x) f = absurd (true≢false f)
