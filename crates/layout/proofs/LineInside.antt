-- A line's parts lie within the text: its label, an equate's name and expression, and what the section's own rule takes.
use Prim.Native.Nat.{ℕ, ◌-◌, ◌≤◌}
use native.Mathlib.Omega.{arith}
use mathlib.Core.Path.{◌≡◌, refl}
use mathlib.Core.List.{List, [], ◌∷◌}
use mathlib.Core.Bool.{Bool, true, false, cond, not, ◌&&◌, ◌||◌}
use Rattle.std.proofs.Common.{Option, None, Some}
use lib.Dec.{eqb}
use lib.ListN.{length, take}
use Rattle.std.proofs.Common.{Result, Ok, Err}
use Rattle.numbers.specs.Text.{text, byte, is_space, trimmed, starts_with, same}
use Rattle.numbers.proofs.Bools.{and_left, and_right}
use Rattle.layout.specs.declared.state.Section.{Section}
use Rattle.layout.specs.declared.state.Section.TheVariants as section
use Rattle.layout.specs.declared.directives.Reserve.{Reserve}
use Rattle.layout.specs.declared.directives.Store.{Store}
use Rattle.layout.specs.declared.directives.Store.TheVariants.{Numbers, Text, Float}
use Rattle.layout.specs.declared.directives.Directive.{Directive}
use Rattle.layout.specs.declared.directives.Directive.TheVariants as directive
use Rattle.layout.specs.Bytes.{is_one_of, count_before}
use Rattle.layout.specs.Pieces.{Piece, piece, trim_piece, from_byte, holds, piece_before, piece_after, is_empty, statement_of}
use Rattle.layout.specs.Directives.{Row, directives, row_in}
use Rattle.layout.specs.Statements.{Expr, as_written, with_one_space, OwnStatement, item, stores, string, reserves, reserves_bss}
use Rattle.layout.specs.Statements.{Statement, nothing, enters, equate, own, section_named, without_dot, section_of, is_section_line}
use Rattle.layout.specs.Statements.{section_line, symbol_after, equate_of, equ_of, other_in, assignment_of, reserves_in, stores_in, directive_in}
use Rattle.layout.specs.Statements.{on_row, unlabelled_of, Line, label_in, after_label, labelled, before_quote, string_in, string_or, parsed, line_of}
use Rattle.layout.specs.Code.Rows.{FewZeros, DirectiveFits, row_code, SpelledWithin}
use Rattle.layout.specs.Code.Fits.{Inside}
use Rattle.layout.proofs.DirectiveLaws.{directives_small, row_within}
use Rattle.layout.proofs.Each.{cond_has}
use Rattle.layout.proofs.Gives.{Gives}
use Rattle.layout.proofs.SpanLaws.{count_within}
use Rattle.layout.proofs.StringLaws.{head_label, SaysStores, unlabelled_stores, Within, within-within, after_part, statement_part, operand_starts}
use Rattle.layout.proofs.Inside.{trim_inside, from_inside, first_inside, before_inside, after_inside, statement_inside}

-- ---- what a line hands on of the text

abbrev pub LabelInside : List ℕ → Option Piece → Type 0
LabelInside t None = Unit
LabelInside t (Some name) = Inside t name

-- a string adds one byte 0 at most
abbrev pub OwnInside : List ℕ → OwnStatement → Type 0
OwnInside t (item p) = Inside t p
OwnInside t (stores x p) = FewZeros x × Inside t p
OwnInside t (string zeros p) = (zeros ≤ 1) × Inside t p
OwnInside t (reserves x p) = Inside t p
OwnInside t (reserves_bss x p) = Inside t p

abbrev pub StatementInside : List ℕ → Statement → Type 0
StatementInside t nothing = Unit
StatementInside t (enters s) = Unit
StatementInside t (equate name e) = Inside t name × Inside t e.source
StatementInside t (own s) = OwnInside t s

pub record LineInside (t : List ℕ) (l : Line) : Type 0 where
  pub label : LabelInside t l.label
  pub says : Gives (StatementInside t) l.says

-- ---- statements

module _ (t : List ℕ) where
  abbrev pub SaysInside : Result Statement ℕ → Type 0
  SaysInside x = Gives (StatementInside t) x

  either : (c : Bool) (x y : Result Statement ℕ) → SaysInside x → SaysInside y → SaysInside (cond c x y)
  either = cond_has SaysInside

  named_inside : (n : List ℕ) → SaysInside (section_named n)
  unfolding section_named
  named_inside n =
      either (is_one_of (text "text" ∷ []) n) _ _ tt
      (either (is_one_of (text "data" ∷ text "rodata" ∷ text "sdata" ∷ text "srodata" ∷ []) n) _ _ tt
      (either (is_one_of (text "bss" ∷ text "sbss" ∷ []) n) _ _ tt tt))

  section_inside : (n : List ℕ) → SaysInside (section_of n)
  unfolding section_of
  section_inside n = either (eqb (length n) 0) _ _ tt (either (same n (text ".note.GNU-stack")) _ _ tt (named_inside (without_dot n)))

  section_line_inside : (s : List ℕ) → SaysInside (section_line s)
  unfolding section_line
  section_line_inside s = either (starts_with (text ".section") s) _ _ (section_inside _) (section_inside s)

  equating : (name : Piece) (e : Expr) → Inside t name → Inside t e.source → SaysInside (equate_of name e)
  unfolding equate_of
  equating name e g h = either (is_empty name || is_empty e.source) _ _ tt (g, h)

  -- parted at a byte that it holds
  parted : (p : Piece) (b : ℕ) → holds b p ≡ true → Inside t p
      → SaysInside (equate_of (trim_piece (piece_before b p)) (as_written (trim_piece (piece_after b p))))
  parted p b h g = equating _ _ (trim_inside t _ (before_inside t p b g)) (trim_inside t _ (after_inside t p b h g))

  pub equ_inside : (p : Piece) → Inside t p → SaysInside (equ_of p)
  unfolding equ_of
  equ_inside p g = by (holds (byte ",") p) refl
    where
      n : ℕ
      n = count_before is_space p.bytes

      by : (c : Bool) → holds (byte ",") p ≡ c → SaysInside (cond c
          (equate_of (trim_piece (piece_before (byte ",") p)) (as_written (trim_piece (piece_after (byte ",") p))))
          (equate_of (piece p.at (take n p.bytes)) (with_one_space (trim_piece (from_byte n p)))))
      by true h = parted p (byte ",") h g
      by false h =
          let w = count_within is_space p.bytes in
          equating _ _ (first_inside t p n w g) (trim_inside t _ (from_inside t p n w g))

  other_inside : (s : Section) (p : Piece) → Inside t p → SaysInside (other_in s p)
  other_inside section.Text p g = g
  other_inside section.Data p g = tt
  other_inside section.Bss p g = tt

  pub assignment_inside : (s : Section) (p : Piece) → Inside t p → SaysInside (assignment_of s p)
  unfolding assignment_of
  assignment_inside s p g = by (is_plain && holds (byte "=") p && left && right) refl
    where
      is_plain : Bool
      is_plain = not (starts_with (text ".") p.bytes)

      left : Bool
      left = not (is_empty (trim_piece (piece_before (byte "=") p)))

      right : Bool
      right = not (is_empty (trim_piece (piece_after (byte "=") p)))

      by : (c : Bool) → is_plain && holds (byte "=") p && left && right ≡ c → SaysInside (cond c
          (equate_of (trim_piece (piece_before (byte "=") p)) (as_written (trim_piece (piece_after (byte "=") p))))
          (other_in s p))
      by true h = parted p (byte "=") (and_right is_plain _ (and_left _ left (and_left _ right h))) g
      by false h = other_inside s p g

  reserves_inside : (s : Section) (b : Bool) (x : Reserve) (p rest : Piece) → Inside t p → Inside t rest → SaysInside (reserves_in s b x p rest)
  reserves_inside section.Text b x p rest g h = g
  reserves_inside section.Data b x p rest g h = either b _ _ h tt
  reserves_inside section.Bss b x p rest g h = h

  stores_inside : (s : Section) (x : Store) (p rest : Piece) → FewZeros x → Inside t p → Inside t rest → SaysInside (stores_in s x p rest)
  stores_inside section.Text x p rest z g h = g
  stores_inside section.Data x p rest z g h = (z, h)
  stores_inside section.Bss x p rest z g h = tt

  -- a directive's piece and what follows its name
  pub directive_inside : (s : Section) (d : Directive) (b : Bool) (p rest : Piece) → DirectiveFits d → Inside t p → Inside t rest
      → SaysInside (directive_in s d b p rest)
  unfolding symbol_after
  directive_inside s directive.Symbol b p rest z g h = either (eqb (length (trimmed rest.bytes)) 0) _ _ tt tt
  directive_inside s directive.Ignored b p rest z g h = tt
  directive_inside s directive.Equate b p rest z g h = equ_inside (trim_piece rest) (trim_inside t rest h)
  directive_inside s (directive.Reserves x) b p rest z g h = reserves_inside s b x p rest g h
  directive_inside s (directive.Stores x) b p rest z g h = stores_inside s x p rest z g h

  row_inside : (o : Option Row) (s : Section) (p : Piece) → SpelledWithin (row_code o) (length p.bytes) → Inside t p → SaysInside (on_row o s p)
  row_inside None s p w g = assignment_inside s p g
  row_inside (Some r) s p w g = directive_inside s r.directive r.in_data p _ w.1 g (from_inside t p (length r.name) w.0 g)

  pub unlabelled_inside : (s : Section) (p : Piece) → Inside t p → SaysInside (unlabelled_of s p)
  unfolding unlabelled_of
  unlabelled_inside s p g = either (is_empty p) _ _ tt (row_inside (row_in directives p.bytes) s p (row_within directives p.bytes directives_small) g)

  -- ---- lines

  -- behind a label, if h, which p begins with, has one
  after_inside_label : (h p : Piece) → (holds (byte ":") h ≡ true → holds (byte ":") p ≡ true) → Inside t p → Inside t (after_label h p)
  after_inside_label h p e g = go (holds (byte ":") h) refl
    where
      go : (c : Bool) → holds (byte ":") h ≡ c → Inside t (cond c (trim_piece (piece_after (byte ":") p)) p)
      go true f = trim_inside t _ (after_inside t p _ (e f) g)
      go false f = g

  label_inside : (p : Piece) → Inside t p → LabelInside t (label_in p)
  label_inside p g = cond_has (LabelInside t) (holds (byte ":") p) _ _ (trim_inside t _ (before_inside t p _ g)) tt

  labelled_inside : (s : Section) (p : Piece) → Inside t p → LineInside t (labelled s p)
  unfolding labelled
  labelled_inside s p g = record { label = label_inside p g; says = unlabelled_inside s _ (after_inside_label p p (λ e. e) g) }

  -- a string's operand, from behind its directive to the line's end
  operand_inside : (s : Section) (l p q : Piece) → Inside t l → Inside t p → Within l q → (x : Result Statement ℕ) → SaysStores s q x → SaysInside x
      → LineInside t (string_or (string_in l x) s p)
  operand_inside s l p q g h w (Ok (own (stores (Text zeros) rest))) i j =
      let n = operand_starts l q w s rest i in
      record { label = label_inside _ (before_inside t p _ h); says = (j.0, from_inside t l (rest.at - l.at) (omega (arith, n)) g) }
  operand_inside s l p q g h w (Ok (own (stores (Numbers x) rest))) i j = labelled_inside s p h
  operand_inside s l p q g h w (Ok (own (stores Float rest))) i j = labelled_inside s p h
  operand_inside s l p q g h w (Ok (own (item x))) i j = labelled_inside s p h
  operand_inside s l p q g h w (Ok (own (string _ rest))) i j = labelled_inside s p h
  operand_inside s l p q g h w (Ok (own (reserves x rest))) i j = labelled_inside s p h
  operand_inside s l p q g h w (Ok (own (reserves_bss x rest))) i j = labelled_inside s p h
  operand_inside s l p q g h w (Ok nothing) i j = labelled_inside s p h
  operand_inside s l p q g h w (Ok (enters x)) i j = labelled_inside s p h
  operand_inside s l p q g h w (Ok (equate name x)) i j = labelled_inside s p h
  operand_inside s l p q g h w (Err n) i j = labelled_inside s p h

  -- of a line and its statement
  parsed_inside : (s : Section) (l p : Piece) → Within l p → Inside t l → Inside t p → LineInside t (parsed s l p)
  unfolding parsed
  parsed_inside s l p w g h =
      let q = after_label (before_quote p) p in
      cond_has (LineInside t) (is_section_line p.bytes) _ _ (record { label = tt; says = section_line_inside p.bytes })
      (operand_inside s l p q g h (within-within l p q w (after_part (before_quote p) p (head_label p))) (unlabelled_of s q) (unlabelled_stores s q)
      (unlabelled_inside s q (after_inside_label (before_quote p) p (head_label p) h)))

  -- of a line as it stands in the text
  pub line_inside : (s : Section) (l : Piece) → Inside t l → LineInside t (line_of s l)
  line_inside s l g = parsed_inside s l (statement_of l) (statement_part l) g (statement_inside t l g)
