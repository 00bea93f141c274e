-- A cut line in its parts: its label and what follows it say what the definition reads in the line.
use Rattle.layout.specs.Code.Numbers.{numbered}
use Rattle.layout.specs.Code.Spans.{LineStands}
use Rattle.layout.specs.declared.refusal.Refusal.{Refusal}
use Rattle.layout.specs.declared.line.Line as code_line
use Prim.Native.Nat.{ℕ, suc, ◌+◌, ◌-◌, min, ◌≤◌, ◌<◌}
use mathlib.Core.Path.{◌≡◌, refl, sym, ap, ◌∙◌, subst}
use mathlib.Core.List.{List, [], ◌∷◌}
use mathlib.Core.Bool.{Bool, true, false, cond, true≢false}
use Rattle.std.proofs.Common.{Option, None, Some}
use native.Mathlib.Omega.{arith}
use lib.Dec.{ltb, eqb}
use lib.ListN.{length, take, drop, length-take, length-drop}
use lib.Seq.{take-take}
use borrow.Author.Tests.{lt-ltb, le-ltb, ltb-true, ltb-false, eq-eqb, eqb-true}
use Rattle.numbers.specs.declared.text.Span.{Span}
use Rattle.std.proofs.Common.{Result, Ok}
use Rattle.numbers.specs.Text.{byte, is_space, leading, leading_spaces, index_of}
use Rattle.numbers.specs.Code.Spans.{spanned}
use Rattle.numbers.proofs.Bools.{and_left, and_right}
use Rattle.numbers.proofs.Places.{index_take, index_from}
use Rattle.layout.specs.declared.state.Section.{Section}
use Rattle.layout.specs.declared.state.Section.TheVariants as section
use Rattle.layout.specs.declared.directives.Store.{Store}
use Rattle.layout.specs.declared.directives.Store.TheVariants.{Numbers, Text, Float}
use Rattle.layout.specs.declared.directives.Source.TheVariants.{Stores, String}
use Rattle.layout.specs.declared.line.OwnStatement.TheVariants.{InData}
use Rattle.layout.specs.declared.line.Statement as code
use Rattle.layout.specs.declared.line.Statement.TheVariants.{Nothing, Own}
use Rattle.layout.specs.declared.line.Labelled.{Labelled}
use Rattle.layout.specs.declared.scan.Cut.{Cut}
use Rattle.layout.specs.Pieces.{Piece, from_byte, from_place, holds}
use Rattle.layout.specs.Directives.{directives, row_in}
use Rattle.layout.specs.Statements.{OwnStatement, stores, Statement, nothing, own, is_section_line, section_line, unlabelled_of, Line, label_in, after_label}
use Rattle.layout.specs.Statements.{labelled, string_in, parsed, line_of}
use Rattle.layout.specs.Code.Steps.{Exists}
use Rattle.layout.specs.Code.Spans.{span_of, piece_at, statement_code}
use Rattle.layout.specs.Code.Cuts.{cut_line, LineCut, is_string_row, is_bare, label_by, rest_by, Parted, Follows, quote_between, ended_by, to_line_end, says_in}
use Rattle.layout.proofs.CutLaws.{cut_statement, cut_long}
use Rattle.layout.proofs.Each.{cond_has}
use Rattle.layout.proofs.StringLaws.{is_quote_first, label_found, Within, within-within, statement_part, after_part, string_elsewhere, unlabelled_stores}
use Rattle.layout.proofs.StringLaws.{string_line, elsewhere_parsed, plain-parsed, quoted_string, quoted_other, as_is, string_found, string-other}

-- ---- what says the same in its line

module _ (t : List ℕ) (c : Cut) (q : Span) where
  pub said_as_is : (x : Result Statement ℕ) → string_in (cut_line t c) x ≡ None → (r : Result code.Statement ℕ) → r ≡ statement_code x → r ≡ statement_code (says_in t c q x)
  said_as_is x e r f = rw (as_is (cut_line t c) (quote_between t c.part.start q.start) x e) f

  pub said_empty : (s : Section) → length (spanned t q) ≡ 0 → Ok Nothing ≡ statement_code (says_in t c q (unlabelled_of s (piece_at t q)))
  unfolding unlabelled_of
  said_empty s h = rw (eq-eqb (length (spanned t q)) 0 h) (said_as_is (Ok nothing) refl (Ok Nothing) refl)

-- ---- what is stored

-- a directive's name, and what follows it, in the line
pub stored_places : (t : List ℕ) (c : Cut) (q : Span) → Follows t c q → (n : ℕ) → n ≤ length (spanned t q) → (all rest : Span)
    → all ≡ span_of (piece_at t q) → rest ≡ span_of (from_byte n (piece_at t q))
    → (c.part.start ≤ all.start) × (all.start ≤ rest.start) × (rest.start ≤ c.end)
stored_places t c q f n h all rest a b = rw (a, b) (omega (arith, f.from), omega arith, omega (arith, f.to, h))

-- the operand from a place to the line's end
operand_span : (l q : Piece) (end : ℕ) → end ≡ l.at + length l.bytes → l.at ≤ q.at → q.at ≤ end
    → record { start = q.at; len = end - q.at } ≡ span_of (from_place q.at l)
operand_span l q end e a b =
    let at : l.at + (q.at - l.at) ≡ q.at = omega (arith, a) in
    let long : length (drop (q.at - l.at) l.bytes) ≡ end - q.at = omega (arith, length-drop (q.at - l.at) l.bytes, a, b, e) in
    rw (at, long) refl

module _ (t : List ℕ) (c : Cut) (part rest : Span) where
  abbrev string_said : ℕ → Span → Result code.Statement ℕ
  string_said zeros x = Ok (Own (InData (String zeros) x))

  -- no string
  pub stored_other : (x : Store) → ((zeros : ℕ) → x ≡ Text zeros → ⊥) → (q : Piece) → rest ≡ span_of q
      → Ok (Own (InData (Stores x) rest)) ≡ statement_code (says_in t c part (Ok (own (stores x q))))
  stored_other (Numbers w) h q e = rw (as_is (cut_line t c) (quote_between t c.part.start part.start) (Ok (own (stores (Numbers w) q))) refl, e) refl
  stored_other (Text zeros) h q e = absurd (h zeros refl)
  stored_other Float h q e = rw (as_is (cut_line t c) (quote_between t c.part.start part.start) (Ok (own (stores Float q))) refl, e) refl

  -- one behind a label with a quote, and any other
  pub stored_unchanged : (zeros : ℕ) → quote_between t c.part.start part.start ≡ true → (q : Piece) → rest ≡ span_of q
      → Ok (Own (InData (Stores (Text zeros)) rest)) ≡ statement_code (says_in t c part (Ok (own (stores (Text zeros) q))))
  stored_unchanged _ b q e = rw (b, e) refl

  pub stored_string : (zeros : ℕ) → LineCut t c → quote_between t c.part.start part.start ≡ false → c.at ≤ rest.start → rest.start ≤ c.end
      → (q : Piece) → rest ≡ span_of q
      → Ok (Own (InData (String zeros) (record { start = rest.start; len = c.end - rest.start })))
      ≡ statement_code (says_in t c part (Ok (own (stores (Text zeros) q))))
  stored_string zeros w b from to q e =
      let at : rest.start ≡ q.at = ap (λ (x : Span). x.start) e in
      rw (b, at)
      (ap (string_said zeros)
      (operand_span (cut_line t c) q c.end (cut_long t c w) (omega (arith, from, at)) (omega (arith, to, at))))

-- ---- a quote before what follows the label

-- white space has no quote
spaces_quoteless : (s : List ℕ) → leading_spaces s ≤ index_of (byte "\"") s
unfolding leading index_of
spaces_quoteless [] = omega arith
spaces_quoteless (x ∷ xs) = go (is_space x) refl (eqb x (byte "\"")) refl (spaces_quoteless xs)
  where
    go : (a : Bool) → is_space x ≡ a → (b : Bool) → eqb x (byte "\"") ≡ b → leading_spaces xs ≤ index_of (byte "\"") xs
        → cond a (suc (leading_spaces xs)) 0 ≤ cond b 0 (suc (index_of (byte "\"") xs))
    go true e true f ih = absurd (true≢false (sym e ∙ rw (eqb-true x (byte "\"") f) refl))
    go true e false f ih = omega (arith, ih)
    go false e b f ih = omega arith

-- how many bytes stand before what follows a statement's label, and whether they have a quote
module _ (p : Piece) where
  abbrev quote_within : ℕ → Bool
  quote_within n = ltb (index_of (byte "\"") (take n p.bytes)) (length (take n p.bytes))

  label_takes : holds (byte ":") p ≡ true
      → (after_label p p).at - p.at ≡ suc (index_of (byte ":") p.bytes) + leading_spaces (drop (suc (index_of (byte ":") p.bytes)) p.bytes)
  label_takes h = rw h (omega arith)

  quote_there : (n : ℕ) → n ≤ length p.bytes → index_of (byte "\"") p.bytes < n → quote_within n ≡ true
  quote_there n h q =
      lt-ltb (index_of (byte "\"") (take n p.bytes)) (length (take n p.bytes))
      (omega (arith, h, q, index_take (byte "\"") n p.bytes, length-take n p.bytes))

  quote_none : (n : ℕ) → n ≤ index_of (byte "\"") p.bytes → quote_within n ≡ false
  quote_none n q =
      le-ltb (index_of (byte "\"") (take n p.bytes)) (length (take n p.bytes))
      (omega (arith, q, index_take (byte "\"") n p.bytes, length-take n p.bytes))

  -- a quote before the first colon is one before what follows that
  quoted_before : is_quote_first p.bytes ≡ true → (after_label p p).at - p.at ≤ length p.bytes → quote_within ((after_label p p).at - p.at) ≡ true
  quoted_before e h =
      let found = and_left (ltb (index_of (byte ":") p.bytes) (length p.bytes)) _ e in
      let first = ltb-true (index_of (byte "\"") p.bytes) (index_of (byte ":") p.bytes) (and_right (ltb (index_of (byte ":") p.bytes) (length p.bytes)) _ e) in
      quote_there ((after_label p p).at - p.at) h (omega (arith, first, label_takes found))

  plain-before : is_quote_first p.bytes ≡ false → quote_within ((after_label p p).at - p.at) ≡ false
  plain-before e = by (holds (byte ":") p) refl
    where
      colon : ℕ
      colon = index_of (byte ":") p.bytes

      by : (b : Bool) → holds (byte ":") p ≡ b → quote_within ((after_label p p).at - p.at) ≡ false
      by true h =
          let behind = index_from (byte "\"") (suc colon) p.bytes (label_found p e h) in
          quote_none ((after_label p p).at - p.at) (omega (arith, label_takes h, behind, spaces_quoteless (drop (suc colon) p.bytes)))
      by false h = let none : (after_label p p).at - p.at ≡ 0 = rw h (omega arith) in quote_none ((after_label p p).at - p.at) (omega (arith, none))

-- ---- a string directive without a label

pub elsewhere_bare : (s : Section) (xs : List ℕ) → (s ≡ section.Data → ⊥) → false ≡ is_bare s xs
elsewhere_bare section.Text xs h = refl
elsewhere_bare section.Data xs h = absurd (h refl)
elsewhere_bare section.Bss xs h = refl

pub no_string_bare : (xs : List ℕ) → is_string_row (row_in directives xs) ≡ false → false ≡ is_bare section.Data xs
no_string_bare xs e = rw e refl

-- by the first quote among the bytes before the colon, which stands at n
pub string_bare : (xs : List ℕ) (n : ℕ) → n ≡ index_of (byte ":") xs → is_string_row (row_in directives xs) ≡ true → (m : ℕ) → m ≡ index_of (byte "\"") (take n xs)
    → ltb m n ≡ is_bare section.Data xs
string_bare xs n e f m k = rw (f, ← e, k, index_take (byte "\"") n xs) (go (ltb (index_of (byte "\"") xs) n) refl)
  where
    q : ℕ
    q = index_of (byte "\"") xs

    go : (b : Bool) → ltb q n ≡ b → ltb (min n q) n ≡ b
    go true g = lt-ltb (min n q) n (omega (arith, ltb-true q n g))
    go false g = le-ltb (min n q) n (omega (arith, ltb-false q n g))

-- ---- a line that is no section line

module _ (l p : Piece) (k : is_section_line p.bytes ≡ false) where
  elsewhere_read : (s : Section) → (s ≡ section.Data → ⊥) → (b : Bool)
      → record { label = label_in p; says = to_line_end b l (unlabelled_of s (after_label p p)) } ≡ parsed s l p
  unfolding labelled
  elsewhere_read s h b =
      let none_there = string_elsewhere l (after_label p p) s h (unlabelled_of s (after_label p p)) (unlabelled_stores s (after_label p p)) in
      rw (as_is l b (unlabelled_of s (after_label p p)) none_there) (sym (elsewhere_parsed l p k s h))

  abbrev quote_ahead : ℕ
  quote_ahead = index_of (byte "\"") p.bytes

  abbrev colon_ahead : ℕ
  colon_ahead = index_of (byte ":") p.bytes

  -- in data: a string directive without a label
  bare_read : is_bare section.Data p.bytes ≡ true → record { label = None; says = to_line_end false l (unlabelled_of section.Data p) } ≡ parsed section.Data l p
  bare_read e = by (holds (byte ":") p) refl
    where
      first : ltb quote_ahead colon_ahead ≡ true
      first = and_right (is_string_row (row_in directives p.bytes)) _ e

      x : Exists (λ y. string_in l (unlabelled_of section.Data p) ≡ Some y)
      x = string_found l p (and_left (is_string_row (row_in directives p.bytes)) _ e)

      by : (b : Bool) → holds (byte ":") p ≡ b → record { label = None; says = to_line_end false l (unlabelled_of section.Data p) } ≡ parsed section.Data l p
      by true h = rw x.stands (sym (quoted_string l p k (rw (h, first) refl) x.it x.stands))
      by false h =
          let plain = plain-parsed l p k (rw h refl) in
          rw x.stands (sym (plain ∙ rw (h, x.stands, h) refl))

  -- a label with a quote
  quoted_read : is_bare section.Data p.bytes ≡ false → is_quote_first p.bytes ≡ true
      → record { label = label_in p; says = unlabelled_of section.Data (after_label p p) } ≡ parsed section.Data l p
  unfolding labelled
  quoted_read e f = sym (quoted_other l p k f (string-other l p (by (is_string_row (row_in directives p.bytes)) refl)))
    where
      first : ltb quote_ahead colon_ahead ≡ true
      first = and_right (ltb colon_ahead (length p.bytes)) _ f

      by : (b : Bool) → is_string_row (row_in directives p.bytes) ≡ b → b ≡ false
      by true g = absurd (true≢false (sym (rw (g, first) refl) ∙ e))
      by false g = refl

  -- any other
  plain-read : is_quote_first p.bytes ≡ false
      → record { label = label_in p; says = to_line_end false l (unlabelled_of section.Data (after_label p p)) } ≡ parsed section.Data l p
  unfolding labelled
  plain-read f = by (string_in l (unlabelled_of section.Data (after_label p p))) ∙ sym (plain-parsed l p k f)
    where
      by : (o : Option OwnStatement) → record { label = label_in p; says = ended_by o (unlabelled_of section.Data (after_label p p)) } ≡ string_line section.Data p o
      by None = refl
      by (Some x) = refl

  -- so that the parts are the line's, in any section
  pub parts_read : (s : Section) (b : Bool) → b ≡ quote_within p ((rest_by s p).at - p.at) → (rest_by s p).at - p.at ≤ length p.bytes
      → record { label = label_by s p; says = to_line_end b l (unlabelled_of s (rest_by s p)) } ≡ parsed s l p
  parts_read section.Text b e h = elsewhere_read section.Text (λ x. let z : ◌≡◌ {A = ℕ} 0 1 = cc in absurd (omega arith)) b
  parts_read section.Bss b e h = elsewhere_read section.Bss (λ x. let z : ◌≡◌ {A = ℕ} 0 1 = cc in absurd (omega arith)) b
  parts_read section.Data b e h = go (is_bare section.Data p.bytes) refl e h
    where
      Reads : Bool → Type 0
      Reads x =
          b ≡ quote_within p ((cond x p (after_label p p)).at - p.at) → (cond x p (after_label p p)).at - p.at ≤ length p.bytes
          → record { label = cond x None (label_in p); says = to_line_end b l (unlabelled_of section.Data (cond x p (after_label p p))) } ≡ parsed section.Data l p

      labelled-reads : is_bare section.Data p.bytes ≡ false → (q : Bool) → is_quote_first p.bytes ≡ q → Reads false
      labelled-reads f true g e h = rw (e ∙ quoted_before p g h) (quoted_read f g)
      labelled-reads f false g e h = rw (e ∙ plain-before p g) (plain-read g)

      go : (x : Bool) → is_bare section.Data p.bytes ≡ x → Reads x
      go true f e h = let start : p.at - p.at ≡ 0 = omega arith in rw (e ∙ quote_none p (p.at - p.at) (omega (arith, start))) (bare_read f)
      go false f e h = labelled-reads f (is_quote_first p.bytes) refl e h

-- ---- a cut line

-- the text from a statement's start on is the statement's
between : (t : List ℕ) (q : Span) (n : ℕ) → n ≤ length (spanned t q) → take n (drop q.start t) ≡ take n (spanned t q)
unfolding spanned
between t q n h = sym (take-take n q.len (drop q.start t) (omega (arith, h, length-take q.len (drop q.start t))))

module _ (t : List ℕ) (c : Cut) (w : LineCut t c) where
  abbrev whole : Piece
  whole = cut_line t c

  abbrev statement : Piece
  statement = piece_at t c.part

  cut_part : Within whole statement
  cut_part = subst (Within whole) (sym (cut_statement t c w)) (statement_part whole)

  pub cut_starts : c.at ≤ c.part.start
  cut_starts = cut_part.from

  says_line : (s : Section) (l : Line) → l ≡ parsed s whole statement → (r : code_line.Line) → LineStands r l → LineStands r (line_of s whole)
  says_line s l e r h = subst (LineStands r) (e ∙ ap (parsed s whole) (cut_statement t c w)) h

  -- a section line is taken whole
  pub section_says : (s : Section) → is_section_line statement.bytes ≡ true → (says : Result code.Statement Refusal)
      → numbered says ≡ statement_code (section_line statement.bytes) → LineStands (record { label = None; says = says }) (line_of s whole)
  unfolding parsed
  section_says s e says h =
      says_line s (record { label = None; says = section_line statement.bytes }) (rw e refl) _ (record { label = refl; says = h })

  -- the label, and what follows it
  module _ (s : Section) (d : Labelled) (parts : Parted t s statement d) where
    rest_part : Within statement (rest_by s statement)
    rest_part =
        cond_has (Within statement) (is_bare s statement.bytes) _ _ (record { from = omega arith; to = omega arith }) (after_part statement statement (λ e. e))

    starts : d.rest.start ≡ (rest_by s statement).at
    starts = ap (λ (p : Piece). p.at) parts.rest

    pub follows : Follows t c d.rest
    follows =
        let in_line = within-within whole statement (rest_by s statement) cut_part rest_part in
        let long : length (spanned t d.rest) ≡ length (rest_by s statement).bytes = ap (λ (p : Piece). length p.bytes) parts.rest in
        record { from = omega (arith, starts, rest_part.from); to = omega (arith, starts, long, in_line.to, cut_long t c w) }

    pub line_says : is_section_line statement.bytes ≡ false → (says : Result code.Statement Refusal)
        → numbered says ≡ statement_code (says_in t c d.rest (unlabelled_of s (piece_at t d.rest)))
        → LineStands (record { label = d.label; says = says }) (line_of s whole)
    line_says k says e =
        let n : ℕ = (rest_by s statement).at - statement.at in
        let few : n ≤ length statement.bytes = omega (arith, rest_part.from, rest_part.to) in
        let b : Bool = quote_between t c.part.start d.rest.start in
        let same : b ≡ quote_within statement n = rw (starts, between t c.part n few) refl in
        says_line s _ (parts_read whole statement k s b same few) (record { label = d.label; says = says }) (record { label = parts.label; says = rw parts.rest at e })
