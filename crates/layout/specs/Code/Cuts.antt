-- A line as one scan cuts it: its end, its statement, the first mark in that, and its parts.
use Rattle.std.specs.Prelude.{ℕ, ◌+◌, ◌-◌, ◌≤◌, ◌≡◌, List, Bool, true, false, cond, ◌&&◌, ◌||◌, ltb, eqb, length, take, drop}
use Rattle.std.specs.Prelude.{Option, None, Some}
use Rattle.numbers.specs.declared.text.Span.{Span}
use Rattle.std.specs.Prelude.{Result, Ok}
use Rattle.numbers.specs.Text.{byte, index_of}
use Rattle.numbers.specs.Code.Spans.{spanned}
use Rattle.layout.specs.declared.state.Section.{Section}
use Rattle.layout.specs.declared.state.Section.TheVariants as section
use Rattle.layout.specs.declared.scan.Cut.{Cut}
use Rattle.layout.specs.declared.directives.Store.TheVariants.{Numbers, Text, Float}
use Rattle.layout.specs.declared.directives.Directive.{Directive}
use Rattle.layout.specs.declared.directives.Directive.TheVariants as directive
use Rattle.layout.specs.declared.line.Labelled.{Labelled}
use Rattle.layout.specs.Bytes.{count_before}
use Rattle.layout.specs.Pieces.{Piece, statement_of}
use Rattle.layout.specs.Directives.{Row, directives, row_in}
use Rattle.layout.specs.Statements.{OwnStatement, Statement, own, label_in, after_label, string_in}
use Rattle.layout.specs.Code.Spans.{span_of, piece_at, line_at, label_part_of}

-- a byte that ends a statement: LF, `;` or `#`
abbrev pub is_stop : ℕ → Bool
is_stop b = (eqb b 10 || eqb b (byte ";")) || eqb b (byte "#")

-- a byte that parts a statement: `:` or `=`
abbrev pub is_mark : ℕ → Bool
is_mark b = eqb b (byte ":") || eqb b (byte "=")

-- one of the five
abbrev pub is_cut : ℕ → Bool
is_cut b = is_stop b || is_mark b

-- the line that a cut names
abbrev pub cut_line : List ℕ → Cut → Piece
cut_line t c = line_at t c.at c.end

-- it runs from its place to the next LF; its part is its statement's, and its mark says how many bytes of that stand before the first mark
pub record LineCut (t : List ℕ) (c : Cut) : Type 0 where
  pub within : c.at ≤ length t
  pub ends : c.end ≡ c.at + index_of 10 (drop c.at t)
  pub statement : c.part ≡ span_of (statement_of (cut_line t c))
  pub marked : c.mark ≡ count_before is_mark (statement_of (cut_line t c)).bytes

-- ---- a statement in its parts

-- no `=` stands among the first n bytes
abbrev pub NoSignBefore : ℕ → List ℕ → Type 0
NoSignBefore n s = n ≤ index_of (byte "=") s

-- is it a string directive?
abbrev pub is_text : Directive → Bool
is_text directive.Symbol = false
is_text directive.Ignored = false
is_text directive.Equate = false
is_text (directive.Reserves x) = false
is_text (directive.Stores (Numbers w)) = false
is_text (directive.Stores (Text zeros)) = true
is_text (directive.Stores Float) = false

abbrev pub is_string_row : Option Row → Bool
is_string_row None = false
is_string_row (Some r) = is_text r.directive

-- in data: does a statement begin with a string directive, and has it a quote before its first colon? That colon ends no label then
abbrev pub is_bare : Section → List ℕ → Bool
is_bare section.Text s = false
is_bare section.Data s = is_string_row (row_in directives s) && ltb (index_of (byte "\"") s) (index_of (byte ":") s)
is_bare section.Bss s = false

-- its label, if its first colon ends one, and what follows that
abbrev pub label_by : Section → Piece → Option Piece
label_by s p = cond (is_bare s p.bytes) None (label_in p)

abbrev pub rest_by : Section → Piece → Piece
rest_by s p = cond (is_bare s p.bytes) p (after_label p p)

-- the label and the part that follows it, by their pieces, and from where in that a `=` is looked for
pub record Parted (t : List ℕ) (s : Section) (p : Piece) (r : Labelled) : Type 0 where
  pub label : r.label ≡ label_part_of (label_by s p)
  pub rest : piece_at t r.rest ≡ rest_by s p
  pub from : NoSignBefore r.from (rest_by s p).bytes

-- a part of a cut line, from its statement's start on
pub record Follows (t : List ℕ) (c : Cut) (q : Span) : Type 0 where
  pub from : c.part.start ≤ q.start
  pub to : q.start + length (spanned t q) ≤ c.end

-- ---- a string in its line

-- has the text a quote from one place to another?
abbrev pub quote_between : List ℕ → ℕ → ℕ → Bool
quote_between t from to = ltb (index_of (byte "\"") (take (to - from) (drop from t))) (length (take (to - from) (drop from t)))

abbrev pub ended_by : Option OwnStatement → Result Statement ℕ → Result Statement ℕ
ended_by None x = x
ended_by (Some y) x = Ok (own y)

-- what a statement says in a line: a string's operand runs to the line's end, but behind a label with a quote
abbrev pub to_line_end : Bool → Piece → Result Statement ℕ → Result Statement ℕ
to_line_end true l x = x
to_line_end false l x = ended_by (string_in l x) x

-- what a part of a cut line says
abbrev pub says_in : List ℕ → Cut → Span → Result Statement ℕ → Result Statement ℕ
says_in t c q x = to_line_end (quote_between t c.part.start q.start) (cut_line t c) x
