-- How the code names a piece of the text: by its span; and a line's label and statement, by the spans of their pieces.
use Rattle.std.specs.Prelude.{◌≡◌, ℕ, ◌+◌, ◌-◌, ◌≤◌, ◌<◌, List, length, take, drop}
use Rattle.std.specs.Prelude.{◌≡◌, Option, None, Some}
use Rattle.std.specs.Prelude.{◌≡◌, Result, Ok, Err}
use Rattle.numbers.specs.declared.text.Span.{Span}
use Rattle.numbers.specs.Code.Spans.{spanned}
use Rattle.layout.specs.declared.state.Place.{Place}
use Rattle.layout.specs.declared.directives.Source.TheVariants as source
use Rattle.layout.specs.declared.line.EquateParts.{EquateParts}
use Rattle.layout.specs.declared.line.OwnStatement as own_statement
use Rattle.layout.specs.declared.line.OwnStatement.TheVariants as own_kind
use Rattle.layout.specs.declared.line.Statement as code
use Rattle.layout.specs.declared.line.Statement.TheVariants as kind
use Rattle.layout.specs.declared.line.Line as line
use Rattle.layout.specs.Limits.{text_limit}
use Rattle.layout.specs.Pieces.{Piece, piece}
use Rattle.layout.specs.Statements.{OwnStatement, item, stores, string, reserves, reserves_bss, Statement, nothing, enters, equate, own, Line}
use Rattle.layout.specs.State.{Equate}
use Rattle.layout.specs.Code.Rows.{SourceFits}
use Rattle.layout.specs.Code.Numbers.{numbered}

abbrev pub span_of : Piece → Span
span_of p = record { start = p.at; len = length p.bytes }

-- the piece of the text at a span; the line that stands from one place to another
abbrev pub piece_at : List ℕ → Span → Piece
piece_at t q = piece q.start (spanned t q)

abbrev pub line_at : List ℕ → ℕ → ℕ → Piece
line_at t at end = piece at (take (end - at) (drop at t))

-- a span within the text; a line of a text that is not too long
abbrev pub SpanWithin : List ℕ → Span → Type 0
SpanWithin t q = q.start + q.len ≤ length t

abbrev pub LineIn : List ℕ → ℕ → Type 0
LineIn t line = (length t ≤ text_limit) × (line < length t)

-- ---- statements

abbrev pub own_code : OwnStatement → own_statement.OwnStatement
own_code (item p) = own_kind.Item (span_of p)
own_code (stores x p) = own_kind.InData (source.Stores x) (span_of p)
own_code (string zeros p) = own_kind.InData (source.String zeros) (span_of p)
own_code (reserves x p) = own_kind.InData (source.Reserves x) (span_of p)
own_code (reserves_bss x p) = own_kind.ReservesBss x (span_of p)

abbrev pub statement_code : Result Statement ℕ → Result code.Statement ℕ
statement_code (Ok nothing) = Ok kind.Nothing
statement_code (Ok (enters s)) = Ok (kind.Enters s)
statement_code (Ok (equate n e)) = Ok (kind.Equate (record { name = span_of n; expr = span_of e.source; one_space = e.one_space }))
statement_code (Ok (own s)) = Ok (kind.Own (own_code s))
statement_code (Err n) = Err n

-- and back, where its spans lie within the text
abbrev pub own_at : List ℕ → own_statement.OwnStatement → OwnStatement
own_at t (own_kind.Item q) = item (piece_at t q)
own_at t (own_kind.InData (source.Stores x) q) = stores x (piece_at t q)
own_at t (own_kind.InData (source.String zeros) q) = string zeros (piece_at t q)
own_at t (own_kind.InData (source.Reserves x) q) = reserves x (piece_at t q)
own_at t (own_kind.ReservesBss x q) = reserves_bss x (piece_at t q)

abbrev pub statement_at : List ℕ → code.Statement → Statement
statement_at t kind.Nothing = nothing
statement_at t (kind.Enters s) = enters s
statement_at t (kind.Equate e) =
    equate (piece_at t e.name) (record { source = piece_at t e.expr; one_space = e.one_space })
statement_at t (kind.Own s) = own (own_at t s)

-- an equate by its parts
abbrev pub equate_at : List ℕ → Place → ℕ → EquateParts → Equate
equate_at t place line e =
    record {
      name = piece_at t e.name;
      expr = record { source = piece_at t e.expr; one_space = e.one_space };
      place = place;
      line = line;
    }

abbrev pub OwnWithin : List ℕ → own_statement.OwnStatement → Type 0
OwnWithin t (own_kind.Item q) = SpanWithin t q
OwnWithin t (own_kind.InData x q) = SourceFits x × SpanWithin t q
OwnWithin t (own_kind.ReservesBss x q) = SpanWithin t q

abbrev pub StatementWithin : List ℕ → code.Statement → Type 0
StatementWithin t kind.Nothing = Unit
StatementWithin t (kind.Enters s) = Unit
StatementWithin t (kind.Equate e) = SpanWithin t e.name × SpanWithin t e.expr
StatementWithin t (kind.Own s) = OwnWithin t s

-- ---- labels and lines

abbrev pub label_part_of : Option Piece → Option Span
label_part_of None = None
label_part_of (Some p) = Some (span_of p)

abbrev pub label_part_at : List ℕ → Option Span → Option Piece
label_part_at t None = None
label_part_at t (Some q) = Some (piece_at t q)

abbrev pub LabelWithin : List ℕ → Option Span → Type 0
LabelWithin t (Some q) = SpanWithin t q
LabelWithin t None = Unit

-- a line's label and what it says
pub record LineStands (r : line.Line) (l : Line) : Type 0 where
  pub label : r.label ≡ label_part_of l.label
  pub says : numbered r.says ≡ statement_code l.says
