-- `line::directive_in`: each directive's own answer.
use mathlib.Core.Path.{refl}
use lib.ListN.{drop}
use Rattle.numbers.specs.Code.Spans.{spanned}
use Rattle.numbers.proofs.Trims.{tail}
use Rattle.layout.specs.Pieces.{trim_piece, from_byte}
use Rattle.layout.specs.Statements.{symbol_after, equ_of}
use Rattle.layout.specs.Code.Spans.{piece_at}
use Rattle.layout.proofs.SpanLaws.{trim_from_back}
use Rattle.layout.proofs.StringLaws.{symbol_stringless, equ_stringless}
use Rattle.layout.proofs.LineLaws.{said_as_is}
use Rattle.layout.proofs.line.directive_in.Goals as goal

pub returns-in-Symbol : goal.returns-in-Symbol
returns-in-Symbol c =
    let a = c.args in
    let rest = drop a.spelling.len (spanned a.text.now a.part) in
    rw c.in-Symbol.is
    (said_as_is a.text.now a.cut a.part (symbol_after rest) (symbol_stringless _ rest) _ (rw (c.symbol.ensures, tail, c.span_bytes-bytes.ensures) refl))

pub returns-in-Equate : goal.returns-in-Equate
returns-in-Equate c =
    let a = c.args in
    let rest = trim_piece (from_byte a.spelling.len (piece_at a.text.now a.part)) in
    rw c.in-Equate.is
    (said_as_is a.text.now a.cut a.part (equ_of rest) (equ_stringless _ rest) _ (rw (c.equ_of.ensures, c.trim_from.ensures, trim_from_back _ _ _ c.requires.2) refl))
