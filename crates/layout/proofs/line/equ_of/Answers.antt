-- `line::equ_of`: the definition parts the piece where the code parts its span.
use mathlib.Core.Path.{ap, sym, ◌∙◌}
use Rattle.layout.specs.Code.Spans.{piece_at, statement_code}
use Rattle.layout.proofs.SpanLaws.{count_within}
use Rattle.layout.proofs.StatementLaws.{equ_comma, equ_blank}
use Rattle.layout.proofs.line.equ_of.Goals as goal

pub returns-then-comma-bytes : goal.returns-then-comma-bytes
returns-then-comma-bytes c =
    let a = c.args in
    let s = c.span_bytes-bytes.ensures in
    let p = piece_at a.text.now a.part in
    let parted = equ_comma p c.find-comma.result (rw s at c.find-comma.ensures) (rw s at c.if-comma-bytes.true) in
    c.equate_of.ensures _ _ c.trim_to-name.ensures c.trim_from-expr.ensures ∙ ap statement_code (sym parted)

pub trim_from-expr-requires-2 : goal.trim_from-expr-requires-2
trim_from-expr-requires-2 c = rw (← c.span_bytes-bytes.ensures, c.word_len-blank.ensures) (count_within _ _)

pub part_to-requires : goal.part_to-requires
part_to-requires c = rw (← c.span_bytes-bytes.ensures, c.word_len-blank.ensures) (count_within _ _)

pub returns : goal.returns
returns c =
    let a = c.args in
    let s = c.span_bytes-bytes.ensures in
    let p = piece_at a.text.now a.part in
    let parted = equ_blank p c.find-comma.result c.word_len-blank.result (rw s at c.find-comma.ensures) (rw s at c.if-comma-bytes.false) (rw s at c.word_len-blank.ensures) in
    c.equate_of-2.ensures _ _ c.part_to.ensures c.trim_from-expr-2.ensures ∙ ap statement_code (sym parted)
