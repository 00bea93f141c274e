-- `data::next_number`: a short number, or the operand at a place, by its own span in the text.
use Rattle.std.proofs.Common.{Some, Err}
use mathlib.Core.Path.{◌≡◌, sym, ap, ◌∙◌}
use mir.Syntax.{w64}
use mir.Val.{SFits}
use mir.Facts.{to_z-of_z}
use Rattle.numbers.specs.Code.Spans.{spanned}
use Rattle.numbers.specs.Code.Cursors.{operand_at}
use Rattle.numbers.proofs.Shorts.{short_means}
use Rattle.numbers.proofs.Parts.{operand_bounds}
use Rattle.layout.specs.declared.data.Readings.TheVariants.{Numbers}
use Rattle.layout.specs.Directives.{operand_write}
use Rattle.layout.specs.Code.Writes.{NextIs}
use Rattle.layout.proofs.SpanLaws.{part_within, part_same}
use Rattle.layout.proofs.ReadingLaws.{next_code, operand_first, operand_none, short_first}
use borrow.Author.Rules.{rules}
use Rattle.layout.proofs.data.next_number.Goals as goal
use Rattle.layout.proofs.data.next_number.Goals.{After-number_write, In-Some-operand_at, After-operand_write}

-- the number, short or refused, is next
short : (d : After-number_write)
    → NextIs d.args.text.now (Numbers d.args.width) (spanned d.args.text.now d.args.part) d.args.at (next_code d.number_write.result d.in-Some.after)
short d =
    let t = d.args.text.now in
    let z = d.signed.result in
    let f : SFits w64 z = search rules in
    let short = short_means _ _ _ _ (rw d.span_bytes-bytes.ensures at (sym d.short_number.ensures ∙ d.in-Some.is)) in
    let operand = spanned (spanned t d.args.part) short.operand in
    let is = rw (to_z-of_z f) at (d.number_write.ensures t operand) in
    short_first _ _ _ _ _ short d.args.width z d.number_write.result (d.signed.ensures operand short.reads) is.0 is.1

pub returns-in_err-number_write : goal.returns-in_err-number_write
returns-in_err-number_write c =
    let e : c.from_residual.result ≡ Err c.in_err-number_write.field-0.0 = search rules in
    rw e (rw c.in_err-number_write.was at (short (goal.at.returns-in_err-number_write c).After-number_write))

pub returns-in-Some : goal.returns-in-Some
returns-in-Some c = rw c.in_ok-number_write.was at (short (goal.at.returns-in-Some c).After-number_write)

-- the operand that is found
found : (d : In-Some-operand_at)
    → operand_at
    (spanned d.args.text.now d.args.part)
    d.args.at ≡ Some (d.in-Some-operand_at.operand, d.in-Some-operand_at.after)
found d =
    rw d.span_bytes-bytes.ensures at
    (sym d.operand_at.ensures ∙ d.in-Some-operand_at.is)

pub returns-in_default-operand_at : goal.returns-in_default-operand_at
returns-in_default-operand_at c =
    operand_none c.args.width _ _
    (rw c.span_bytes-bytes.ensures at (sym c.operand_at.ensures ∙ c.in_default-operand_at.is))

pub part_in-place-requires : goal.part_in-place-requires
part_in-place-requires c = (c.requires, (operand_bounds _ _ _ _ (found c)).0)

pub operand_write-requires : goal.operand_write-requires
operand_write-requires c = part_within _ _ _ _ (operand_bounds _ _ _ _ (found (goal.at.operand_write-requires c).In-Some-operand_at)).0 c.part_in-place.ensures c.requires

-- the operand, read or refused, is next
operand : (d : After-operand_write)
    → NextIs d.args.text.now (Numbers d.args.width) (spanned d.args.text.now d.args.part) d.args.at
    (next_code d.operand_write.result d.in-Some-operand_at.after)
operand d =
    let here = sym d.operand_at.ensures ∙ d.in-Some-operand_at.is in
    let there = rw d.span_bytes-bytes.ensures at here in
    let within = (operand_bounds _ _ _ _ there).0 in
    operand_first _ _ _ _ _ there d.args.width d.operand_write.result
    (d.operand_write.ensures.0 ∙ ap (operand_write d.args.width) (part_same _ _ _ _ within d.part_in-place.ensures))
    d.operand_write.ensures.1

pub returns-in_err-operand_write : goal.returns-in_err-operand_write
returns-in_err-operand_write c =
    let e : c.from_residual-in_err-operand_write.result ≡ Err c.in_err-operand_write.field-0.0 = search rules in
    rw e (rw c.in_err-operand_write.was at (operand (goal.at.returns-in_err-operand_write c).After-operand_write))

pub returns : goal.returns
returns c = rw c.in_ok-operand_write.was at (operand (goal.at.returns c).After-operand_write)
