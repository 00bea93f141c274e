-- `line::assignment`: the definition makes the code's tests, and a side is empty where its span is.
use Prim.Native.Nat.{ℕ, ◌+◌, ◌-◌, ◌≤◌}
use mathlib.Core.Path.{◌≡◌, ap, sym, ◌∙◌}
use mathlib.Core.Bool.{false}
use native.Mathlib.Omega.{arith}
use lib.ListN.{length, take, drop}
use Rattle.numbers.specs.Text.{text, byte, starts_with, index_of}
use Rattle.numbers.specs.Code.Spans.{spanned}
use Rattle.layout.specs.Code.Spans.{span_of, piece_at, statement_code}
use Rattle.numbers.proofs.Places.{index_from, index_within, find_within}
use Rattle.numbers.proofs.Trims.{tail}
use Rattle.layout.proofs.SpanLaws.{whole_part}
use Rattle.layout.proofs.StatementLaws.{dot-other, unsigned-other, bare_other, signed-equate}
use borrow.Author.Rules.{rules}
use Rattle.layout.proofs.line.assignment.Goals as goal
use Rattle.layout.proofs.line.assignment.Goals.{After-part_to-whole, Else-first_is}

whole : (d : After-part_to-whole) → d.part_to-whole.result ≡ span_of (piece_at d.args.text.now d.args.part)
whole d = whole_part _ _ _ _ d.span_bytes-bytes.ensures d.part_to-whole.ensures

plain : (d : Else-first_is) → starts_with (text ".") (spanned d.args.text.now d.args.part) ≡ false
plain d = sym (rw d.span_bytes-bytes.ensures at d.first_is.ensures) ∙ d.if-first_is.false

pub returns-then-first_is : goal.returns-then-first_is
returns-then-first_is c =
    let a = c.args in
    let p = piece_at a.text.now a.part in
    let dot = sym (rw c.span_bytes-bytes.ensures at c.first_is.ensures) ∙ c.if-first_is.true in
    c.other_in.ensures p (whole (goal.at.returns-then-first_is c).After-part_to-whole) ∙ ap statement_code (sym (dot-other a.section p dot))

-- no sign stands before the byte that it is looked for from
bounded : (d : Else-first_is) → d.args.from ≤ index_of (byte "=") d.span_bytes-bytes.result.now
bounded d = rw d.span_bytes-bytes.ensures d.requires

pub slice_bounds-find-count : goal.slice_bounds-find-count
slice_bounds-find-count c = omega (arith, bounded c, index_within (byte "=") c.span_bytes-bytes.result.now)

pub slice_bounds-find-start : goal.slice_bounds-find-start
slice_bounds-find-start c = omega (arith, bounded c, index_within (byte "=") c.span_bytes-bytes.result.now)

pub overflow_add-sign : goal.overflow_add-sign
overflow_add-sign c =
    let s = c.span_bytes-bytes.result.now in
    let below : c.args.from ≤ length s = omega (arith, bounded (goal.at.overflow_add-sign c).Else-first_is, index_within (byte "=") s) in
    let h = find_within (byte "=") s _ c.find.result below c.find.ensures in
    search rules

-- so the one that is found from there is the first
sign : (d : Else-first_is) (n : ℕ)
    → n ≡ index_of (byte "=") (take (length d.span_bytes-bytes.result.now - d.args.from) (drop d.args.from d.span_bytes-bytes.result.now))
    → d.args.from + n ≡ index_of (byte "=") (spanned d.args.text.now d.args.part)
sign d n e =
    rw (← d.span_bytes-bytes.ensures, e, tail)
    (index_from _ _ _ (bounded d))

pub returns-then-bytes-sign : goal.returns-then-bytes-sign
returns-then-bytes-sign c =
    let a = c.args in
    let s = c.span_bytes-bytes.ensures in
    let p = piece_at a.text.now a.part in
    let other = unsigned-other a.section p (a.from + c.find.result) (sign (goal.at.returns-then-bytes-sign c).Else-first_is _ c.find.ensures) (plain (goal.at.returns-then-bytes-sign c).Else-first_is) (rw s at c.if-bytes-sign.true) in
    c.other_in-then-bytes-sign.ensures p (whole (goal.at.returns-then-bytes-sign c).After-part_to-whole) ∙ ap statement_code (sym other)

pub returns-then-name-expr : goal.returns-then-name-expr
returns-then-name-expr c =
    let a = c.args in
    let s = c.span_bytes-bytes.ensures in
    let p = piece_at a.text.now a.part in
    let sides = rw (c.trim_to-name.ensures, c.trim_from-expr.ensures) at c.if-name-expr.true in
    let other = bare_other a.section p (a.from + c.find.result) (sign (goal.at.returns-then-name-expr c).Else-first_is _ c.find.ensures) (plain (goal.at.returns-then-name-expr c).Else-first_is) (rw s at c.if-bytes-sign.false) sides in
    c.other_in-then-name-expr.ensures p (whole (goal.at.returns-then-name-expr c).After-part_to-whole) ∙ ap statement_code (sym other)

pub returns : goal.returns
returns c =
    let a = c.args in
    let s = c.span_bytes-bytes.ensures in
    let p = piece_at a.text.now a.part in
    let sides = rw (c.trim_to-name.ensures, c.trim_from-expr.ensures) at c.if-name-expr.false in
    let equate = signed-equate a.section p (a.from + c.find.result) (sign (goal.at.returns c).Else-first_is _ c.find.ensures) (plain (goal.at.returns c).Else-first_is) (rw s at c.if-bytes-sign.false) sides in
    c.equate_of.ensures _ _ c.trim_to-name.ensures
    c.trim_from-expr.ensures ∙ ap statement_code (sym equate)
