-- `line::unlabelled`: an empty statement says nothing, and what has no row is no directive.
use mathlib.Core.Path.{◌≡◌, ap, sym, ◌∙◌}
use lib.ListN.{length}
use Prim.Native.Nat.{ℕ}
use Rattle.std.proofs.Common.{Result}
use Rattle.numbers.specs.Code.Spans.{spanned}
use Rattle.layout.specs.Statements.{Statement, assignment_of}
use Rattle.layout.specs.Code.Spans.{piece_at, statement_code}
use Rattle.layout.specs.Code.Cuts.{says_in}
use Rattle.layout.proofs.StatementLaws.{rowless_other, directive_said}
use Rattle.layout.proofs.StringLaws.{assignment_stringless}
use Rattle.layout.proofs.LineLaws.{said_as_is, said_empty}
use Rattle.layout.proofs.line.unlabelled.Goals as goal
use Rattle.layout.proofs.line.unlabelled.Goals.{Else-bytes-eq0}

some_bytes : (d : Else-bytes-eq0) → length (spanned d.args.text.now d.args.part) ≡ 0 → ⊥
some_bytes d = rw d.span_bytes-bytes.ensures at d.if-bytes-eq0.false

pub returns-then-bytes-eq0 : goal.returns-then-bytes-eq0
returns-then-bytes-eq0 c =
    let a = c.args in
    said_empty a.text.now a.cut a.part a.section (rw c.span_bytes-bytes.ensures at c.if-bytes-eq0.true)

pub returns-in-Some : goal.returns-in-Some
returns-in-Some c =
    let a = c.args in
    let row = rw (c.span_bytes-bytes.ensures, c.in-Some.is) at c.directive_of.ensures.0 in
    c.directive_in.ensures ∙ ap (λ (x : Result Statement ℕ). statement_code (says_in a.text.now a.cut a.part x)) (sym (directive_said a.section (piece_at a.text.now a.part) (some_bytes (goal.at.returns-in-Some c).Else-bytes-eq0) _ row))

pub returns-in-None : goal.returns-in-None
returns-in-None c =
    let a = c.args in
    let no_row = rw (c.span_bytes-bytes.ensures, c.in-None.is) at c.directive_of.ensures.0 in
    said_as_is a.text.now a.cut a.part (assignment_of a.section (piece_at a.text.now a.part)) (assignment_stringless _ a.section _) _ c.assignment.ensures
    ∙ ap (λ (x : Result Statement ℕ). statement_code (says_in a.text.now a.cut a.part x)) (sym (rowless_other a.section (piece_at a.text.now a.part) (some_bytes (goal.at.returns-in-None c).Else-bytes-eq0) no_row))
