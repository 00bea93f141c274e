-- `line::section_of`: the definition makes the code's tests in the code's order.
use mathlib.Core.Path.{sym, ◌∙◌, refl}
use borrow.Author.Tests.{eq-eqb, ne_eqb}
use Rattle.layout.specs.Statements.{section_of}
use Rattle.numbers.proofs.Trims.{tail}
use Rattle.layout.proofs.StatementLaws.{dotted, undotted}
use Rattle.layout.proofs.line.section_of.Goals as goal

pub returns-then-name-eq0 : goal.returns-then-name-eq0
unfolding section_of
returns-then-name-eq0 c = rw (eq-eqb _ _ c.if-name-eq0.true) refl

pub returns-then-same_bytes : goal.returns-then-same_bytes
unfolding section_of
returns-then-same_bytes c = rw (ne_eqb _ _ c.if-name-eq0.false, ← c.same_bytes.ensures, c.if-same_bytes.true) refl

pub returns-then-first_is : goal.returns-then-first_is
unfolding section_of
returns-then-first_is c =
    let dot = dotted _ (sym c.first_is.ensures ∙ c.if-first_is.true) in
    rw (c.section_named.ensures, tail, ne_eqb _ _ c.if-name-eq0.false, ← c.same_bytes.ensures, c.if-same_bytes.false, dot) refl

pub returns : goal.returns
unfolding section_of
returns c =
    let plain = undotted _ (sym c.first_is.ensures ∙ c.if-first_is.false) in
    rw (c.section_named-2.ensures, ne_eqb _ _ c.if-name-eq0.false, ← c.same_bytes.ensures, c.if-same_bytes.false, plain) refl
