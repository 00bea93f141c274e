-- `line::equate_of`: a piece is empty where its span is.
use mathlib.Core.Path.{refl}
use Rattle.layout.specs.Statements.{equate_of}
use Rattle.layout.proofs.line.equate_of.Goals as goal

pub returns-then-name-expr : goal.returns-then-name-expr
unfolding equate_of
returns-then-name-expr c = λ n e p q. rw (rw (p, q) at c.if-name-expr.true) refl

pub returns : goal.returns
unfolding equate_of
returns c = λ n e p q. rw (p, q, rw (p, q) at c.if-name-expr.false) refl
