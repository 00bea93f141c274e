-- `line::symbol`: the definition makes the code's test.
use mathlib.Core.Path.{refl}
use borrow.Author.Tests.{eq-eqb, ne_eqb}
use Rattle.layout.specs.Statements.{symbol_after}
use Rattle.layout.proofs.line.symbol.Goals as goal

pub returns-then-trim-eq0 : goal.returns-then-trim-eq0
unfolding symbol_after
returns-then-trim-eq0 c = rw (← c.trim.ensures, eq-eqb _ _ c.if-trim-eq0.true) refl

pub returns : goal.returns
unfolding symbol_after
returns c = rw (← c.trim.ensures, ne_eqb _ _ c.if-trim-eq0.false) refl
