-- `literals::parse_char_lit`: the code's tests are the definition's, in its order.
use mathlib.Core.Path.{ap}
use Rattle.std.proofs.Common.{Some}
use native.Mathlib.Omega.{arith}
use mir.Syntax.{w32}
use mir.Facts.{to_z_pos}
use borrow.Author.Rules.{sfits_of}
use borrow.Author.Tests.{eq-eqb, ne_eqb}
use Rattle.numbers.specs.Literals.{char_lit_of}
use Rattle.numbers.proofs.literals.parse_char_lit.Goals as goal

pub overflow_cast-result : goal.overflow_cast-result
overflow_cast-result c = sfits_of (omega (arith, c.type_inv.s 1))

pub returns-then-s-c : goal.returns-then-s-c
unfolding char_lit_of
returns-then-s-c c = simp (c.if-s-c.true, eq-eqb _ _ c.if-s-eq3.true) (ap Some (to_z_pos w32 (omega (arith, c.type_inv.s 1))))

pub returns-then-s-eq3 : goal.returns-then-s-eq3
unfolding char_lit_of
returns-then-s-eq3 c = simp (c.if-s-c.false, eq-eqb _ _ c.if-s-eq3.true)

pub returns-then-s : goal.returns-then-s
unfolding char_lit_of
returns-then-s c = simp (c.escape.ensures, c.if-s.true, eq-eqb _ _ c.if-s-eq4.true, ne_eqb _ _ c.if-s-eq3.false)

pub returns-then-s-eq4 : goal.returns-then-s-eq4
unfolding char_lit_of
returns-then-s-eq4 c = simp (c.if-s.false, eq-eqb _ _ c.if-s-eq4.true, ne_eqb _ _ c.if-s-eq3.false)

pub returns : goal.returns
unfolding char_lit_of
returns c = simp (ne_eqb _ _ c.if-s-eq4.false, ne_eqb _ _ c.if-s-eq3.false)
