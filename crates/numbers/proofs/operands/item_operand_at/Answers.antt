-- `operands::item_operand_at`: the definition makes the code's steps; the separators lie within the text, so the sum fits.
use mathlib.Core.Path.{refl, sym}
use native.Mathlib.Omega.{arith}
use lib.ListN.{drop, length-drop}
use Rattle.numbers.specs.Code.Cursors.{is_separator, item_operand_at}
use Rattle.numbers.proofs.Trims.{tail, leading-within}
use Rattle.numbers.proofs.Parts.{item_past}
use Rattle.numbers.proofs.operands.item_operand_at.Goals as goal

pub returns-then-s-at : goal.returns-then-s-at
returns-then-s-at c = sym (item_past _ _ c.if-s-at.true)

pub overflow_add-at : goal.overflow_add-at
overflow_add-at c =
    let a = c.args in
    omega (arith, simp tail at c.leading_separators-separators.ensures, leading-within is_separator (drop a.at a.s.now), length-drop a.at a.s.now)

pub returns : goal.returns
unfolding item_operand_at
returns c = rw (c.item_operand_here.ensures, c.leading_separators-separators.ensures, tail) refl
