-- `operands::only_operand`: one operand, and none from the place after it on.
use mathlib.Core.Path.{refl, sym, ◌∙◌}
use Rattle.numbers.proofs.OperandLaws.{operands_end, operands_next}
use Rattle.numbers.proofs.operands.only_operand.Goals as goal

pub returns-in-Some : goal.returns-in-Some
returns-in-Some c =
    let s = c.args.s.now in
    rw (
      operands_next s _ _ _ (sym c.item_operand_at.ensures ∙ c.in_ok-one.was),
      operands_next s _ _ _ (sym c.item_operand_at-2.ensures ∙ c.in-Some.is),
    )
    refl

pub returns-in-None : goal.returns-in-None
returns-in-None c =
    let s = c.args.s.now in
    rw (
      operands_next s _ _ _ (sym c.item_operand_at.ensures ∙ c.in_ok-one.was),
      operands_end s _ (sym c.item_operand_at-2.ensures ∙ c.in-None.is),
    )
    refl

pub returns-in_err-one : goal.returns-in_err-one
returns-in_err-one c = let s = c.args.s.now in rw (c.from_residual.ensures, operands_end s _ (sym c.item_operand_at.ensures ∙ c.in_err-one.was)) refl
