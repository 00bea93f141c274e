-- `operands::register_and_operand`: an operand, the only one after it, and the first read as a register.
use mathlib.Core.Path.{refl, sym, ap, ◌∙◌}
use Rattle.numbers.specs.Code.Meanings.{register_number, only_read}
use Rattle.numbers.proofs.OperandLaws.{operands_end, operands_next, register-read}
use Rattle.numbers.proofs.operands.register_and_operand.Goals as goal

pub returns : goal.returns
returns c =
    let s = c.args.s.now in
    rw (
      operands_next s _ _ _ (sym c.item_operand_at.ensures ∙ c.in_ok-first.was),
      sym c.only_operand.ensures ∙ ap (only_read s) c.in_ok-last.was,
      register-read _ _ c.parse_reg.result c.parse_reg.ensures c.span_bytes.ensures ∙ ap register_number c.in_ok-r.was,
    )
    refl

pub returns-in_err-first : goal.returns-in_err-first
returns-in_err-first c = let s = c.args.s.now in rw (c.from_residual.ensures, operands_end s _ (sym c.item_operand_at.ensures ∙ c.in_err-first.was)) refl

pub returns-in_err-last : goal.returns-in_err-last
returns-in_err-last c =
    let s = c.args.s.now in
    rw (
      c.from_residual-in_err-last.ensures,
      operands_next s _ _ _ (sym c.item_operand_at.ensures ∙ c.in_ok-first.was),
      sym c.only_operand.ensures ∙ ap (only_read s) c.in_err-last.was,
    )
    refl

pub returns-in_err-r : goal.returns-in_err-r
returns-in_err-r c =
    let s = c.args.s.now in
    rw (
      c.from_residual-in_err-r.ensures,
      operands_next s _ _ _ (sym c.item_operand_at.ensures ∙ c.in_ok-first.was),
      sym c.only_operand.ensures ∙ ap (only_read s) c.in_ok-last.was,
      register-read _ _ c.parse_reg.result c.parse_reg.ensures c.span_bytes.ensures ∙ ap register_number c.in_err-r.was,
    )
    refl
