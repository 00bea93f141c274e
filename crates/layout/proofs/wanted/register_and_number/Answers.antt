-- `wanted::register_and_number`: the pair as it is read, and its second operand as a number.
use mathlib.Core.Path.{refl, sym, ap, ◌∙◌}
use mir.Syntax.{w32}
use mir.Val.{SFits}
use mir.Facts.{to_z-of_z}
use Rattle.numbers.specs.Code.Meanings.{register_and_read}
use Rattle.numbers.proofs.OperandLaws.{number_read}
use Rattle.layout.proofs.ResultLaws.{given}
use borrow.Author.Rules.{rules}
use Rattle.layout.proofs.wanted.register_and_number.Goals as goal

pub returns-in-Some : goal.returns-in-Some
returns-in-Some c =
    let s = c.args.s.now in
    let fit : SFits w32 c.in-Some.v = search rules in
    rw (
      to_z-of_z fit,
      sym c.register_and_operand.ensures ∙ ap (register_and_read s) (given _ _ (sym c.ok_or.ensures.value ∙ c.in_ok-rd.was)),
      number_read _ _ c.parse_imm_one_spaced.result c.parse_imm_one_spaced.ensures c.span_bytes.ensures ∙ c.in-Some.is,
    )
    refl

pub returns-in-None : goal.returns-in-None
returns-in-None c =
    let s = c.args.s.now in
    rw (
      c.anew.ensures,
      sym c.register_and_operand.ensures ∙ ap (register_and_read s) (given _ _ (sym c.ok_or.ensures.value ∙ c.in_ok-rd.was)),
      number_read _ _ c.parse_imm_one_spaced.result c.parse_imm_one_spaced.ensures c.span_bytes.ensures ∙ c.in-None.is,
    )
    refl
