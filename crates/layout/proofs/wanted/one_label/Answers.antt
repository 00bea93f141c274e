-- `wanted::one_label`: the only operand, where it reads as no register.
use mathlib.Core.Path.{refl, sym, ap, ◌∙◌}
use Rattle.numbers.specs.Code.Meanings.{register_number, only_read}
use Rattle.numbers.proofs.OperandLaws.{register-read}
use Rattle.layout.proofs.ResultLaws.{given}
use Rattle.layout.proofs.wanted.one_label.Goals as goal

pub returns-in-Some : goal.returns-in-Some
returns-in-Some c =
    let s = c.args.s.now in
    rw (
      sym c.only_operand.ensures ∙ ap (only_read s) (given _ _ (sym c.ok_or.ensures.value ∙ c.in_ok-one.was)),
      register-read _ _ c.parse_reg.result c.parse_reg.ensures c.span_bytes.ensures ∙ ap register_number c.in-Some.is,
    )
    refl

pub returns-in-None : goal.returns-in-None
returns-in-None c =
    let s = c.args.s.now in
    rw (
      sym c.only_operand.ensures ∙ ap (only_read s) (given _ _ (sym c.ok_or.ensures.value ∙ c.in_ok-one.was)),
      register-read _ _ c.parse_reg.result c.parse_reg.ensures c.span_bytes.ensures ∙ ap register_number c.in-None.is,
    )
    refl
