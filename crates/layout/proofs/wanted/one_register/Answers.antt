-- `wanted::one_register`: the only operand, read as a register.
use Rattle.std.proofs.Common.{Err}
use mathlib.Core.Path.{◌≡◌, refl, sym, ap, ◌∙◌}
use Rattle.numbers.specs.Code.Meanings.{register_number, only_read}
use Rattle.numbers.proofs.OperandLaws.{register-read}
use Rattle.layout.specs.declared.refusal.Refusal.TheVariants.{WrongOperands}
use borrow.Author.Rules.{rules}
use Rattle.layout.proofs.ResultLaws.{given, missing}
use Rattle.layout.proofs.wanted.one_register.Goals as goal

pub returns-in_err-rd : goal.returns-in_err-rd
returns-in_err-rd c =
    let s = c.args.s.now in
    let e : c.from_residual-in_err-rd.result ≡ Err WrongOperands = search rules in
    rw (
      e,
      sym c.only_operand.ensures ∙ ap (only_read s) (given _ _ (sym c.ok_or.ensures.value ∙ c.in_ok-one.was)),
      register-read _ _ c.parse_reg.result c.parse_reg.ensures c.span_bytes.ensures ∙ ap register_number (missing _ _ (sym c.ok_or-2.ensures.value ∙ c.in_err-rd.was)),
    )
    refl

pub returns : goal.returns
returns c =
    let s = c.args.s.now in
    rw (
      sym c.only_operand.ensures ∙ ap (only_read s) (given _ _ (sym c.ok_or.ensures.value ∙ c.in_ok-one.was)),
      register-read _ _ c.parse_reg.result c.parse_reg.ensures c.span_bytes.ensures ∙ ap register_number (given _ _ (sym c.ok_or-2.ensures.value ∙ c.in_ok-rd.was)),
    )
    refl
