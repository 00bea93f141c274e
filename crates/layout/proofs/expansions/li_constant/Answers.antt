-- `expansions::li_constant`: an equate's value, after the test for a quote and before that for 32 bits.
use Rattle.std.proofs.Common.{Err}
use mathlib.Core.Path.{◌≡◌, refl, sym, ◌∙◌}
use mathlib.Core.Bool.{Bool, true, false}
use lib.IntN.{ℤ}
use mir.Syntax.{w64}
use mir.Val.{SFits, to_z, of_z}
use mir.Facts.{to_z-of_z}
use Rattle.numbers.specs.Ints.{is_signed32}
use Rattle.numbers.proofs.Integers.{signed32_fits}
use Rattle.numbers.proofs.SpacedNumbers.{quote_spaced}
use Rattle.layout.specs.Expansions.{li_constant}
use Rattle.layout.specs.declared.refusal.Refusal.TheVariants.{UnknownConstant}
use Rattle.layout.proofs.ResultLaws.{given, missing}
use borrow.Author.Rules.{rules}
use Rattle.layout.proofs.expansions.li_constant.Goals as goal
use Rattle.layout.proofs.expansions.li_constant.Goals.{After-in_signed32}

pub returns-then-first_is : goal.returns-then-first_is
returns-then-first_is c = λ ks table. rw (li_constant, quote_spaced _ ∙ sym c.first_is.ensures ∙ c.if-first_is.true) refl

pub returns-in_err-v : goal.returns-in_err-v
returns-in_err-v c =
    let e : c.from_residual.result ≡ Err UnknownConstant = search rules in
    λ ks table. rw (
      li_constant,
      e,
      quote_spaced _ ∙ sym c.first_is.ensures ∙ c.if-first_is.false,
      sym (c.operand_constant.ensures ks table) ∙ missing _ _ (sym c.ok_or.ensures.value ∙ c.in_err-v.was),
    )
    refl

-- the value that is found, and the test of it
module _ (c : After-in_signed32) where
  abbrev v : ℤ
  v = c.in_ok-v.v

  read : to_z w64 (of_z w64 v) ≡ v
  read = to_z-of_z (let f : SFits w64 v = search rules in f)

  tested : (b : Bool) → c.in_signed32.result ≡ b → is_signed32 v ≡ b
  tested b e = rw read at (sym c.in_signed32.ensures ∙ e)

pub overflow_cast-result : goal.overflow_cast-result
overflow_cast-result c = rw (read (goal.at.overflow_cast-result c).After-in_signed32) (signed32_fits (v (goal.at.overflow_cast-result c).After-in_signed32) (tested (goal.at.overflow_cast-result c).After-in_signed32 true c.if-in_signed32.true))

pub returns-then-in_signed32 : goal.returns-then-in_signed32
returns-then-in_signed32 c =
    let small = tested (goal.at.returns-then-in_signed32 c).After-in_signed32 true c.if-in_signed32.true in
    λ ks table. rw (
      li_constant,
      read (goal.at.returns-then-in_signed32 c).After-in_signed32,
      to_z-of_z (signed32_fits (v (goal.at.returns-then-in_signed32 c).After-in_signed32) small),
      quote_spaced _ ∙ sym c.first_is.ensures ∙ c.if-first_is.false,
      sym (c.operand_constant.ensures ks table) ∙ given _ _ (sym c.ok_or.ensures.value ∙ c.in_ok-v.was),
      small,
    )
    refl

pub returns : goal.returns
returns c =
    λ ks table. rw (
      li_constant,
      quote_spaced _ ∙ sym c.first_is.ensures ∙ c.if-first_is.false,
      sym (c.operand_constant.ensures ks table) ∙ given _ _ (sym c.ok_or.ensures.value ∙ c.in_ok-v.was),
      tested (goal.at.returns c).After-in_signed32 false c.if-in_signed32.false,
    )
    refl
