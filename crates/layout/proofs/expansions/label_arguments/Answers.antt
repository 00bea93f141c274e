-- `expansions::label_arguments`: the label's address, or 20.
use Rattle.std.proofs.Common.{Err}
use mathlib.Core.Path.{◌≡◌, refl, sym, ◌∙◌}
use Rattle.layout.specs.declared.refusal.Refusal.TheVariants.{UnknownLabel}
use Rattle.layout.proofs.ResultLaws.{given, missing}
use borrow.Author.Rules.{rules}
use Rattle.layout.proofs.expansions.label_arguments.Goals as goal

pub returns-in_err-a : goal.returns-in_err-a
returns-in_err-a c =
    let e : c.from_residual.result ≡ Err UnknownLabel = search rules in
    λ base σ placed. rw (e, sym (c.operand_address.ensures base σ placed) ∙ missing _ _ (sym c.ok_or.ensures.value ∙ c.in_err-a.was)) refl

pub returns : goal.returns
returns c = λ base σ placed. rw (sym (c.operand_address.ensures base σ placed) ∙ given _ _ (sym c.ok_or.ensures.value ∙ c.in_ok-a.was)) refl
