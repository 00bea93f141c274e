-- `expansions::equate_arguments`: the equate's value by the pair, or 19.
use Rattle.std.proofs.Common.{Err}
use mathlib.Core.Path.{◌≡◌, refl, sym, ap, ◌∙◌}
use mir.Syntax.{w32}
use mir.Val.{SFits}
use mir.Facts.{to_z-of_z}
use Rattle.layout.specs.Code.Numbers.{numbered}
use borrow.Author.Rules.{rules}
use Rattle.layout.proofs.expansions.equate_arguments.Goals as goal

pub returns-in_err-v : goal.returns-in_err-v
returns-in_err-v c =
    let e : c.from_residual.result ≡ Err c.in_err-v.field-0.0 = search rules in
    λ ks table. rw (e, sym (c.li_constant.ensures ks table) ∙ ap numbered c.in_err-v.was) refl

pub returns : goal.returns
returns c =
    let fit : SFits w32 c.in_ok-v.v = search rules in
    λ ks table. rw (c.bits_of_i32.ensures, to_z-of_z fit, sym (c.li_constant.ensures ks table) ∙ ap numbered c.in_ok-v.was) refl
