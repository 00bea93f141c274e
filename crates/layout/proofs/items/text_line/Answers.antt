-- `items::text_line`: an item of its kind, whose span is the line's own, or 21.
use mathlib.Core.Path.{◌≡◌, ap}
use Rattle.std.proofs.Common.{Err}
use borrow.Author.Rules.{rules}
use Rattle.layout.specs.Code.Numbers.{numbered}
use Rattle.layout.proofs.ItemLaws.{text-item, text-other}
use Rattle.layout.proofs.items.text_line.Goals as goal

pub returns-in_err-pseudo : goal.returns-in_err-pseudo
returns-in_err-pseudo c =
    let e : c.from_residual.result ≡ Err c.in_err-pseudo.field-0.0 = search rules in
    rw e (text-other _ _ _ (rw c.span_bytes.ensures at c.kind_of.ensures) _ _ _ c.args.items.now _ _ (ap numbered c.in_err-pseudo.was))

pub returns : goal.returns
returns c =
    text-item _ _ _ (rw c.span_bytes.ensures at c.kind_of.ensures) _ _ _ _ _ c.add_item.result _ (ap numbered c.in_ok-pseudo.was)
    c.add_item.ensures
