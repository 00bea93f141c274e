-- `emit::emit_item`: the line's kind is the item's, read back from its record.
use Prim.Native.Nat.{◌≤◌}
use native.Mathlib.Omega.{arith}
use mathlib.Core.Path.{◌∙◌}
use Rattle.layout.proofs.PseudoLaws.{kind_small, item_told}
use Rattle.layout.proofs.emit.emit_item.Goals as goal

pub emit_line-requires : goal.emit_line-requires
emit_line-requires c =
    let pre = c.requires in
    let item = pre.1.stands in
    let few : c.args.item.kind ≤ 9 = omega (arith, item.kind, kind_small pre.1.it) in
    (pre.0, rw (item_told c.numbered.result pre.1.it (c.numbered.ensures few ∙ item.kind)) item.room)

pub returns : goal.returns
returns c =
    λ names stand x e.
    let few : c.args.item.kind ≤ 9 = omega (arith, e, kind_small x) in
    rw (item_told c.numbered.result x (c.numbered.ensures few ∙ e)) at (c.emit_line.ensures names stand)
