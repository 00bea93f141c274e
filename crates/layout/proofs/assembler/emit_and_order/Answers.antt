-- `assembler::emit_and_order`: the items' words, and the labels in order, make the layout whole.
use mathlib.Core.Path.{◌≡◌, ap}
use mathlib.Core.List.{[]}
use borrow.Author.Rules.{rules}
use Rattle.std.proofs.Common.{Err}
use Rattle.layout.specs.Code.Numbers.{numbered_at}
use Rattle.layout.specs.Code.Calls.{buffers}
use Rattle.layout.proofs.CallLaws.{starts_ready, order_room, symbols_found, unemitted_stands, emit-stop, emit_go}
use Rattle.layout.proofs.assembler.emit_and_order.Goals as goal

pub of-starts-requires : goal.of-starts-requires
of-starts-requires c = starts_ready c.requires.read

pub emit_items-requires : goal.emit_items-requires
emit_items-requires c = let s = c.requires in unemitted_stands s.read (symbols_found s.read _ _ _ _ _ s.found) _ c.of-starts.ensures

pub order_labels-requires : goal.order_labels-requires
order_labels-requires c = let s = c.requires in (record { it = _; stands = (symbols_found s.read _ _ _ _ _ s.found).stands.labels.table }, order_room s.read)

pub returns : goal.returns
returns c =
    let of = c.of-starts.ensures in
    λ s.
    let y = symbols_found s.read _ _ _ _ _ s.found in
    emit_go s.read y _ of _ _ _ _ (c.order_labels.ensures _ y.stands.labels.table)
    (rw (ap numbered_at c.in_ok-count.was) at (c.emit_items.ensures (unemitted_stands s.read y _ of)))

pub returns-in_err-count : goal.returns-in_err-count
returns-in_err-count c =
    let of = c.of-starts.ensures in
    let e : c.from_residual.result ≡ Err c.in_err-count.field-0.0 = search rules in
    λ s.
    let y = symbols_found s.read _ _ _ _ _ s.found in
    rw e (emit-stop s.read y _ of c.emit_items.new.items c.emit_items.new.words _ (rw (ap numbered_at c.in_err-count.was) at (c.emit_items.ensures (unemitted_stands s.read y _ of))) (buffers [] [] [] [] []))
