-- `emit::emit_items`: what is emitted so far, carried on over the items that are left, is what all of them emit.
use Rattle.std.proofs.Common.{Ok, Err}
use mathlib.Core.Path.{◌≡◌, refl}
use native.Mathlib.Omega.{arith}
use Rattle.layout.proofs.EmitSteps.{emit-first, emit-low, emit-within, emit_ends, emit_lent, item_record_fits, emit_coded, emit_stops, emit_more, emit_goes}
use Rattle.layout.proofs.ResultLaws.{refused_there}
use Rattle.layout.proofs.ByteLaws.{length_mid}
use borrow.Author.Rules.{rules}
use Rattle.layout.proofs.emit.emit_items.Goals as goal

pub loop-k-init : goal.loop-k-init
loop-k-init c = emit-first

pub get-item-requires : goal.get-item-requires
get-item-requires c = emit_lent c.requires c.loop-k.invariant c.loop-k-test.true

pub offset_bounds-words-at : goal.offset_bounds-words-at
offset_bounds-words-at c = omega (arith, emit-low c.requires c.loop-k.invariant)

pub slice_bounds-emit_item-count : goal.slice_bounds-emit_item-count
slice_bounds-emit_item-count c = omega (arith, emit-within c.requires c.loop-k.invariant)

pub slice_bounds-emit_item-start : goal.slice_bounds-emit_item-start
slice_bounds-emit_item-start c = omega (arith, emit-within c.requires c.loop-k.invariant)

pub emit_item-requires : goal.emit_item-requires
emit_item-requires c =
    let u = c.requires in
    let inv = c.loop-k.invariant in (
      record { it = u.scope; stands = u.names },
      item_record_fits u inv c.loop-k-test.true c.get-item.result c.get-item.ensures _ (length_mid _ c.loop-k.words),
    )

pub address-requires : goal.address-requires
address-requires c = emit_coded c.requires c.loop-k.invariant c.loop-k-test.true c.get-item.result c.get-item.ensures

pub overflow_cast-emitted : goal.overflow_cast-emitted
overflow_cast-emitted c = omega (arith, emit-low c.requires c.loop-k.invariant)

pub put-requires : goal.put-requires
put-requires c = emit_lent c.requires c.loop-k.invariant c.loop-k-test.true

pub overflow_add-at : goal.overflow_add-at
overflow_add-at c =
    let q : c.emit_item.result ≡ Ok c.in_ok-n.n = search rules in omega (arith, emit_more c.requires c.loop-k.invariant c.loop-k-test.true c.get-item.result c.get-item.ensures _ _ _ (rw q at c.emit_item.ensures))

pub loop-k-preserved : goal.loop-k-preserved
loop-k-preserved c =
    let inv = c.loop-k.invariant in
    let more = c.loop-k-test.true in
    let q : c.emit_item.result ≡ Ok c.in_ok-n.n = search rules in
    record {
      within = omega (arith, more);
      items_sized = search rules;
      words_sized = search rules;
      emitting = λ u. emit_goes u inv more c.get-item.result c.get-item.ensures _ _ _ (rw q at c.emit_item.ensures) refl _ c.address.ensures _ c.put.auto.table c.put.ensures;
    }

pub returns-in_err-n : goal.returns-in_err-n
returns-in_err-n c =
    let e : c.from_residual.result ≡ Err c.in_err-n.field-0.0 = search rules in
    let q = refused_there c.get-item.result.line (λ f d h. search rules) c.emit_item.result c.map_err.result c.in_err-n.field-0.0 c.map_err.ensures.cases c.in_err-n.was in
    λ u. rw (e, q.1)
    (emit_stops u c.loop-k.invariant c.loop-k-test.true c.get-item.result c.get-item.ensures c.loop-k.words c.loop-k.words _ (rw q.0 at c.emit_item.ensures) c.loop-k.items c.loop-k.words)

pub returns : goal.returns
returns c = λ u. emit_ends u c.loop-k.invariant c.loop-k-test.false
