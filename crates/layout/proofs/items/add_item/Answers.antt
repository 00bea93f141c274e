-- `items::add_item`: 48, then 44, or the record after those that are there.
use mathlib.Core.Path.{refl}
use Rattle.layout.proofs.ItemLaws.{item_many, item-full, item_goes}
use Rattle.layout.proofs.items.add_item.Goals as goal

pub returns-then-room-count : goal.returns-then-room-count
returns-then-room-count c = item_many _ _ _ _ c.args.items.now _ _ _ c.if-room-count.true

pub returns-then-room-words : goal.returns-then-room-words
returns-then-room-words c = item-full _ _ _ _ c.args.items.now _ _ _ _ (rw c.span_bytes.ensures at c.reserved_words.ensures) c.if-room-count.false c.if-room-words.true

pub returns : goal.returns
returns c =
    item_goes _ _ _ _ _ _ _ _ _ (rw c.span_bytes.ensures at c.reserved_words.ensures) c.if-room-count.false c.if-room-words.false c.requires.1.1 c.requires.2
    _ c.item_kind.ensures _ refl c.put.ensures
