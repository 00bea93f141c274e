-- `labels::add_label`: the label takes the place of one of its name, or is one more.
use mathlib.Core.Path.{refl, ap, ◌∙◌}
use native.Mathlib.Omega.{arith}
use Prim.Native.Nat.{ℕ, ◌*◌}
use mathlib.Core.List.{List}
use Rattle.layout.specs.Bytes.{put}
use Rattle.layout.specs.Limits.{label_size}
use Rattle.layout.specs.Code.Index.{bucket_of}
use Rattle.layout.specs.Code.Stands.{label_store}
use Rattle.layout.proofs.IndexLaws.{bucket_below}
use Rattle.layout.proofs.LabelLaws.{labels_indexed, label_written, label_fits, label_known, label_new, label-full}
use borrow.Author.Rules.{rules}
use Rattle.layout.proofs.labels.add_label.Goals as goal

pub find_in-requires : goal.find_in-requires
find_in-requires c = (labels_indexed c.requires.0.stands c.requires.2.0, c.bucket_of-bucket.ensures)

pub put-requires : goal.put-requires
put-requires c = omega (arith, c.requires.0.stands.counted, c.requires.0.stands.fits.few, c.requires.0.stands.lent, rw c.in-Some.is at c.find_in.ensures.1)

pub returns-then-room-count : goal.returns-then-room-count
returns-then-room-count c =
    let a = c.args in
    λ ls h. label-full a.text.now a.room a.count (label_store a.labels.now a.index.now) (label_store a.labels.now a.index.now) _ c.requires.2.0
    (label_fits a.text.now a.name a.place a.line c.requires.3 c.requires.1 c.requires.2.1) refl ls h
    (rw (c.in-None.is, c.span_bytes-bytes.ensures) at c.find_in.ensures.0) c.if-room-count.true

pub insert-requires : goal.insert-requires
insert-requires c =
    let stand = c.requires.0.stands in
    let left = c.if-room-count.false in
    (rw c.bucket_of-bucket.ensures (bucket_below _), omega (arith, stand.room, stand.limit, left), omega (arith, stand.limit, left))

pub returns-in-Some : goal.returns-in-Some
returns-in-Some c =
    let a = c.args in
    λ ls h. label_known a.text.now a.room a.count (label_store a.labels.now a.index.now) _ _ c.requires.2.0
    (label_fits a.text.now a.name a.place a.line c.requires.3 c.requires.1 c.requires.2.1) (search rules) ls h _
    (rw (c.in-Some.is, c.span_bytes-bytes.ensures) at c.find_in.ensures.0)
    (c.put.ensures ∙ ap (λ (bs : List ℕ). put (c.in-Some.k * label_size) bs a.labels.now) (label_written a.text.now a.name a.place a.line c.requires.3 _ c.code.ensures))
    refl

pub returns-else-room-count : goal.returns-else-room-count
returns-else-room-count c =
    let a = c.args in
    let bytes = c.span_bytes-bytes.ensures in
    λ ls h. label_new a.text.now a.room a.count (label_store a.labels.now a.index.now) _ _ c.requires.2.0
    (label_fits a.text.now a.name a.place a.line c.requires.3 c.requires.1 c.requires.2.1) (search rules) ls h
    (rw (c.in-None.is, bytes) at c.find_in.ensures.0)
    c.if-room-count.false
    (c.put-in-None.ensures ∙ ap (λ (bs : List ℕ). put (a.count * label_size) bs a.labels.now) (label_written a.text.now a.name a.place a.line c.requires.3 _ c.code.ensures))
    _ (c.bucket_of-bucket.ensures ∙ ap bucket_of bytes) c.insert.ensures
