-- `equates::index_equates`: the index is of the names that are in.
use Prim.Native.Nat.{ℕ}
use mathlib.Core.Path.{◌≡◌, refl, ap, subst, ◌∙◌}
use native.Mathlib.Omega.{arith}
use Rattle.layout.specs.Code.Index.{Indexed, bucket_of}
use Rattle.layout.specs.Code.Tables.{equate_names}
use Rattle.layout.proofs.IndexLaws.{bucket_below}
use Rattle.layout.proofs.KnownLaws.{index_start, index_more}
use Rattle.layout.proofs.equates.index_equates.Goals as goal

pub loop-k-init : goal.loop-k-init
loop-k-init c = (refl, index_start c.args.text.now c.args.equates.now _ c.requires.3)

pub insert-requires : goal.insert-requires
insert-requires c = (rw c.bucket_of.ensures (bucket_below _), omega (arith, c.loop-k.invariant.0, c.requires.2, c.loop-k-test.true), omega (arith, c.requires.1, c.loop-k-test.true))

pub loop-k-preserved : goal.loop-k-preserved
loop-k-preserved c =
    let a = c.args in (
      c.insert.auto.index ∙ c.loop-k.invariant.0,
      rw c.insert.ensures (index_more a.text.now a.equates.now c.loop-k.index c.loop-k.k c.bucket_of.result
          (c.bucket_of.ensures ∙ ap bucket_of c.equate_name.ensures) c.loop-k.invariant.1
          (omega (arith, c.loop-k.invariant.0, c.requires.2, c.loop-k-test.true))),
    )

pub returns : goal.returns
returns c =
    let a = c.args in
    let e : c.loop-k.k ≡ a.count = omega (arith, c.loop-k-test.false) in
    subst (λ (k : ℕ). Indexed (equate_names a.text.now a.equates.now 0 k) c.loop-k.index) e c.loop-k.invariant.1
