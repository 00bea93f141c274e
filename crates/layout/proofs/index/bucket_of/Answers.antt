-- `index::bucket_of`: what is mixed so far, with the bytes left, is the whole name's.
use Prim.Native.Nat.{◌*◌, ◌/◌}
use mathlib.Core.Path.{◌≡◌, refl}
use native.Mathlib.Omega.{arith}
use lib.ListN.{length}
use Rattle.layout.specs.Code.Index.{bucket_of}
use Rattle.layout.proofs.IndexLaws.{Mixing, mix_pair, mix_last, mix_all}
use Rattle.layout.proofs.index.bucket_of.Goals as goal
use Rattle.layout.proofs.index.bucket_of.Goals.{in-Some, in_default, After-first}

pub loop-pair-preserved : goal.loop-pair-preserved
loop-pair-preserved c =
    mix_pair c.args.name.now c.loop-pair.h c.loop-pair.pair-index c.loop-pair.invariant (rw c.as_chunks.ensures.front_len at c.loop-pair-test.true)
    _ c.as_chunks.ensures.front _ c.from_le_bytes.ensures

-- all pairs are mixed
pairs : (c : After-first) → Mixing c.args.name.now c.loop-pair.h (length c.args.name.now / 2 * 2)
pairs c =
    let all : c.loop-pair.pair-index ≡ length c.args.name.now / 2 = omega (arith, c.loop-pair-test.false, c.loop-pair.auto.pair-index-end, c.as_chunks.ensures.front_len) in
    rw all at c.loop-pair.invariant

pub returns : goal.returns
unfolding bucket_of
returns c =
    let d = (goal.at.returns c).After-first in
    elim c.match-first.branch [
      | in-Some w ↦
          rw (w.h-is, mix_last c.args.name.now c.loop-pair.h _ (pairs d) _ c.as_chunks.ensures.back (omega (arith, c.as_chunks.ensures.back_len)) _ w.in-Some.ensures.value) refl
      | in_default w ↦
          rw (w.h-is, mix_all c.args.name.now c.loop-pair.h _ (pairs d) _ c.as_chunks.ensures.back w.in_default.ensures.value) refl
    ]
