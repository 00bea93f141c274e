-- `index::bucket_of`: what is mixed so far, with the bytes left, is the whole name's.
use Prim.Native.Nat.{◌*◌}
use Rattle.layout.proofs.IndexLaws.{Mixing}
use Rattle.layout.proofs.index.bucket_of.Given as goal

abbrev pub invariant-loop-pair : goal.invariant-loop-pair
invariant-loop-pair l = Mixing l.fn.name l.h (l.pair-index * 2)
