use native.Mathlib.Omega.{arith}
use lib.ListN.{length-set}
use Rattle.layout.proofs.index.insert.Goals as goal

pub bounds-index-bucket-2 : goal.bounds-index-bucket-2
bounds-index-bucket-2 c = simp length-set (omega arith)
