-- `equates::index_equates`: the index is of the names that are in.
use mathlib.Core.Path.{◌≡◌}
use lib.ListN.{length}
use Rattle.layout.specs.Code.Index.{Indexed}
use Rattle.layout.specs.Code.Tables.{equate_names}
use Rattle.layout.proofs.equates.index_equates.Given as goal

abbrev pub invariant-loop-k : goal.invariant-loop-k
invariant-loop-k l = (length l.index ≡ length l.initial.index) × Indexed (equate_names l.text l.equates 0 l.k) l.index
