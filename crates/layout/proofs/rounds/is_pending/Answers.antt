-- `rounds::is_pending`: by the round in the record.
use mathlib.Core.Path.{ap}
use lib.Dec.{eqb}
use Rattle.layout.proofs.rounds.is_pending.Goals as goal

pub returns : goal.returns
returns c = ap (λ r. eqb r.round 0) c.get.ensures
