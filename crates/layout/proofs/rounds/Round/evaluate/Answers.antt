-- `Round::evaluate`: the turn, and one evaluation more.
use mathlib.Core.Path.{refl}
use Rattle.layout.proofs.rounds.Round.evaluate.Goals as goal

pub returns : goal.returns
returns c = λ names d. record { gives = c.turn_in.ensures names d; counted = refl }
