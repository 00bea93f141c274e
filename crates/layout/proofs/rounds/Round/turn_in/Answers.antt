-- `Round::turn_in`: the turn, or the turn of an equate that has waited.
use Rattle.layout.proofs.rounds.Round.turn_in.Goals as goal

pub turn-requires : goal.turn-requires
turn-requires c = (record { it = c.requires.0.it; stands = c.requires.0.stands.stand }, c.requires.1)

pub returns-then-self-eq1 : goal.returns-then-self-eq1
returns-then-self-eq1 c = λ names d. c.turn.ensures names d.stand

pub turn_again-requires : goal.turn_again-requires
turn_again-requires c =
    let d = c.requires.0.stands in
    (record { it = c.requires.0.it; stands = d }, c.requires.1, c.if-self-eq1.false)

pub returns : goal.returns
returns c = λ names d. c.turn_again.ensures names d
