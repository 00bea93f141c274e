-- `Round::turn`: 14, 15, then the expression's evaluation.
use native.Mathlib.Omega.{arith}
use Rattle.layout.specs.Code.Terms.{evaluation_of}
use Rattle.layout.proofs.AddressLaws.{placed_indexed}
use Rattle.layout.proofs.KnownLaws.{equates_lent}
use Rattle.layout.proofs.TurnTables.{label_told, value_told, evaluated_told, gives_label, gives_known, gives_evaluated}
use Rattle.layout.proofs.rounds.Round.turn.Goals as goal

pub name-name-requires : goal.name-name-requires
name-name-requires c = omega (arith, equates_lent c.requires.0.stands.names.equates.rows, c.requires.1)

pub contains-requires : goal.contains-requires
contains-requires c = placed_indexed c.requires.0.stands.names.labels

pub is_constant-requires : goal.is_constant-requires
is_constant-requires c = record { it = c.requires.0.it.known; stands = c.requires.0.stands.names.equates }

pub evaluate-requires : goal.evaluate-requires
evaluate-requires c = record { it = c.requires.0.it; stands = c.requires.0.stands.names }

pub returns-then-contains : goal.returns-then-contains
returns-then-contains c =
    λ names d.
    gives_label names _
    (label_told d c.args.k c.requires.1 _ c.name-name.ensures _ _ (c.contains.ensures names.base names.state d.names.labels) c.if-contains.true)

pub returns-then-is_constant : goal.returns-then-is_constant
returns-then-is_constant c =
    λ names d.
    gives_known names _
    (label_told d c.args.k c.requires.1 _ c.name-name.ensures _ _ (c.contains.ensures names.base names.state d.names.labels) c.if-contains.false)
    (value_told d c.args.k c.requires.1 _ c.name-name.ensures _ _ (c.is_constant.ensures names.known d.names.equates) c.if-is_constant.true)

pub returns : goal.returns
returns c =
    let a = c.args.k in
    λ names d.
    gives_evaluated names _
    (label_told d a c.requires.1 _ c.name-name.ensures _ _ (c.contains.ensures names.base names.state d.names.labels) c.if-contains.false)
    (value_told d a c.requires.1 _ c.name-name.ensures _ _ (c.is_constant.ensures names.known d.names.equates) c.if-is_constant.false)
    _
    (evaluated_told (c.expression.ensures names d) evaluation_of _ (c.evaluate.ensures names d.names))
