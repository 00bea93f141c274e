-- `Round::turn_again`: 15, or what its sum comes to from where it had come to.
use native.Mathlib.Omega.{arith}
use Rattle.layout.specs.Code.Terms.{sum_on}
use Rattle.layout.proofs.KnownLaws.{equates_lent}
use Rattle.layout.proofs.TurnTables.{value_told, evaluated_told, gives_known, again_summed}
use Rattle.layout.proofs.rounds.Round.turn_again.Goals as goal

pub name-requires : goal.name-requires
name-requires c = omega (arith, equates_lent c.requires.0.stands.stand.names.equates.rows, c.requires.1)

pub is_constant-requires : goal.is_constant-requires
is_constant-requires c = record { it = c.requires.0.it.known; stands = c.requires.0.stands.stand.names.equates }

pub expression-requires : goal.expression-requires
expression-requires c = (record { it = c.requires.0.it; stands = c.requires.0.stands.stand }, c.requires.1)

pub sum_terms-requires : goal.sum_terms-requires
sum_terms-requires c = record { it = c.requires.0.it; stands = c.requires.0.stands.stand.names }

pub returns-then-is_constant : goal.returns-then-is_constant
returns-then-is_constant c =
    λ names d.
    gives_known names _ (d.waited c.requires.2).no_label
    (value_told d.stand c.args.k c.requires.1 _ c.name.ensures _ _ (c.is_constant.ensures names.known d.stand.names.equates) c.if-is_constant.true)

pub returns : goal.returns
returns c =
    let a = c.args.k in
    λ names d.
    again_summed names _ c.args.from (d.waited c.requires.2)
    (value_told d.stand a c.requires.1 _ c.name.ensures _ _ (c.is_constant.ensures names.known d.stand.names.equates) c.if-is_constant.false)
    _
    (evaluated_told (c.expression.ensures names d.stand) (λ one_space x here. sum_on one_space x here c.args.from) _ (c.sum_terms.ensures names d.stand.names))
