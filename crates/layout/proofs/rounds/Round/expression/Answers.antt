-- `Round::expression`: what its record says.
use mathlib.Core.Path.{ap, ◌∙◌}
use Rattle.layout.proofs.TurnTables.{expr_lent, expr_bytes, expr_flag, expr_coded, expr_address}
use Rattle.layout.proofs.rounds.Round.expression.Goals as goal

pub get-expr-requires : goal.get-expr-requires
get-expr-requires c = expr_lent c.requires.0.stands c.args.k c.requires.1

pub address-requires : goal.address-requires
address-requires c = expr_coded c.requires.0.stands c.args.k c.requires.1 _ (ap (λ r. r.place) c.get-expr.ensures)

pub returns : goal.returns
returns c =
    let k = c.args.k in
    let more = c.requires.1 in
    λ scope d.
    record {
      source = (rw c.get-expr.ensures at c.span_bytes.ensures) ∙ expr_bytes d k more;
      one_space = ap (λ r. r.one_space) c.get-expr.ensures ∙ expr_flag d k more;
      here = expr_address d k more _ (ap (λ r. r.place) c.get-expr.ensures) _ c.address.ensures;
    }
