-- `directives::directive_of`: the row that is found, by the columns of the table that is lent.
use Rattle.std.proofs.Common.{Some}
use Prim.Native.Nat.{ℕ, ◌+◌, ◌≤◌}
use mathlib.Core.Path.{◌≡◌, refl, sym, ◌∙◌}
use mathlib.Core.List.{map}
use native.Mathlib.Omega.{arith}
use lib.ListN.{length}
use Rattle.numbers.specs.Text.{starts_with}
use Rattle.numbers.specs.Code.Tables.{row_name, first, found_row}
use Rattle.layout.specs.Directives.{directives}
use Rattle.layout.specs.Code.Rows.{directive_row}
use Rattle.layout.proofs.DirectiveLaws.{directives_small, row_past, row_room, directive_few, row_here, no_row}
use Rattle.layout.proofs.directives.directive_of.Goals as goal
use Rattle.layout.proofs.directives.directive_of.Goals.{After-prefix_in}

pub returns-then-not-first_is : goal.returns-then-not-first_is
returns-then-not-first_is c = rw (no_row c.args.s.now (sym c.first_is.ensures ∙ c.if-not-first_is.true)) (refl, tt)

-- what is found, and that it lies in the table
found : (d : After-prefix_in) → found_row d.args.names.now.rows d.prefix_in.result
    ≡ first (λ x. starts_with (row_name x) d.args.s.now) (map directive_row directives)
found d = d.prefix_in.ensures (map directive_row directives) d.args.names.now.named

room : (d : After-prefix_in) (at : ℕ) → d.prefix_in.result ≡ Some at → at + 16 ≤ length d.args.names.now.rows
room d = row_room directives d.args.names.now.rows d.args.s.now directives_small d.prefix_in.result (found d)

pub returns-in_err-at : goal.returns-in_err-at
returns-in_err-at c =
    let a = c.args in
    rw c.from_residual.ensures (row_past directives a.names.now.rows a.s.now directives_small c.prefix_in.result (found (goal.at.returns-in_err-at c).After-prefix_in) c.in_err-at.was)

pub overflow_add-at : goal.overflow_add-at
overflow_add-at c = omega (arith, room (goal.at.overflow_add-at c).After-prefix_in _ c.in_ok-at.was)

pub bounds-names-at : goal.bounds-names-at
bounds-names-at c = omega (arith, room (goal.at.bounds-names-at c).After-prefix_in _ c.in_ok-at.was)

pub numbered-requires : goal.numbered-requires
numbered-requires c =
    let a = c.args in
    directive_few directives a.names.now.rows a.s.now directives_small c.prefix_in.result (found (goal.at.numbered-requires c).After-prefix_in) _ c.in_ok-at.was

pub overflow_add-result : goal.overflow_add-result
overflow_add-result c = omega (arith, room (goal.at.overflow_add-result c).After-prefix_in _ c.in_ok-at.was)

pub bounds-names-at-2 : goal.bounds-names-at-2
bounds-names-at-2 c = omega (arith, room (goal.at.bounds-names-at-2 c).After-prefix_in _ c.in_ok-at.was)

pub overflow_add-result-2 : goal.overflow_add-result-2
overflow_add-result-2 c = omega (arith, room (goal.at.overflow_add-result-2 c).After-prefix_in _ c.in_ok-at.was)

pub bounds-names-at-3 : goal.bounds-names-at-3
bounds-names-at-3 c = omega (arith, room (goal.at.bounds-names-at-3 c).After-prefix_in _ c.in_ok-at.was)

pub returns : goal.returns
returns c =
    let a = c.args in
    row_here directives a.names.now.rows a.s.now directives_small c.prefix_in.result (found (goal.at.returns c).After-prefix_in) _ c.in_ok-at.was
    _ c.numbered.ensures
