-- `table::first_in`: the invariant says that the row found from here on is the row found from the slot's first.
use Prim.Native.Nat.{◌+◌, ◌*◌, ◌≤◌}
use mathlib.Core.Path.{refl, sym, ◌∙◌}
use mathlib.Core.Bool.{true}
use native.Mathlib.Omega.{arith}
use borrow.Author.Rules.{rules}
use lib.ListN.{length}
use Rattle.numbers.proofs.Rows.{slots_fit, walk_fits, walk_found, turn-here, turn_next, turn_end}
use Rattle.numbers.proofs.table.first_in.Goals as goal
use Rattle.numbers.proofs.table.first_in.Goals.{After-wide-end}

pub bounds-table-slot : goal.bounds-table-slot
bounds-table-slot g c = omega (arith, c.requires.tabled.0, slots_fit _ _ c.requires.tabled.1.1)

pub bounds-table-slot-2 : goal.bounds-table-slot-2
bounds-table-slot-2 g c = omega (arith, c.requires.tabled.0, slots_fit _ _ c.requires.tabled.1.1)

-- the slot's rows are in the table
fits : (g : _) (d : After-wide-end g) → 65 + d.wide-end.result * 16 ≤ length d.args.table.now
fits g d =
    let a = d.args in
    walk_fits _ a.table.now (λ _. true) a.slot d.requires.tabled.0 a.slot _ _ refl d.wide-first.ensures.0 d.wide-end.ensures.0 d.requires.tabled.1.1

pub is-requires : goal.is-requires
is-requires g c =
    let inside : c.row_place-at.result + 16 ≤ length c.args.table.now = omega (arith, c.row_place-at.ensures, c.loop-row-test.true, fits g (goal.at.is-requires g c).After-wide-end) in
    let may = c.requires.callable _ inside in
    search rules

pub returns-then-is : goal.returns-then-is
returns-then-is g c = λ of test only tests rs table.
    let a = c.args in
    let d = (goal.at.returns-then-is g c).After-wide-end in
    let inside : c.row_place-at.result + 16 ≤ length a.table.now = omega (arith, c.row_place-at.ensures, c.loop-row-test.true, fits g d) in
    turn-here test a.table.now c.loop-row.row _ _ c.row_place-at.ensures c.loop-row-test.true (sym (tests _ _ inside c.is.ensures) ∙ c.if-is.true)
    ∙ c.loop-row.invariant test tests
    ∙ walk_found of a.table.now test a.slot c.requires.tabled.0 a.slot _ _ refl c.wide-first.ensures.0 c.wide-end.ensures.0 only rs table

pub loop-row-preserved : goal.loop-row-preserved
loop-row-preserved g c = λ test tests.
    let a = c.args in
    let d = (goal.at.loop-row-preserved g c).After-wide-end in
    let inside : c.row_place-at.result + 16 ≤ length a.table.now = omega (arith, c.row_place-at.ensures, c.loop-row-test.true, fits g d) in
    turn_next test a.table.now c.loop-row.row _ _ c.row_place-at.ensures c.loop-row-test.true (sym (tests _ _ inside c.is.ensures) ∙ c.if-is.false)
    ∙ c.loop-row.invariant test tests

pub returns : goal.returns
returns g c = λ of test only tests rs table.
    let a = c.args in
    turn_end test a.table.now c.loop-row.row _ c.loop-row-test.false
    ∙ c.loop-row.invariant test tests
    ∙ walk_found of a.table.now test a.slot c.requires.tabled.0 a.slot _ _ refl c.wide-first.ensures.0 c.wide-end.ensures.0 only rs table
