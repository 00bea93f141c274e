-- `table::prefix_in`: the rows of the text's slot, each compared with the text's start.
use mathlib.Core.Path.{sym}
use native.Mathlib.Omega.{arith}
use borrow.Author.Rules.{rules}
use Rattle.numbers.specs.Text.{starts_with}
use Rattle.numbers.specs.Code.Tables.{row_name, prefix_slot}
use Rattle.numbers.proofs.Rows.{start_below, prefix_slot_lem, text_shorter}
use Rattle.numbers.proofs.table.prefix_in.Goals as goal

pub returns-then-s-lt3 : goal.returns-then-s-lt3
returns-then-s-lt3 c = λ rs table. sym (text_shorter c.args.s.now rs table.each c.if-s-lt3.true)

pub first_in-requires-clause-tabled : goal.first_in-requires-clause-tabled
first_in-requires-clause-tabled c = (omega (arith, c.prefix_slot.ensures, start_below c.args.s.now c.if-s-lt3.false), (prefix_slot, c.requires))

pub returns : goal.returns
returns c =
    let a = c.args in
    c.first_in.ensures prefix_slot (λ x. starts_with (row_name x) a.s.now) (rw c.prefix_slot.ensures (prefix_slot_lem a.s.now)) (λ at b fits answer. search rules)
