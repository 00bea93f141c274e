-- `table::word_in`: the rows of the word's slot, each compared with the word.
use native.Mathlib.Omega.{arith}
use borrow.Author.Rules.{rules}
use Rattle.numbers.specs.Text.{same}
use Rattle.numbers.specs.Code.Tables.{row_name, slot_of}
use Rattle.numbers.proofs.Rows.{slot_below, word_slot}
use Rattle.numbers.proofs.table.word_in.Goals as goal

pub first_in-requires-clause-tabled : goal.first_in-requires-clause-tabled
first_in-requires-clause-tabled c = (omega (arith, c.slot_of.ensures, slot_below c.args.word.now), (slot_of, c.requires.0))

pub returns : goal.returns
returns c =
    let a = c.args in
    c.first_in.ensures slot_of (λ x. same (row_name x) a.word.now) (rw c.slot_of.ensures (word_slot a.word.now)) (λ at b fits answer. search rules)
