-- `text::in_sixteen`: where fewer bytes are left, the place of the first b from there on is below sixteen all the same.
use mathlib.Core.Path.{sym}
use native.Mathlib.Omega.{arith}
use lib.ListN.{drop, length-drop}
use borrow.Author.Tests.{lt-ltb}
use Rattle.numbers.specs.Text.{index_of}
use Rattle.numbers.proofs.Places.{index_within}
use Rattle.numbers.proofs.text.in_sixteen.Goals as goal

pub returns-then-s-at : goal.returns-then-s-at
returns-then-s-at c =
    let a = c.args in
    let rest = drop a.at a.s.now in
    sym (lt-ltb (index_of a.b rest) 16 (omega (arith, index_within a.b rest, length-drop a.at a.s.now)))

pub returns-then-s-at-lt16 : goal.returns-then-s-at-lt16
returns-then-s-at-lt16 c =
    let a = c.args in
    let rest = drop a.at a.s.now in
    sym (lt-ltb (index_of a.b rest) 16 (omega (arith, index_within a.b rest, length-drop a.at a.s.now)))
