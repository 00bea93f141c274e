-- `rounds::put_found`: the record again, with value and round.
use mir.Syntax.{w64}
use mir.Val.{SFits}
use mir.Facts.{to_z-of_z}
use borrow.Author.Rules.{rules}
use Rattle.layout.proofs.rounds.put_found.Goals as goal

pub returns : goal.returns
returns c =
    let a = c.args in
    let fit : SFits w64 a.value = search rules in
    rw (to_z-of_z fit, c.get-equate.ensures) at c.put.ensures
