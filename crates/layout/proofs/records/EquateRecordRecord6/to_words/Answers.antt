-- `EquateRecord::to_words`: the value's bits, the four low bytes and the four high.
use mir.Syntax.{w64}
use mir.Val.{SFits}
use mir.Facts.{to_z-of_z}
use borrow.Author.Rules.{rules}
use Rattle.layout.proofs.WordLaws.{halves_put}
use Rattle.layout.proofs.records.EquateRecordRecord6.to_words.Goals as goal

pub returns : goal.returns
returns c =
    let fit : SFits w64 c.args.self.value = search rules in
    halves_put _ _ _ _ _ _ (rw (to_z-of_z fit) at c.bits_of_i64-value.ensures)
