-- `Record::get`: each word behind those before it.
use mathlib.Core.Path.{◌∙◌}
use Rattle.std.proofs.lemmas.List.{length-set}
use Rattle.layout.proofs.WordLaws.{word_read}
use Rattle.layout.proofs.records.Record.get.Goals as goal

pub loop-i-preserved : goal.loop-i-preserved
loop-i-preserved g c =
    let v = c.loop-i.invariant in
    let words = c.loop-i.word-items in
    let word = c.get_u32.result in
    (length-set words c.loop-i.i word ∙ v.0, word_read _ _ _ word words (rw v.0 c.loop-i-test.true) v.1 c.get_u32.ensures)
