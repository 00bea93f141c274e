-- `Record::put`: each word behind those before it.
use native.Mathlib.Omega.{arith}
use mathlib.Core.Path.{refl, ◌∙◌}
use borrow.Author.Rules.{rules}
use Rattle.layout.proofs.WordLaws.{none_put, word_put}
use Rattle.layout.proofs.records.Record.put.Goals as goal

pub loop-i-init : goal.loop-i-init
loop-i-init g c = (refl, none_put _ _)

pub loop-i-preserved : goal.loop-i-preserved
loop-i-preserved g c =
    let v = c.loop-i.invariant in
    (c.put_u32.auto.buf ∙ v.0, word_put _ c.loop-i.i c.to_words-words.result _ _ _ (search rules) (omega (arith, c.requires, c.loop-i-test.true)) v.1 c.put_u32.ensures)
