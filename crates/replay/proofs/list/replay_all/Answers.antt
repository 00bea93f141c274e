-- `list::replay_all`: one line more, by what the test says of it.
use Rattle.std.proofs.Common.{◌++◌, [], ◌∷◌, arith, rules, length-append}
use Rattle.std.proofs.lemmas.Fn.{FoldsTo-push}
use Rattle.replay.proofs.list.replay_all.Goals as goal

pub loop-preserved : goal.loop-preserved
loop-preserved g c =
    let lines = c.loop.invariant.0 in
    let line = c.span_bytes.result in (
      lines ++ (line.now ∷ []),
      FoldsTo-push _ _ lines _ line.now _ c.loop.invariant.1 (c.agrees.result, search rules, c.with-tally.ensures),
      omega (arith, length-append lines (line.now ∷ []), c.loop.invariant.2),
    )
