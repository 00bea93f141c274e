-- `Record::get`: the words so far are read.
use mathlib.Core.Path.{◌≡◌}
use lib.ListN.{length, take}
use Rattle.layout.specs.Code.Tables.{words_at}
use Rattle.layout.proofs.records.Record.get.Given as goal

abbrev pub invariant-loop-i : goal.invariant-loop-i
invariant-loop-i g l = (length l.word-items ≡ g.row.N) × (take l.i l.word-items ≡ words_at l.i l.table l.at)
