-- `Record::put`: the words so far are written.
use mathlib.Core.Path.{◌≡◌}
use lib.ListN.{length, take}
use Rattle.layout.specs.Bytes.{put}
use Rattle.layout.proofs.WordLaws.{bytes_of}
use Rattle.layout.proofs.records.Record.put.Given as goal

abbrev pub invariant-loop-i : goal.invariant-loop-i
invariant-loop-i g l = (length l.table ≡ length l.fn.table) × (l.table ≡ put l.at (bytes_of (take l.i l.word-items)) l.fn.table)
