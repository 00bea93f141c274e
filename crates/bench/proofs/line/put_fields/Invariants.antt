-- `line::put_fields`: the invariant says that what is written, with the fields to come, is all of them.
use Rattle.bench.proofs.FieldLaws.{Filled}
use Rattle.bench.proofs.line.put_fields.Given as goal

abbrev pub invariant-loop-n : goal.invariant-loop-n
invariant-loop-n l = Filled l.numbers l.initial.dst l.dst l.at l.n-index
