-- `addresses::place_labels`: whatever labels the buffer stood for, the first k have their addresses.
use Rattle.layout.proofs.AddressLaws.{LabelsPlacing}
use Rattle.layout.proofs.addresses.place_labels.Given as goal

abbrev pub invariant-loop-k : goal.invariant-loop-k
invariant-loop-k l = LabelsPlacing l.initial.labels l.count l.starts l.labels l.k
