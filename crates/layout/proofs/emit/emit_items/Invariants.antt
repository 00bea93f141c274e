-- `emit::emit_items`: what is emitted so far, carried on over the items that are left, is what all of them emit.
use Rattle.layout.proofs.EmitSteps.{EmitLoop}
use Rattle.layout.proofs.emit.emit_items.Given as goal

abbrev pub invariant-loop-k : goal.invariant-loop-k
invariant-loop-k l = EmitLoop l.names l.starts l.initial.items l.count l.initial.words l.items l.words l.k l.at
