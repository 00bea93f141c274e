-- `field::decode`: what is written so far, and the bytes of what is left of the field, are the field's bytes.
use Rattle.std.proofs.Common.{◌≡◌, ◌-◌, ◌≤◌, ◌++◌, length, take, drop}
use Rattle.replay.specs.Fields.{decoded}
use Rattle.replay.proofs.field.decode.Given as goal

abbrev pub invariant-loop-i : goal.invariant-loop-i
invariant-loop-i l = (l.n ≤ length l.out) × (length l.out ≡ length l.initial.out) × (take l.n l.out ++ decoded (drop l.i l.field) ≡ decoded l.field)

abbrev pub decreases-loop-i : goal.decreases-loop-i
decreases-loop-i l = length l.field - l.i
