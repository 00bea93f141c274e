-- `little_endian::put_number`: one byte, four, or a loop whose invariant says that the low i bytes are stored, and that what is left is v without them.
use mathlib.Core.Path.{◌≡◌}
use mathlib.Core.List.{◌++◌}
use Prim.Native.Nat.{◌/◌, ◌^◌}
use lib.ListN.{length, drop}
use Rattle.layout.specs.Bytes.{little_endian}
use Rattle.layout.proofs.little_endian.put_number.Given as goal

abbrev pub invariant-loop-i : goal.invariant-loop-i
invariant-loop-i l = (length l.dst ≡ length l.initial.dst) × (l.left ≡ l.v / 256 ^ l.i) × (l.dst ≡ little_endian l.i l.v ++ drop l.i l.initial.dst)
