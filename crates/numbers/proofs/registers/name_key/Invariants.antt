-- `registers::name_key`: the invariant says that the key is that of the text from i on, and bounds it by its length.
use Prim.Native.Nat.{◌-◌, ◌*◌, ◌^◌, ◌≤◌, ◌<◌}
use mathlib.Core.Path.{◌≡◌}
use mathlib.Core.List.{map}
use lib.ListN.{length, drop}
use Rattle.numbers.specs.Text.{lower_case}
use Rattle.numbers.specs.Code.Tables.{key_of}
use Rattle.numbers.proofs.registers.name_key.Given as goal

abbrev pub invariant-loop-i : goal.invariant-loop-i
invariant-loop-i l = (l.i ≤ length l.s) × (l.key < 2 * 256 ^ (length l.s - l.i)) × (l.key ≡ key_of (map lower_case (drop l.i l.s)))
