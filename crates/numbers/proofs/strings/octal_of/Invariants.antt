-- `strings::octal_of`: the first n bytes are digits, and v is their value.
use Prim.Native.Nat.{◌^◌, ◌≤◌, ◌<◌}
use mathlib.Core.Path.{◌≡◌}
use lib.ListN.{take}
use Rattle.numbers.specs.Numbers.{value_from}
use Rattle.numbers.specs.Strings.{octal_len}
use Rattle.numbers.proofs.strings.octal_of.Given as goal

abbrev pub invariant-loop-n : goal.invariant-loop-n
invariant-loop-n l = (l.n ≤ octal_len l.s) × (l.v ≡ value_from 8 0 (take l.n l.s)) × (l.v < 10 ^ l.n)
