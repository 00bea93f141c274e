-- `Width::signed`: three widths read 32 bits, and the fourth 64, which hold the number as it stands.
use Prim.Native.Nat.{ℕ, ◌^◌, ◌<◌}
use mathlib.Core.Path.{◌≡◌}
use mathlib.Core.List.{List}
use Rattle.std.proofs.Common.{Some}
use native.Mathlib.Omega.{arith}
use lib.IntN.{ℤ, pos}
use mir.Syntax.{w32, w64}
use mir.Val.{SFits, to_z, of_z}
use mir.Facts.{to_z-of_z, to_z_pos, sfits_widen}
use borrow.Author.Rules.{rules}
use Rattle.numbers.specs.Numbers.{imm_of, imm64_of}
use Rattle.numbers.proofs.Readings.{imm_unsigned}
use Rattle.numbers.specs.Ints.{signed_of}
use Rattle.layout.proofs.directives.Width.signed.Goals as goal

-- the number of 32 bits, as the machine reads it at both widths
module _ (v : ℕ) (h : v < 2 ^ 32) (z : ℤ) (f : SFits w32 z) where
  wide : SFits w64 (to_z w32 (of_z w32 z))
  wide = rw (to_z-of_z f) (sfits_widen tt f)

  narrow : z ≡ signed_of 32 v → (s : List ℕ) → imm64_of s ≡ Some (pos v) → imm_of s ≡ Some (to_z w64 (of_z w64 (to_z w32 (of_z w32 z))))
  narrow e s reads = rw (to_z-of_z wide, to_z-of_z f, e) (imm_unsigned s v h reads)

pub overflow_cast-result : goal.overflow_cast-result
overflow_cast-result c = wide c.args.v (search rules) c.i32_of_bits.result (search rules)

pub overflow_cast-result-in-Half : goal.overflow_cast-result-in-Half
overflow_cast-result-in-Half c = wide c.args.v (search rules) c.i32_of_bits-in-Half.result (search rules)

pub overflow_cast-result-in-Word : goal.overflow_cast-result-in-Word
overflow_cast-result-in-Word c = wide c.args.v (search rules) c.i32_of_bits-in-Word.result (search rules)

pub returns-in-Byte : goal.returns-in-Byte
returns-in-Byte c = rw c.in-Byte.is (narrow c.args.v (search rules) c.i32_of_bits.result (search rules) c.i32_of_bits.ensures)

pub returns-in-Half : goal.returns-in-Half
returns-in-Half c = rw c.in-Half.is (narrow c.args.v (search rules) c.i32_of_bits-in-Half.result (search rules) c.i32_of_bits-in-Half.ensures)

pub returns-in-Word : goal.returns-in-Word
returns-in-Word c = rw c.in-Word.is (narrow c.args.v (search rules) c.i32_of_bits-in-Word.result (search rules) c.i32_of_bits-in-Word.ensures)

pub returns-in-Dword : goal.returns-in-Dword
returns-in-Dword c =
    let h : c.args.v < 2 ^ 32 = search rules in
    rw (c.in-Dword.is, to_z_pos w64 {n = c.args.v} (omega (arith, h))) (λ s e. e)
