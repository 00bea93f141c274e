-- A number's lower part by two shifts: its 12 bits to the top, and back with their sign.
use Rattle.std.proofs.Common.{◌≡◌, ℕ, ◌*◌, ◌%◌, ◌^◌, ◌<◌, ℤ, ap, ◌∙◌, arith, to_z-of_z, w32, SFits, to_z, of_z, le-ltb, lt-ltb}
use native.Mathlib.Decide.{dec_lt}
use lib.Signed.{mag_shr, shr_z}
use mir.ValLaws.{sfits_le}
use Rattle.numbers.specs.Ints.{bits, signed_of}
use Rattle.encoder.specs.Run.{extended}
use Rattle.encoder.specs.Split.{lower_part}

-- b's 32 bits shifted to the left by l, and what they stand for to the right by r
abbrev pub lower_by : ℕ → ℕ → ℕ → ℕ
lower_by l r b = bits 32 (shr_z (signed_of 32 (b * 2 ^ l % 2 ^ 32)) (2 ^ r))

-- the highest of the 12 bits is the sign, and the shift back copies it
sign_copied : (b : ℕ) → lower_by 20 20 b ≡ lower_part b
sign_copied b = go (dec_lt (b % 4096) 2048)
  where
    go : Dec (b % 4096 < 2048) → lower_by 20 20 b ≡ extended (b % 4096)
    go (yes l) = rw (lt-ltb (b % 4096) 2048 l, lt-ltb (b * 2 ^ 20 % 2 ^ 32) (2 ^ 31) (omega arith)) (omega arith)
    go (no l) = rw (le-ltb (b % 4096) 2048 (omega arith), le-ltb (b * 2 ^ 20 % 2 ^ 32) (2 ^ 31) (omega arith)) (omega arith)

-- a signed shift, as the machine reads and writes the numbers
shift_read : (z : ℤ) (m : ℕ) → SFits w32 z → to_z w32 (of_z w32 (shr_z (to_z w32 (of_z w32 z)) m)) ≡ shr_z z m
shift_read z m f = rw (to_z-of_z f) (to_z-of_z (sfits_le (mag_shr z m) f))

-- so z, b with its 12 bits at the top, becomes the lower part
pub lower_shifted : (b : ℕ) (z : ℤ) → SFits w32 z → z ≡ signed_of 32 (b * 2 ^ 20 % 2 ^ 32)
    → bits 32 (to_z w32 (of_z w32 (shr_z (to_z w32 (of_z w32 z)) (2 ^ 20)))) ≡ lower_part b
lower_shifted b z f e = ap (bits 32) (shift_read z (2 ^ 20) f) ∙ rw e (sign_copied b)
