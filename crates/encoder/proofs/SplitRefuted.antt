-- Wrong splits, each at the smallest number that shows it: the part is not the one that `Split` says, and what is made of it does not load the number.
use Rattle.std.proofs.Common.{◌≡◌, ℕ, ◌+◌, ◌-◌, ◌*◌, ◌/◌, ◌%◌, ◌^◌, List, [], ◌∷◌, map, set, replicate, refl, arith}
use Rattle.std.proofs.Common.{Ok, Err}
use Rattle.numbers.specs.Ints.{signed_of}
use Rattle.encoder.specs.declared.instruction.Instruction.{Instruction}
use Rattle.encoder.specs.declared.instruction.Instruction.TheVariants.{Addi, Lui}
use Rattle.encoder.specs.Encoding.{encoding}
use Rattle.encoder.specs.Run.{Ran, done, run}
use Rattle.encoder.specs.Split.{upper_part, lower_part}
use Rattle.encoder.proofs.Shifts.{lower_by}

abbrev a0 : ℕ
a0 = 10

-- the pair of these parts
abbrev pair_of : ℕ → ℕ → List Instruction
pair_of upper lower = Lui a0 (signed_of 32 upper) ∷ Addi a0 a0 (signed_of 32 lower) ∷ []

-- the end of a run, from zeros, whose only trace is v in a0
abbrev loaded : ℕ → Ran
loaded v = done (set (replicate 32 0) 10 v)

-- the rounding left out: 2,048 becomes -2,048
abbrev unrounded : ℕ → ℕ
unrounded b = b / 2 ^ 12 * 2 ^ 12

pub rounding_left_out : (unrounded 2048 ≡ upper_part 2048 → ⊥)
    × (map encoding (pair_of (unrounded 2048) (lower_part 2048)) ≡ Ok 0x00000537 ∷ Ok 0x80050513 ∷ [])
    × (run (0x00000537 ∷ 0x80050513 ∷ []) (replicate 32 0) ≡ loaded (2 ^ 32 - 2048))
rounding_left_out = ((λ e. omega arith), refl, refl)

-- rounded, then shifted to the right by r and to the left by l: by 12 that is the upper part
abbrev upper_by : ℕ → ℕ → ℕ → ℕ
upper_by r l b = (b + 2048) % 2 ^ 32 / 2 ^ r * 2 ^ l % 2 ^ 32

pub upper_by_twelve : (b : ℕ) → upper_by 12 12 b ≡ upper_part b
upper_by_twelve b = omega arith

-- by 11: what is added to round remains, and lui does not take it
pub shift_by_eleven : (upper_by 11 11 0 ≡ upper_part 0 → ⊥)
    × (map encoding (pair_of (upper_by 11 11 0) (lower_part 0)) ≡ Err 23 ∷ Ok 0x00050513 ∷ [])
shift_by_eleven = ((λ e. omega arith), refl)

-- to the right by 11, to the left by 12: 0 becomes 4,096
pub right_by_eleven : (upper_by 11 12 0 ≡ upper_part 0 → ⊥)
    × (map encoding (pair_of (upper_by 11 12 0) (lower_part 0)) ≡ Ok 0x00001537 ∷ Ok 0x00050513 ∷ [])
    × (run (0x00001537 ∷ 0x00050513 ∷ []) (replicate 32 0) ≡ loaded 4096)
right_by_eleven = ((λ e. omega arith), refl, refl)

-- the lower part of 11 bits: 1,024 becomes -1,024
pub eleven_bits : (lower_by 21 21 1024 ≡ lower_part 1024 → ⊥)
    × (map encoding (pair_of (upper_part 1024) (lower_by 21 21 1024)) ≡ Ok 0x00000537 ∷ Ok 0xC0050513 ∷ [])
    × (run (0x00000537 ∷ 0xC0050513 ∷ []) (replicate 32 0) ≡ loaded (2 ^ 32 - 1024))
eleven_bits = ((λ e. omega arith), refl, refl)

-- shifted back by 11: 1 becomes 512
pub back_by_eleven : (lower_by 20 11 1 ≡ lower_part 1 → ⊥)
    × (map encoding (pair_of (upper_part 1) (lower_by 20 11 1)) ≡ Ok 0x00000537 ∷ Ok 0x20050513 ∷ [])
    × (run (0x00000537 ∷ 0x20050513 ∷ []) (replicate 32 0) ≡ loaded 512)
back_by_eleven = ((λ e. omega arith), refl, refl)
