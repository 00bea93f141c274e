-- What a number begins with: a sign, a base's prefix, zeros.
use Rattle.std.specs.Prelude.{ℕ, ◌-◌, ◌*◌, ◌/◌, List, Bool, cond, ◌||◌, eqb, drop}
use Rattle.numbers.specs.declared.digits.Radix.TheVariants.{Binary, Decimal, Hex}
use Rattle.numbers.specs.declared.imm.Prefix.{Prefix}
use Rattle.numbers.specs.Text.{text, byte, leading, starts_with}

-- a text without the sign that it begins with
unfoldable pub after_sign : List ℕ → List ℕ
after_sign s = cond (starts_with (text "-") s || starts_with (text "+") s) (drop 1 s) s

-- the base that a number's first bytes say, and how many they are (proofs/Starts.antt ties it to `prefixed`: `prefixed-by`)
unfoldable pub prefix_of : List ℕ → Prefix
prefix_of s =
    cond (starts_with (text "0x") s || starts_with (text "0X") s) (record { radix = Hex; len = 2 })
    (cond (starts_with (text "0b") s || starts_with (text "0B") s) (record { radix = Binary; len = 2 })
    (record { radix = Decimal; len = 0 }))

abbrev pub is_zero : ℕ → Bool
is_zero b = eqb b (byte "0")

-- how many zeros a text begins with
abbrev pub leading_zeros : List ℕ → ℕ
leading_zeros s = leading is_zero s

-- how many of them are passed, fifteen at a time: of sixteen the last is left (proofs/Values.antt: `zeros_before`)
abbrev pub passed_zeros : List ℕ → ℕ
passed_zeros s = (leading_zeros s - 1) / 15 * 15
