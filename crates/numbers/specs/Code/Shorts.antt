-- What the shortcuts of numbers read: a short number of a data directive, and a plain number.
use Rattle.std.specs.Prelude.{ℕ, suc, ◌+◌, ◌-◌, ◌*◌, ◌^◌, List, Bool, cond, leb, eqb, length, drop, ℤ}
use Rattle.std.specs.Prelude.{Option, None, option_map}
use Rattle.numbers.specs.Text.{text, byte, leading, starts_with, index_of, before}
use Rattle.numbers.specs.Numbers.{digits_of, positive_of}

-- byte 32 alone
abbrev pub is_ascii_space : ℕ → Bool
is_ascii_space b = eqb b (byte " ")

-- the place after the blanks that stand at a place
abbrev pub after_blanks : List ℕ → ℕ → ℕ
after_blanks s at = at + leading is_ascii_space (drop at s)

-- a value that was read and the place to go on from, or no short number
abbrev pub short_is : Option ℕ → ℕ → Option (ℕ × ℕ)
short_is v next = option_map (λ n. (n, next)) v

-- one digit or more of the base from a place to the comma or the end, whose value is below 2^28 times the base, and the place after the comma
unfoldable pub digits_at : ℕ → List ℕ → ℕ → Option (ℕ × ℕ)
digits_at base s first =
    short_is (digits_of base (2 ^ 28 * base - 1) (before (byte ",") (drop first s))) (suc (first + index_of (byte ",") (drop first s)))

-- decimal digits, or `0x` and hexadecimal ones
unfoldable pub prefixed_at : List ℕ → ℕ → Option (ℕ × ℕ)
prefixed_at s first = cond (starts_with (text "0x") (drop first s)) (digits_at 16 s (first + 2)) (digits_at 10 s first)

-- the operand at a place, where it is a short number: blanks, and then digits (proofs/Shorts.antt ties it to `operand_at`: `short_means`)
unfoldable pub short_at : List ℕ → ℕ → Option (ℕ × ℕ)
short_at s at = prefixed_at s (after_blanks s at)

-- a plain number: at most 15 decimal digits and nothing else (proofs/Shorts.antt ties it to `number_of` and `imm64_of`: `plain_means`)
unfoldable pub plain_of : List ℕ → Option ℤ
plain_of s = cond (leb (length s) 15) (positive_of (digits_of 10 (2 ^ 63 - 1) s)) None
