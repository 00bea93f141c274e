-- A line's fields: what stands before and behind a byte, and the bytes that a field stands for.
use Rattle.std.specs.Prelude.{ℕ, zero, suc, ◌+◌, ◌-◌, ◌*◌, ◌%◌, cond, ◌&&◌, List, [], ◌∷◌, length, drop, ◌==◌, nat_lt, slice_index}
use Rattle.numbers.specs.Text.{byte, index_of}
use Rattle.numbers.specs.Numbers.{digit_of}
use Rattle.replay.specs.declared.field.Written.{Written}

-- the byte TAB, which parts fields
abbrev pub tab : ℕ
tab = 9

-- what follows the first b, or nothing
unfoldable pub after : ℕ → List ℕ → List ℕ
after b s = drop (index_of b s + 1) s

-- a byte that stands as itself, and one that two hexadecimal digits stand for; what is no digit counts as 0
abbrev pub plain : ℕ → Written
plain b = record { byte = b; width = 1 }

abbrev pub hex_byte : ℕ → ℕ → Written
hex_byte high low = record { byte = digit_of high % 16 * 16 + digit_of low % 16; width = 3 }

-- the first byte of a field, and how many bytes it is written with: `%` needs two bytes behind it
unfoldable pub written_first : List ℕ → Written
written_first s = cond (slice_index s 0 == (byte "%") && nat_lt 2 (length s)) (hex_byte (slice_index s 1) (slice_index s 2)) (plain (slice_index s 0))

-- the bytes that a field stands for behind its first n
unfoldable pub decoded_past : ℕ → List ℕ → List ℕ
decoded_past n [] = []
decoded_past zero (b ∷ s) = (written_first (b ∷ s)).byte ∷ decoded_past ((written_first (b ∷ s)).width - 1) s
decoded_past (suc n) (b ∷ s) = decoded_past n s

-- the bytes that a field stands for
abbrev pub decoded : List ℕ → List ℕ
decoded s = decoded_past 0 s
