-- Directives: one table of their spellings, and what their operands do in the data and the bss. Document 01, "Lines to places".
use Rattle.std.specs.Prelude.{ℕ, ◌+◌, ◌-◌, List, [], ◌∷◌, ◌++◌, map, Bool, true, false, cond, ◌&&◌, ◌||◌, eqb, replicate, ℤ, pos, negsuc}
use Rattle.std.specs.Prelude.{Option, None, Some}
use Rattle.std.specs.Int.Bits.{bit_and}
use Rattle.std.specs.Prelude.{Result, Ok, Err}
use Rattle.numbers.specs.Text.{text, byte, starts_with, is_digit}
use Rattle.numbers.specs.Ints.{is_byte, is_half, bits}
use Rattle.numbers.specs.Numbers.{imm_of, imm64_of}
use Rattle.numbers.specs.Literals.{string_of}
use Rattle.numbers.specs.Operands.{operands}
use Rattle.layout.specs.declared.directives.Width.{Width}
use Rattle.layout.specs.declared.directives.Width.TheVariants.{Byte, Half, Word, Dword}
use Rattle.layout.specs.declared.directives.Reserve.{Reserve}
use Rattle.layout.specs.declared.directives.Reserve.TheVariants.{Space, Align}
use Rattle.layout.specs.declared.directives.Store.{Store}
use Rattle.layout.specs.declared.directives.Store.TheVariants.{Numbers, Text, Float}
use Rattle.layout.specs.declared.directives.Directive.{Directive}
use Rattle.layout.specs.declared.directives.Directive.TheVariants as directive
use Rattle.layout.specs.declared.directives.Reservation.{Reservation}
use Rattle.layout.specs.declared.directives.Reservation.TheVariants.{Zeros, Aligns}
use Rattle.layout.specs.Bytes.{little_endian, is_letter}

-- ---- the table

-- a spelling, what it is, and whether the data section has it
pub record Row : Type 0 where
  pub name : List ℕ
  pub directive : Directive
  pub in_data : Bool

abbrev row : List ℕ → Directive → Bool → Row
row n d b = record { name = n; directive = d; in_data = b }

-- `.globl`; "Ignored"; `.equ`; then what data and bss have ("in bss also `.skip`") and what data alone have: "12 stored data in bss".
-- No name begins with another, so their order says nothing
unfoldable pub directives : List Row
directives =
    row (text ".globl") directive.Symbol true ∷
    row (text ".global") directive.Symbol true ∷
    row (text ".type") directive.Ignored true ∷
    row (text ".size") directive.Ignored true ∷
    row (text ".file") directive.Ignored true ∷
    row (text ".ident") directive.Ignored true ∷
    row (text ".option") directive.Ignored true ∷
    row (text ".attribute") directive.Ignored true ∷
    row (text ".cfi_") directive.Ignored true ∷
    row (text ".equ") directive.Equate true ∷
    row (text ".set") directive.Equate true ∷
    row (text ".align") (directive.Reserves Align) true ∷
    row (text ".space") (directive.Reserves Space) true ∷
    row (text ".zero") (directive.Reserves Space) true ∷
    row (text ".skip") (directive.Reserves Space) false ∷
    row (text ".byte") (directive.Stores (Numbers Byte)) true ∷
    row (text ".half") (directive.Stores (Numbers Half)) true ∷
    row (text ".word") (directive.Stores (Numbers Word)) true ∷
    row (text ".dword") (directive.Stores (Numbers Dword)) true ∷
    row (text ".float") (directive.Stores Float) true ∷
    row (text ".asciz") (directive.Stores (Text 1)) true ∷
    row (text ".string") (directive.Stores (Text 1)) true ∷
    row (text ".ascii") (directive.Stores (Text 0)) true ∷ []

-- "Directives match by prefix: `.words` is `.word s`"
unfoldable pub row_in : List Row → List ℕ → Option Row
row_in [] s = None
row_in (r ∷ rs) s = cond (starts_with r.name s) (Some r) (row_in rs s)

-- ---- zeros and alignments, in data and bss

-- "`.align n` keeps place p if p AND (n-1) is 0, else gives (p+n-1) AND NOT (n-1)": what it shares with n-1 is taken away; an n is 1 at
-- least
unfoldable pub aligned : ℕ → ℕ → ℕ
aligned n p = elim (eqb (bit_and p (n - 1)) 0) [ true ↦ p | false ↦ p + n - 1 - bit_and (p + n - 1) (n - 1) ]

-- the place after so many zeros, or by .align's rule
abbrev pub place_after : ℕ → Reservation → ℕ
place_after p (Zeros n) = p + n
place_after p (Aligns n) = aligned n p

-- "`.space` and `.zero` (in bss also `.skip`) give zeros"; 6 unreadable, 7 "alignment below 1, size below 0"
abbrev pub reservation : Reserve → Option ℤ → Result Reservation ℕ
reservation x None = Err 6
reservation Space (Some (pos n)) = Ok (Zeros n)
reservation Space (Some (negsuc n)) = Err 7
reservation Align (Some (pos n)) = cond (eqb n 0) (Err 7) (Ok (Aligns n))
reservation Align (Some (negsuc n)) = Err 7

-- ---- what is stored

-- what an operand does to the data: bytes, zeros, or a label's address, filled in later
pub data Write : Type 0 where
  bytes : List ℕ → Write
  gap : Reservation → Write
  address_of : List ℕ → Write

-- a `.word` operand that is no number "must be a name (a letter, `_` or `.`, then these or digits)"; else 8
abbrev pub is_label_start : ℕ → Bool
is_label_start b = is_letter b || eqb b (byte "_") || eqb b (byte ".")

unfoldable pub all_label_bytes : List ℕ → Bool
all_label_bytes [] = true
all_label_bytes (b ∷ bs) = (is_label_start b || is_digit b) && all_label_bytes bs

abbrev pub is_label_name : List ℕ → Bool
is_label_name [] = false
is_label_name (b ∷ bs) = is_label_start b && all_label_bytes bs

-- the four widths
abbrev pub width_bytes : Width → ℕ
width_bytes Byte = 1
width_bytes Half = 2
width_bytes Word = 4
width_bytes Dword = 8

-- what reads an operand of a width, and the numbers that it stores: "7 .. byte or half outside"
abbrev pub read_at : Width → List ℕ → Option ℤ
read_at Byte s = imm_of s
read_at Half s = imm_of s
read_at Word s = imm_of s
read_at Dword s = imm64_of s

abbrev pub range_at : Width → ℤ → Bool
range_at Byte z = is_byte z
range_at Half z = is_half z
range_at Word z = true
range_at Dword z = true

-- an operand that is no number: "6, for `.word` 8", or a name there
abbrev pub unread : Width → List ℕ → Result Write ℕ
unread Byte s = Err 6
unread Half s = Err 6
unread Word s = cond (is_label_name s) (Ok (address_of s)) (Err 8)
unread Dword s = Err 6

abbrev pub number_or_name : Width → Option ℤ → List ℕ → Result Write ℕ
number_or_name w None s = unread w s
number_or_name w (Some z) s = cond (range_at w z) (Ok (bytes (little_endian (width_bytes w) (bits 64 z)))) (Err 7)

-- one definition over the width for byte, half, word and dword
abbrev pub operand_write : Width → List ℕ → Result Write ℕ
operand_write w s = number_or_name w (read_at w s) s

-- a string's bytes, "and `.asciz` and `.string` add a 0"; "9 string malformed"
abbrev pub string_write : ℕ → Option (List ℕ) → Result Write ℕ
string_write _ None = Err 9
string_write zeros (Some s) = Ok (bytes (s ++ replicate zeros 0))

-- what a directive that stores does, operand by operand; a string as document 01 has it, "what stands between is stored unchanged" (others:
-- `Statements`, `string`); 21 for `.float`
abbrev pub store_writes : Store → List ℕ → List (Result Write ℕ)
store_writes (Numbers w) s = map (operand_write w) (operands s)
store_writes (Text zeros) s = string_write zeros (string_of s) ∷ []
store_writes Float s = Err 21 ∷ []
