-- The nine pseudo-instructions as lists of instructions, in three steps: operands, names, instructions. Document 01's module pseudo.rs, refusals 18 to
-- 20, "count and register before label or number"; document 02, W-202.
use Rattle.std.specs.Prelude.{ℕ, List, Bool, cond, ℤ}
use Rattle.std.specs.Prelude.{Option, None, Some}
use Rattle.std.specs.Prelude.{Result, Ok, Err}
use Rattle.numbers.specs.Results.{and_then, mapped, or_refuse}
use Rattle.numbers.specs.Text.{text, starts_with}
use Rattle.numbers.specs.Ints.{is_signed32, bits}
use Rattle.numbers.specs.Numbers.{imm_of}
use Rattle.numbers.specs.Registers.{register_of}
use Rattle.numbers.specs.Operands.{only, RegisterAnd, register_and}
use Rattle.encoder.specs.declared.instruction.Instruction.{Instruction}
use Rattle.encoder.specs.Table.{x0}
use Rattle.encoder.specs.Split.{load_pair}
use Rattle.encoder.specs.Sequences.{load_single, pushes, pops, prints, randoms, prints_str, reads, reads_byte}
use Rattle.layout.specs.declared.pseudo.Pseudo.{Pseudo}
use Rattle.layout.specs.declared.pseudo.Pseudo.TheVariants.{Li, La, Push, Pop, Print, PrintStr, Read, ReadByte, Random}
use Rattle.layout.specs.Pseudos.{is_single}

-- ---- operands: "18 pseudo operand count, bad register"

-- what the operands are: a register; a register and a number; a register and what may be an equate; a label; a register and a label
pub data Wanted : Type 0 where
  register : ℕ → Wanted
  number : ℕ → ℤ → Wanted
  equate : ℕ → List ℕ → Wanted
  label : List ℕ → Wanted
  register_label : ℕ → List ℕ → Wanted

-- one operand, a register
abbrev pub wanted_register : Option ℕ → Result Wanted ℕ
wanted_register None = Err 18
wanted_register (Some n) = Ok (register n)

abbrev pub one_register : List (List ℕ) → Result Wanted ℕ
one_register ops = or_refuse 18 (only ops) (λ a. wanted_register (register_of a))

-- one operand, a label: "or a register in place of print_str's, read's or read_byte's label"
abbrev pub wanted_label : List ℕ → Option ℕ → Result Wanted ℕ
wanted_label a None = Ok (label a)
wanted_label a (Some n) = Err 18

abbrev pub one_label : List (List ℕ) → Result Wanted ℕ
one_label ops = or_refuse 18 (only ops) (λ a. wanted_label a (register_of a))

-- la's operands, and li's
abbrev pub label_last : RegisterAnd → Result Wanted ℕ
label_last p = Ok (register_label p.register p.last)

abbrev pub register_and_label : List (List ℕ) → Result Wanted ℕ
register_and_label ops = or_refuse 18 (register_and ops) label_last

abbrev pub number_or : ℕ → List ℕ → Option ℤ → Wanted
number_or rd b None = equate rd b
number_or rd b (Some z) = number rd z

abbrev pub number_last : RegisterAnd → Result Wanted ℕ
number_last p = Ok (number_or p.register p.last (imm_of p.last))

abbrev pub register_and_number : List (List ℕ) → Result Wanted ℕ
register_and_number ops = or_refuse 18 (register_and ops) number_last

abbrev pub wanted : Pseudo → List (List ℕ) → Result Wanted ℕ
wanted Li ops = register_and_number ops
wanted La ops = register_and_label ops
wanted Push ops = one_register ops
wanted Pop ops = one_register ops
wanted Print ops = one_register ops
wanted PrintStr ops = one_label ops
wanted Read ops = one_label ops
wanted ReadByte ops = one_label ops
wanted Random ops = one_register ops

-- ---- names: `const` gives an equate's value, `place` a label's address

-- what the instructions are made of: a register, x0 where the operands name none, and 32 bits, those of an address or of a number, 0 where there is
-- neither; or a register and a number that a single addi loads
pub data Arguments : Type 0 where
  word : ℕ → ℕ → Arguments
  single : ℕ → ℤ → Arguments

-- a number by a single addi, or by the pair: of a name, whatever its value, "lui with the upper part, 0 included, then addi" (document 02, W-202)
abbrev pub li_load : Bool → ℕ → ℤ → Arguments
li_load one rd z = cond one (single rd z) (word rd (bits 32 z))

-- "19 li operand": an equate that 32 signed bits hold; a text that begins with a quote is no name. Document 02, W-202: "An equate beyond 32 signed bits
-- is still 19"
abbrev pub li_held : Option ℤ → Result ℤ ℕ
li_held None = Err 19
li_held (Some z) = cond (is_signed32 z) (Ok z) (Err 19)

abbrev pub li_constant : (List ℕ → Option ℤ) → List ℕ → Result ℤ ℕ
li_constant const b = cond (starts_with (text "'") b) (Err 19) (li_held (const b))

-- what the operands come to: a register alone with the bits 0, a number, an equate's value or 19, a label's address or "20 label not found"
abbrev pub looked_up : (List ℕ → Option ℤ) → (List ℕ → Option ℕ) → Wanted → Result Arguments ℕ
looked_up const place (register rd) = Ok (word rd 0)
looked_up const place (number rd z) = Ok (li_load (is_single (Some z)) rd z)
looked_up const place (equate rd b) = mapped (li_load (is_single None) rd) (li_constant const b)
looked_up const place (label a) = or_refuse 20 (place a) (λ n. Ok (word x0 n))
looked_up const place (register_label rd a) = or_refuse 20 (place a) (λ n. Ok (word rd n))

-- ---- instructions

-- of a register and 32 bits
abbrev pub built : Pseudo → ℕ → ℕ → List Instruction
built Li rd b = load_pair rd b
built La rd b = load_pair rd b
built Push rd b = pushes rd
built Pop rd b = pops rd
built Print rd b = prints rd
built PrintStr rd b = prints_str b
built Read rd b = reads b
built ReadByte rd b = reads_byte b
built Random rd b = randoms rd

abbrev pub instructions : Pseudo → Arguments → List Instruction
instructions p (word rd b) = built p rd b
instructions p (single rd z) = load_single rd z

-- what a pseudo stands for, of its operands: the instructions, or a refusal's number
abbrev pub Expanded : Type 0
Expanded = Result (List Instruction) ℕ

unfoldable pub expansion : (List ℕ → Option ℤ) → (List ℕ → Option ℕ) → Pseudo → List (List ℕ) → Expanded
expansion const place p ops = mapped (instructions p) (and_then (wanted p ops) (looked_up const place))
