-- Instruction sequences, of registers and a number or an address: those of document 01's module pseudo.rs.
use Rattle.std.specs.Prelude.{ℕ, List, [], ◌∷◌, ◌++◌, ℤ, pos, neg_ℤ}
use Rattle.encoder.specs.declared.instruction.Instruction.{Instruction}
use Rattle.encoder.specs.declared.instruction.Instruction.TheVariants.{Addi, Lbu, Lw, Sw, Beq, Jal, Sub, Ecall}
use Rattle.encoder.specs.Table.{x0}
use Rattle.encoder.specs.Split.{load_pair}

-- the registers that the sequences name
abbrev sp : ℕ
sp = 2

abbrev t0 : ℕ
t0 = 5

abbrev a0 : ℕ
a0 = 10

abbrev a1 : ℕ
a1 = 11

abbrev a2 : ℕ
a2 = 12

abbrev a7 : ℕ
a7 = 17

-- the single addi that leaves z in rd, where 12 signed bits hold z; `load_pair` is the pair
abbrev pub load_single : ℕ → ℤ → List Instruction
load_single rd z = Addi rd x0 z ∷ []

-- the instructions of a register

abbrev pub pushes : ℕ → List Instruction
pushes rs = Addi sp sp (neg_ℤ (pos 4)) ∷ Sw rs sp (pos 0) ∷ []

abbrev pub pops : ℕ → List Instruction
pops rd = Lw rd sp (pos 0) ∷ Addi sp sp (pos 4) ∷ []

abbrev pub prints : ℕ → List Instruction
prints rd = Addi a7 x0 (pos 1000) ∷ Addi a0 rd (pos 0) ∷ Ecall ∷ []

-- four bytes into a place on the stack, which is then loaded
abbrev pub randoms : ℕ → List Instruction
randoms rd =
    Addi sp sp (neg_ℤ (pos 4)) ∷ Addi a7 x0 (pos 278) ∷ Addi a0 sp (pos 0) ∷ Addi a1 x0 (pos 4) ∷ Addi a2 x0 (pos 0) ∷ Ecall ∷
    Lw rd sp (pos 0) ∷ Addi sp sp (pos 4) ∷ []

-- the instructions of an address

-- the length is counted up to the byte 0, then written to standard output
abbrev pub prints_str : ℕ → List Instruction
prints_str n =
    load_pair a1 n ++ Addi a2 a1 (pos 0) ∷ Lbu t0 a2 (pos 0) ∷ Beq t0 x0 (pos 12) ∷ Addi a2 a2 (pos 1) ∷ Jal x0 (neg_ℤ (pos 12)) ∷
    Sub a2 a2 a1 ∷ Addi a0 x0 (pos 1) ∷ Addi a7 x0 (pos 64) ∷ Ecall ∷ []

-- up to 256 bytes of standard input
abbrev pub reads : ℕ → List Instruction
reads n = Addi a0 x0 (pos 0) ∷ load_pair a1 n ++ Addi a2 x0 (pos 256) ∷ Addi a7 x0 (pos 63) ∷ Ecall ∷ []

abbrev pub reads_byte : ℕ → List Instruction
reads_byte n = Addi a7 x0 (pos 1010) ∷ load_pair a0 n ++ Ecall ∷ []
