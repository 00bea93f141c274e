-- Instruction sequences in the code: an array of instructions with its count.
use Rattle.std.specs.Prelude.{ℕ, zero, suc, List, [], ◌∷◌, slice_index_or}
use Rattle.encoder.specs.declared.instruction.Instruction.{Instruction}
use Rattle.encoder.specs.declared.instruction.Instruction.TheVariants.{Add}
use Rattle.encoder.specs.declared.sequences.Slot.{Slot}
use Rattle.encoder.specs.declared.sequences.Expansion.{Expansion}
use Rattle.encoder.specs.Table.{x0}

-- how many the longest sequence has
abbrev pub longest : ℕ
longest = 11

-- the instruction in the kth slot, and those in n slots from the kth on
abbrev no_slot : Slot
no_slot = record { inst = Add x0 x0 x0 }

abbrev pub slot_at : List Slot → ℕ → Instruction
slot_at xs k = (slice_index_or xs k no_slot).inst

abbrev pub slots_from : List Slot → ℕ → ℕ → List Instruction
slots_from xs k zero = []
slots_from xs k (suc n) = slot_at xs k ∷ slots_from xs (suc k) n

-- as many as are counted
abbrev pub instructions_in : Expansion → List Instruction
instructions_in e = slots_from e.slots 0 e.count
