-- Items to words: what an item emits, by what its operands come to, into what is lent.
use Prim.Native.Nat.{ℕ, ◌≤◌}
use native.Mathlib.Omega.{arith}
use mathlib.Core.Path.{◌≡◌, refl, ap, ◌∙◌}
use mathlib.Core.List.{List, [], ◌∷◌}
use Rattle.std.proofs.Common.{Option, Some}
use lib.IntN.{ℤ}
use lib.ListN.{length, set}
use lib.Seq.{set_split}
use Rattle.std.proofs.Common.{Ok, Err}
use Rattle.numbers.specs.Results.{and_then}
use Rattle.encoder.specs.declared.instruction.Instruction.{Instruction}
use Rattle.encoder.specs.declared.sequences.Expansion.{Expansion}
use Rattle.encoder.specs.Encoding.{encoded}
use Rattle.encoder.specs.Code.Slots.{longest, instructions_in}
use Rattle.encoder.specs.Code.Words.{WordsPut}
use Rattle.encoder.proofs.PutLaws.{slots_size}
use Rattle.layout.specs.declared.pseudo.Pseudo.{Pseudo}
use Rattle.layout.specs.Pseudos.{pseudo_operands, pseudo_words}
use Rattle.layout.specs.Expansions.{wanted, Arguments, looked_up, instructions, expansion}
use Rattle.layout.specs.Layouts.{emission}
use Rattle.layout.proofs.PseudoLaws.{words_few}
use Rattle.layout.proofs.Emissions.{expansion_fits}

-- the one word of an ordinary line
pub one_put : (d : List ℕ) → 1 ≤ length d → WordsPut d (set d 0 0) 1 (0 ∷ [])
one_put d h = record { counted = refl; put = set_split d 0 0 h }

-- a pseudo's words, by what its operands come to
module _ (const : List ℕ → Option ℤ) (place : List ℕ → Option ℕ) (p : Pseudo) (s : List ℕ) where
  -- they are refused
  pub emits_refused : (n : ℕ) → Err n ≡ and_then (wanted p (pseudo_operands s)) (looked_up const place) → Err n ≡ emission const place (Some p) s
  unfolding expansion
  emits_refused n e = rw (← e) refl

  module _ (a : Arguments) (e : Ok a ≡ and_then (wanted p (pseudo_operands s)) (looked_up const place)) where
    -- they are the instructions' words
    pub emits_built : encoded (instructions p a) ≡ emission const place (Some p) s
    unfolding expansion
    emits_built = rw (← e) refl

    built_size : (is : List Instruction) → is ≡ instructions p a → length is ≡ pseudo_words p s
    unfolding expansion
    built_size is g = ap length g ∙ (rw (← e) at (expansion_fits const place p s)).0

    -- as many as the item reserves
    pub built_length : (is : List Instruction) (room : ℕ) → is ≡ instructions p a → pseudo_words p s ≤ room → length is ≤ room
    built_length is room g h = omega (arith, built_size is g)

    -- and no more than an expansion has room for
    pub built_room : (x : Expansion) (room : ℕ) → instructions_in x ≡ instructions p a → pseudo_words p s ≤ room → (x.count ≤ longest) × (x.count ≤ room)
    built_room x room g h =
        let sized : length (instructions_in x) ≡ x.count = slots_size x.slots 0 x.count in
        (omega (arith, sized, built_size _ g, (words_few (Some p) s).1), omega (arith, sized, built_length _ room g h))
