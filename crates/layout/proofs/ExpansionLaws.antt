-- A pseudo's operands, which follow its source's first word, and a name looked up where it stands.
use Prim.Native.Nat.{ℕ, suc}
use native.Mathlib.Omega.{arith}
use mathlib.Core.Path.{◌≡◌, refl, sym}
use mathlib.Core.List.{List, [], ◌∷◌}
use mathlib.Core.Bool.{Bool, true, false, cond, ◌||◌}
use lib.ListN.{length, drop}
use borrow.Author.Tests.{le-leb}
use Rattle.numbers.specs.Text.{is_space}
use Rattle.numbers.specs.Operands.{item_operands}
use Rattle.numbers.specs.Code.Cursors.{operands_from, item_operands_from, spaced_operands_from}
use Rattle.numbers.proofs.Parts.{items_spaced}
use Rattle.numbers.proofs.SpacedNumbers.{has_space}
use Rattle.layout.specs.Bytes.{count_before}
use Rattle.layout.specs.Pseudos.{pseudo_operands}
use Rattle.layout.proofs.SpanLaws.{count_within}

-- the operands from the end of the first word on
pub source_operands : (s : List ℕ) (n : ℕ) → n ≡ count_before is_space s → spaced_operands_from s n ≡ pseudo_operands s
unfolding item_operands_from operands_from item_operands
source_operands s n e = rw (e, le-leb (count_before is_space s) (length s) (count_within is_space s)) (sym (items_spaced (drop (count_before is_space s) s)))

-- a text that is one word has no white space
pub no_space : (s : List ℕ) → count_before is_space s ≡ length s → has_space s ≡ false
unfolding count_before has_space
no_space [] e = refl
no_space (x ∷ xs) e = go (is_space x) (no_space xs) e
  where
    go : (t : Bool) → (count_before is_space xs ≡ length xs → has_space xs ≡ false) → cond t 0 (suc (count_before is_space xs)) ≡ suc (length xs)
        → t || has_space xs ≡ false
    go true ih q = absurd (omega arith)
    go false ih q = ih (omega arith)
