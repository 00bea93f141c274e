-- `pseudo::li_word_count`: the operands that are found are those of the text whose runs are one space.
use Prim.Native.Nat.{ℕ, ◌-◌}
use mathlib.Core.Path.{◌≡◌, refl, sym, ◌∙◌}
use mathlib.Core.List.{List}
use mathlib.Core.Bool.{cond}
use native.Mathlib.Omega.{arith}
use lib.ListN.{length, take, drop}
use Rattle.numbers.specs.Text.{is_space, one_spaced}
use Rattle.numbers.specs.Operands.{item_operands}
use Rattle.numbers.proofs.Trims.{tail}
use Rattle.layout.specs.Bytes.{count_before}
use Rattle.layout.specs.Pseudos.{pseudo_operands, li_words}
use Rattle.layout.proofs.SpanLaws.{count_within}
use Rattle.layout.proofs.PseudoLaws.{li_none, li_one, li_two}
use Rattle.layout.proofs.pseudo.li_word_count.Goals as goal
use Rattle.layout.proofs.pseudo.li_word_count.Goals.{After-is_single}

-- the text after the first word, as it is cut out
after : (s : List ℕ) (k n : ℕ) → k ≡ count_before is_space s → li_words (item_operands (one_spaced (take (length s - k) (drop k s)))) ≡ n → n ≡ li_words (pseudo_operands s)
after s k n e h = sym (rw (tail s k, e) at h)

pub slice_bounds-rest-count : goal.slice_bounds-rest-count
slice_bounds-rest-count c = omega (arith, c.word_len-first.ensures, count_within is_space c.args.s.now)

pub slice_bounds-rest-start : goal.slice_bounds-rest-start
slice_bounds-rest-start c = omega (arith, c.word_len-first.ensures, count_within is_space c.args.s.now)

pub returns-in_default : goal.returns-in_default
returns-in_default c =
    after c.args.s.now c.word_len-first.result 1 c.word_len-first.ensures
    (li_none _ (sym c.item_operand_at.ensures ∙ c.in_default.is))

pub returns-in_default-item_operand_at : goal.returns-in_default-item_operand_at
returns-in_default-item_operand_at c =
    after c.args.s.now c.word_len-first.result 1 c.word_len-first.ensures
    (li_one _ _ _ (sym c.item_operand_at.ensures ∙ c.in-Some.is) (sym c.item_operand_at-2.ensures ∙ c.in_default-item_operand_at.is))

-- two operands: what the second reads as
second : (c : After-is_single) (n : ℕ) → cond c.is_single.result 1 2 ≡ n
    → n ≡ li_words
    (pseudo_operands c.args.s.now)
second c n h =
    after c.args.s.now c.word_len-first.result n c.word_len-first.ensures
    (li_two _ _ _ (sym c.item_operand_at.ensures ∙ c.in-Some.is) _ _ (sym c.item_operand_at-2.ensures ∙ c.in-Some-item_operand_at.is)
    ∙ rw (← c.span_bytes.ensures, ← c.parse_imm_one_spaced.ensures, ← c.is_single.ensures) h)

pub returns-then-is_single : goal.returns-then-is_single
returns-then-is_single c = second (goal.at.returns-then-is_single c).After-is_single 1 (rw c.if-is_single.true refl)

pub returns : goal.returns
returns c = second (goal.at.returns c).After-is_single 2 (rw c.if-is_single.false refl)
