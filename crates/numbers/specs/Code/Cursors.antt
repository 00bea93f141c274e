-- Operands by a place that goes on behind each comma.
use Rattle.std.specs.Prelude.{ℕ, suc, ◌+◌, List, [], map, Bool, cond, ◌||◌, leb, eqb, length, drop}
use Rattle.std.specs.Prelude.{Option, None, Some}
use Rattle.numbers.specs.declared.text.Span.{Span}
use Rattle.numbers.specs.Text.{byte, is_space, trim_end, trimmed, index_of, before, leading, leading_spaces, one_spaced}
use Rattle.numbers.specs.Operands.{operands, non_empty}

-- the operands from a place on: none past the end
unfoldable pub operands_from : List ℕ → ℕ → List (List ℕ)
operands_from s at = cond (leb at (length s)) (operands (drop at s)) []

unfoldable pub item_operands_from : List ℕ → ℕ → List (List ℕ)
item_operands_from s at = non_empty (operands_from s at)

-- the operand that begins at a place, and the place after its comma; where it has none, the text's length plus 1
-- (proofs/Parts.antt ties it to `operands`: `operand_step`, `operand_end`, `operands-all`, `operand_bounds`)
unfoldable pub operand_at : List ℕ → ℕ → Option (Span × ℕ)
operand_at s at =
    cond (leb at (length s))
    (Some (
      record { start = at + leading_spaces (before (byte ",") (drop at s)); len = length (trimmed (before (byte ",") (drop at s))) },
      suc (at + index_of (byte ",") (drop at s)),
    ))
    None

-- white space or a comma
abbrev pub is_separator : ℕ → Bool
is_separator b = is_space b || eqb b (byte ",")

-- how many bytes of white space and commas a text begins with
abbrev pub leading_separators : List ℕ → ℕ
leading_separators s = leading is_separator s

-- the operand that stands at a place where neither white space nor a comma does, and the place after its comma, as above
unfoldable pub item_operand_here : List ℕ → ℕ → Option (Span × ℕ)
item_operand_here s at =
    cond (leb (length s) at)
    None
    (Some (record { start = at; len = length (trim_end (before (byte ",") (drop at s))) }, suc (at + index_of (byte ",") (drop at s))))

-- the first operand from a place on that is not empty, and the place after its comma, as above
-- (proofs/Parts.antt ties it to `item_operands`: `item-step`, `item_end`, `items_all`, `item_bounds`)
unfoldable pub item_operand_at : List ℕ → ℕ → Option (Span × ℕ)
item_operand_at s at = item_operand_here s (at + leading_separators (drop at s))

-- the item operands from a place on, their white-space runs made one space
abbrev pub spaced_operands_from : List ℕ → ℕ → List (List ℕ)
spaced_operands_from s at = map one_spaced (item_operands_from s at)
