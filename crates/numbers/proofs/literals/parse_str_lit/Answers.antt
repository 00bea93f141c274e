-- `literals::parse_str_lit`: the code's trimmed text is the definition's, and where it is a string its two quotes are within it.
use mathlib.Core.Path.{sym, ◌∙◌}
use native.Mathlib.Omega.{arith}
use lib.Seq.{length-take-le}
use Rattle.numbers.specs.Text.{is_space}
use Rattle.numbers.proofs.Trims.{leading-within, trim_end-within}
use Rattle.numbers.proofs.Quoted.{StringAt, str_lit_yes, str_lit_no}
use Rattle.numbers.proofs.literals.parse_str_lit.Goals as goal
use Rattle.numbers.proofs.literals.parse_str_lit.Goals.{Then-is_string}

pub slice_bounds-t-count : goal.slice_bounds-t-count
slice_bounds-t-count c = omega (arith, c.leading_spaces-start.ensures, leading-within is_space c.args.s.now)

pub slice_bounds-t-start : goal.slice_bounds-t-start
slice_bounds-t-start c = omega (arith, c.leading_spaces-start.ensures, leading-within is_space c.args.s.now)

pub slice_bounds-is_string-end : goal.slice_bounds-is_string-end
slice_bounds-is_string-end c = sym (length-take-le _ _ (rw c.trim_end_len-len.ensures (trim_end-within _)))

string-at : (c : Then-is_string) → StringAt c.args.s.now c.leading_spaces-start.result c.trim_end_len-len.result
string-at c =
    str_lit_yes _ _ _ c.leading_spaces-start.ensures c.trim_end_len-len.ensures (sym c.is_string.ensures ∙ c.if-is_string.true)

pub overflow_add-result : goal.overflow_add-result
overflow_add-result c = omega (arith, (string-at c).1)

pub overflow_sub-result : goal.overflow_sub-result
overflow_sub-result c = (string-at c).0

pub returns-then-is_string : goal.returns-then-is_string
returns-then-is_string c = (string-at c).2

pub returns : goal.returns
returns c = str_lit_no _ _ _ c.leading_spaces-start.ensures c.trim_end_len-len.ensures (sym c.is_string.ensures ∙ c.if-is_string.false)
