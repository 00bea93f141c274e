-- `registers::x_register`: the digits after a plus, or all of the text, as the definition has it.
use mathlib.Core.Path.{sym, ◌∙◌}
use Rattle.numbers.specs.Text.{text}
use Rattle.numbers.specs.Registers.{x_number}
use Rattle.numbers.proofs.Trims.{tail}
use Rattle.numbers.proofs.Prefixes.{prefix_length}
use Rattle.numbers.proofs.registers.x_register.Goals as goal

pub slice_bounds-numbered-count : goal.slice_bounds-numbered-count
slice_bounds-numbered-count c = prefix_length (text "+") c.args.s.now (sym c.first_is.ensures ∙ c.if-first_is.true)

pub slice_bounds-numbered-start : goal.slice_bounds-numbered-start
slice_bounds-numbered-start c = prefix_length (text "+") c.args.s.now (sym c.first_is.ensures ∙ c.if-first_is.true)

pub returns-then-first_is : goal.returns-then-first_is
unfolding x_number
returns-then-first_is c = simp (c.numbered.ensures, tail, ← c.first_is.ensures, c.if-first_is.true)

pub returns : goal.returns
unfolding x_number
returns c = simp (c.numbered-2.ensures, ← c.first_is.ensures, c.if-first_is.false)
