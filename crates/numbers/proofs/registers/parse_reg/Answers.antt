-- `registers::parse_reg`: the trimmed text is read after its x, or as a name of the ABI, as the definition has it.
use mathlib.Core.Path.{refl}
use Rattle.numbers.specs.Text.{text}
use Rattle.numbers.specs.Registers.{bare_register, register_of}
use Rattle.numbers.proofs.Trims.{tail}
use Rattle.numbers.proofs.Prefixes.{either_length}
use Rattle.numbers.proofs.registers.parse_reg.Goals as goal

pub slice_bounds-x_register-count : goal.slice_bounds-x_register-count
slice_bounds-x_register-count c = either_length (text "x") (text "X") c.trim-t.result.now refl (rw (← c.first_is.ensures, ← c.first_is-2.ensures) c.if-first_is.true)

pub slice_bounds-x_register-start : goal.slice_bounds-x_register-start
slice_bounds-x_register-start c = either_length (text "x") (text "X") c.trim-t.result.now refl (rw (← c.first_is.ensures, ← c.first_is-2.ensures) c.if-first_is.true)

pub returns-then-first_is : goal.returns-then-first_is
unfolding register_of bare_register
returns-then-first_is c = simp (c.x_register.ensures, tail, ← c.trim-t.ensures, ← c.first_is.ensures, ← c.first_is-2.ensures, c.if-first_is.true)

pub returns : goal.returns
unfolding register_of bare_register
returns c = simp (c.abi_register.ensures, ← c.trim-t.ensures, ← c.first_is.ensures, ← c.first_is-2.ensures, c.if-first_is.false)
