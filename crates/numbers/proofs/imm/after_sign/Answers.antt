-- `imm::after_sign`: the test is that of the definition, and a text that begins with a sign has a byte.
use Prim.Native.Nat.{◌≤◌}
use mathlib.Core.Path.{refl}
use native.Mathlib.Omega.{arith}
use lib.ListN.{length}
use Rattle.numbers.specs.Text.{text}
use Rattle.numbers.specs.Code.Starts.{after_sign}
use Rattle.numbers.proofs.Prefixes.{either_length}
use Rattle.numbers.proofs.Trims.{tail}
use Rattle.numbers.proofs.imm.after_sign.Goals as goal
use Rattle.numbers.proofs.imm.after_sign.Goals.{Then-first_is}

signed : (c : Then-first_is) → 1 ≤ length c.args.s.now
signed c = either_length (text "-") (text "+") _ refl (rw (c.first_is.ensures, c.first_is-2.ensures) at c.if-first_is.true)

pub slice_bounds-result-count : goal.slice_bounds-result-count
slice_bounds-result-count c = omega (arith, signed c)

pub slice_bounds-result-start : goal.slice_bounds-result-start
slice_bounds-result-start c = omega (arith, signed c)

pub returns-then-first_is : goal.returns-then-first_is
unfolding after_sign
returns-then-first_is c = simp (← c.first_is.ensures, ← c.first_is-2.ensures, c.if-first_is.true, tail)

pub returns : goal.returns
unfolding after_sign
returns c = simp (← c.first_is.ensures, ← c.first_is-2.ensures, c.if-first_is.false)
