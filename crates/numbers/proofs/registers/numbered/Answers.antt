-- `registers::numbered`: the digits' value, which is at most 31 and so a byte.
use Prim.Native.Nat.{◌<◌}
use mathlib.Core.Path.{sym, ◌∙◌}
use native.Mathlib.Omega.{arith}
use borrow.Author.Tests.{lt-ltb}
use Rattle.numbers.proofs.Values.{digits_within}
use Rattle.numbers.proofs.registers.numbered.Goals as goal
use Rattle.numbers.proofs.registers.numbered.Goals.{In_ok-n}

-- at most 31
small : (c : In_ok-n) → c.in_ok-n.n < 32
small c =
    omega (arith, digits_within 10 31 c.args.s.now c.in_ok-n.n (sym c.parse_digits.ensures ∙ c.in_ok-n.was))

pub overflow_cast-n : goal.overflow_cast-n
overflow_cast-n c = omega (arith, small c)

pub returns : goal.returns
returns c = c.new.ensures ∙ rw (lt-ltb _ 32 (small (goal.at.returns c).In_ok-n)) (sym (c.in_ok-n.was) ∙ c.parse_digits.ensures)
