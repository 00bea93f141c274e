-- `Register::new`: the code's test is the definition's.
use borrow.Author.Tests.{le-ltb, lt-ltb}
use Rattle.numbers.proofs.registers.Register.new.Goals as goal

pub returns-then-n-lt32 : goal.returns-then-n-lt32
returns-then-n-lt32 c = simp (lt-ltb _ _ c.if-n-lt32.true)

pub returns : goal.returns
returns c = simp (le-ltb _ _ c.if-n-lt32.false)
