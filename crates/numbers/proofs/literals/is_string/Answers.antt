-- `literals::is_string`: the code's tests are the definition's.
use borrow.Author.Tests.{le-leb, lt-leb}
use Rattle.numbers.specs.Literals.{is_string}
use Rattle.numbers.proofs.literals.is_string.Goals as goal

pub returns-then-t-lt2 : goal.returns-then-t-lt2
unfolding is_string
returns-then-t-lt2 c = simp (lt-leb 2 _ c.if-t-lt2.true)

pub returns : goal.returns
unfolding is_string
returns c = simp (le-leb 2 _ c.if-t-lt2.false)
