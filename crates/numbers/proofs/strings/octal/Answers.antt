-- `strings::octal`: 255 is 377 in octal.
use borrow.Author.Tests.{le-leb, lt-leb}
use Rattle.numbers.proofs.strings.octal.Goals as goal

pub returns-then-v-gt255 : goal.returns-then-v-gt255
returns-then-v-gt255 c = simp (lt-leb _ _ c.if-v-gt255.true)

pub returns : goal.returns
returns c = simp (le-leb _ _ c.if-v-gt255.false)
