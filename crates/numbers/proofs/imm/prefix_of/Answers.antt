-- `imm::prefix_of`: the definition's tests, on the first two bytes.
use mathlib.Core.Path.{refl}
use borrow.Author.Rules.{rules}
use Rattle.numbers.specs.Code.Starts.{prefix_of}
use Rattle.numbers.proofs.Starts.{prefix_short, prefix_test}
use Rattle.numbers.proofs.imm.prefix_of.Goals as goal

pub returns-then-s-lt2 : goal.returns-then-s-lt2
returns-then-s-lt2 c = prefix_short _ c.if-s-lt2.true

pub returns-then-zero-b : goal.returns-then-zero-b
unfolding prefix_of
returns-then-zero-b c =
    let s = c.args.s.now in
    rw (prefix_test 48 120 88 s (search rules), c.if-zero-b.true) refl

pub returns-then-zero-b-2 : goal.returns-then-zero-b-2
unfolding prefix_of
returns-then-zero-b-2 c =
    let s = c.args.s.now in
    rw (prefix_test 48 120 88 s (search rules), c.if-zero-b.false, prefix_test 48 98 66 s (search rules), c.if-zero-b-2.true) refl

pub returns : goal.returns
unfolding prefix_of
returns c =
    let s = c.args.s.now in
    rw (prefix_test 48 120 88 s (search rules), c.if-zero-b.false, prefix_test 48 98 66 s (search rules), c.if-zero-b-2.false) refl
