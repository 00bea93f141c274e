-- `bss::grow_bss`: the definition makes the code's test.
use mathlib.Core.Path.{refl}
use borrow.Author.Tests.{le-leb, lt-leb}
use Rattle.layout.specs.Stage.{grow_bss}
use Rattle.layout.proofs.bss.grow_bss.Goals as goal

pub returns-then-size-gt-BSS_LIMIT : goal.returns-then-size-gt-BSS_LIMIT
unfolding grow_bss
returns-then-size-gt-BSS_LIMIT c = rw (grow_bss, lt-leb _ _ c.if-size-gt-BSS_LIMIT.true) refl

pub returns : goal.returns
unfolding grow_bss
returns c = rw (grow_bss, le-leb _ _ c.if-size-gt-BSS_LIMIT.false) refl
