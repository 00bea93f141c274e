-- `assembler::any_high`: what was seen so far, with what is left, is the whole text's.
use mathlib.Core.Path.{refl}
use Rattle.layout.proofs.CheckLaws.{high_next, high_end}
use Rattle.layout.proofs.assembler.any_high.Goals as goal

pub loop-b-init : goal.loop-b-init
loop-b-init c = refl

pub loop-b-preserved : goal.loop-b-preserved
loop-b-preserved c = high_next _ _ c.loop-b.high c.loop-b-test.true c.loop-b.invariant

pub returns : goal.returns
returns c = high_end _ _ _ c.loop-b-test.false c.loop-b.invariant
