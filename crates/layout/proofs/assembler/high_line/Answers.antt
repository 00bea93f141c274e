-- `assembler::high_line`: what the check gives from here on is what it gives of the whole text.
use mathlib.Core.Path.{refl}
use native.Mathlib.Omega.{arith}
use Rattle.layout.proofs.CheckLaws.{line_high, line_next, line_same, line_end}
use Rattle.layout.proofs.assembler.high_line.Goals as goal
use Rattle.layout.proofs.assembler.high_line.Goals.{then-b-eq10, else-b-eq10}

pub loop-b-init : goal.loop-b-init
loop-b-init c = (omega arith, refl)

pub returns-then-b-gt127 : goal.returns-then-b-gt127
returns-then-b-gt127 c = rw c.at.ensures (line_high _ _ _ c.loop-b-test.true c.loop-b.invariant.1 c.if-b-gt127.true)

pub overflow_add-line : goal.overflow_add-line
overflow_add-line c = omega (arith, c.loop-b.invariant.0, c.loop-b-test.true, c.requires)

pub loop-b-preserved : goal.loop-b-preserved
loop-b-preserved c =
    let taken = c.loop-b-test.true in
    let low = c.if-b-gt127.false in
    elim c.if-b-eq10.branch [
      | then-b-eq10 w ↦ (omega (arith, w.line-is, c.loop-b.invariant.0), rw w.line-is (line_next _ _ _ taken c.loop-b.invariant.1 low w.if-b-eq10.true))
      | else-b-eq10 w ↦ (omega (arith, w.line-is, c.loop-b.invariant.0), rw w.line-is (line_same _ _ _ taken c.loop-b.invariant.1 low w.if-b-eq10.false))
    ]

pub returns : goal.returns
returns c = line_end _ _ _ c.loop-b-test.false c.loop-b.invariant.1
