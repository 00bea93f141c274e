-- `directives::align_up`: the two ways of the definition.
use mathlib.Core.Path.{sym}
use Rattle.layout.proofs.ReservationLaws.{aligned_stays, aligned_moves}
use Rattle.layout.proofs.directives.align_up.Goals as goal

pub returns-then-p-low-eq0 : goal.returns-then-p-low-eq0
returns-then-p-low-eq0 c = sym (aligned_stays c.args.n c.args.p c.if-p-low-eq0.true)

pub returns : goal.returns
returns c = sym (aligned_moves c.args.n c.args.p c.requires.0 c.if-p-low-eq0.false)
