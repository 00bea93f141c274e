-- `Expression::signed_term`: along the signs, what is left makes the same sign, and the same term stands behind it.
use Prim.Native.Nat.{◌-◌}
use lib.ListN.{length}
use Rattle.layout.proofs.TermLaws.{Signing}
use Rattle.layout.proofs.expr.Expression.signed_term.Given as goal

abbrev pub invariant-loop-token : goal.invariant-loop-token
invariant-loop-token l = Signing l.self.one_space l.self.source.now l.from l.own l.at

abbrev pub decreases-loop-token : goal.decreases-loop-token
decreases-loop-token l = length l.self.source.now - l.at
