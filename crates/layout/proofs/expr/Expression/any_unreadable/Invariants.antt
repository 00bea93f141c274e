-- `Expression::any_unreadable`: the invariant says that from here on one is unreadable where one is of the whole.
use Prim.Native.Nat.{◌-◌}
use mathlib.Core.Path.{◌≡◌}
use lib.ListN.{length}
use Rattle.layout.specs.Expressions.{tokens, any_unreadable}
use Rattle.layout.specs.Code.Tokens.{spaced_in, tokens_from}
use Rattle.layout.proofs.expr.Expression.any_unreadable.Given as goal

abbrev pub invariant-loop-token : goal.invariant-loop-token
invariant-loop-token l = any_unreadable (tokens_from l.self.one_space l.self.source.now l.at) ≡ any_unreadable (tokens (spaced_in l.self.one_space l.self.source.now))

abbrev pub decreases-loop-token : goal.decreases-loop-token
decreases-loop-token l = length l.self.source.now - l.at
