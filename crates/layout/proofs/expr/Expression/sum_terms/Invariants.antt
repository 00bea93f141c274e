-- `Expression::sum_terms`: what is summed so far, carried on from here, is what was to be summed, whatever other names get values.
use Prim.Native.Nat.{◌-◌}
use lib.IntN.{pos}
use lib.ListN.{length}
use Rattle.layout.specs.Code.Names.{Scope, look_in, StandFor}
use Rattle.layout.specs.Code.Terms.{sum_on, GoesOn}
use Rattle.layout.proofs.expr.Expression.sum_terms.Given as goal

abbrev pub invariant-loop-joining : goal.invariant-loop-joining
invariant-loop-joining l = (names : Scope) → StandFor l.names names
    → GoesOn (look_in names) l.self.one_space l.self.source.now (pos l.self.here) (sum_on l.self.one_space l.self.source.now (pos l.self.here) (record { sum = l.initial.sum; at = l.initial.at })) (record { sum = l.sum; at = l.at })

abbrev pub decreases-loop-joining : goal.decreases-loop-joining
decreases-loop-joining l = length l.self.source.now - l.at
