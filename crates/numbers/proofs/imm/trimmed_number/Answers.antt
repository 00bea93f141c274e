-- `imm::trimmed_number`: the number after its sign, negated after a minus.
use mathlib.Core.Path.{sym, ◌∙◌}
use Rattle.numbers.proofs.Starts.{outer_minus, outer_after}
use Rattle.numbers.proofs.imm.trimmed_number.Goals as goal

pub returns-then-first_is : goal.returns-then-first_is
returns-then-first_is c =
    let e = sym c.first_is.ensures ∙ c.if-first_is.true in
    rw (← outer_minus _ e, ← c.after_sign.ensures, ← c.prefixed_number-n.ensures) c.negated_number.ensures

pub returns : goal.returns
returns c =
    let e = sym c.first_is.ensures ∙ c.if-first_is.false in
    rw (← outer_after _ e, ← c.after_sign.ensures) c.prefixed_number-n.ensures
