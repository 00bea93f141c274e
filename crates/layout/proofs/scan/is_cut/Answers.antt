-- `scan::is_cut`: each arm knows its byte, and the last that b is none of them.
use mathlib.Core.Path.{refl}
use borrow.Author.Tests.{ne_eqb}
use Rattle.layout.proofs.scan.is_cut.Goals as goal

pub returns-in-10 : goal.returns-in-10
returns-in-10 c = rw c.in-10.is refl

pub returns-in-59 : goal.returns-in-59
returns-in-59 c = rw c.in-59.is refl

pub returns-in-35 : goal.returns-in-35
returns-in-35 c = rw c.in-35.is refl

pub returns-in-58 : goal.returns-in-58
returns-in-58 c = rw c.in-58.is refl

pub returns-in-61 : goal.returns-in-61
returns-in-61 c = rw c.in-61.is refl

pub returns-in_default : goal.returns-in_default
returns-in_default c =
    let none_of = c.in_default.in_default-own.rest in
    rw (ne_eqb _ _ none_of.0.0.0.0.1, ne_eqb _ _ none_of.0.0.0.1, ne_eqb _ _ none_of.0.0.1, ne_eqb _ _ none_of.0.1, ne_eqb _ _ none_of.1) refl
