-- `literals::escape`: each arm knows its letter, and the last that e is none of them; the definition makes the same tests.
use mathlib.Core.Path.{refl}
use borrow.Author.Tests.{ne_eqb}
use Rattle.numbers.proofs.literals.escape.Goals as goal

pub returns-in-110 : goal.returns-in-110
returns-in-110 c = rw c.in-110.is refl

pub returns-in-116 : goal.returns-in-116
returns-in-116 c = rw c.in-116.is refl

pub returns-in-114 : goal.returns-in-114
returns-in-114 c = rw c.in-114.is refl

pub returns-in-48 : goal.returns-in-48
returns-in-48 c = rw c.in-48.is refl

pub returns-in-92 : goal.returns-in-92
returns-in-92 c = rw c.in-92.is refl

pub returns-in-39 : goal.returns-in-39
returns-in-39 c = rw c.in-39.is refl

pub returns-in-34 : goal.returns-in-34
returns-in-34 c = rw c.in-34.is refl

pub returns-in_default : goal.returns-in_default
returns-in_default c =
    let none_of = c.in_default.in_default-own.rest in
    rw (ne_eqb _ _ none_of.0.0.0.0.0.0.1, ne_eqb _ _ none_of.0.0.0.0.0.1, ne_eqb _ _ none_of.0.0.0.0.1, ne_eqb _ _ none_of.0.0.0.1, ne_eqb _ _ none_of.0.0.1, ne_eqb _ _ none_of.0.1, ne_eqb _ _ none_of.1) refl
