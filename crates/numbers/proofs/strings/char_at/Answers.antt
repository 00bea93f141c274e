-- `strings::char_at`: the text from the place on has none of its bytes there, or begins with the byte there.
use mathlib.Core.Path.{refl, ◌∙◌}
use native.Mathlib.Numerals.{add-one}
use lib.ListN.{drop_of_length-le}
use lib.Seq.{drop-cons}
use borrow.Author.Tests.{eq-eqb, ne_eqb}
use Rattle.numbers.specs.Strings.{char_of}
use Rattle.numbers.proofs.Trims.{tail}
use Rattle.numbers.proofs.strings.char_at.Goals as goal

pub returns-then-s-at : goal.returns-then-s-at
unfolding char_of
returns-then-s-at c = rw (drop_of_length-le c.args.s.now c.if-s-at.true) refl

pub returns-then-b-eq92 : goal.returns-then-b-eq92
unfolding char_of
returns-then-b-eq92 c =
    let a = c.args in
    c.escape_of.ensures ∙ rw (tail, add-one a.at, drop-cons a.s.now a.at 0 c.if-s-at.false, eq-eqb _ _ c.if-b-eq92.true) refl

pub returns : goal.returns
unfolding char_of
returns c =
    let a = c.args in
    rw (drop-cons a.s.now a.at 0 c.if-s-at.false, ne_eqb _ _ c.if-b-eq92.false) refl
