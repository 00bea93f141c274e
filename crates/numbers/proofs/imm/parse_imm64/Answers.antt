-- `imm::parse_imm64`: a plain number, or of the trimmed text a character literal after a quote, else the number.
use mathlib.Core.Path.{sym, ◌∙◌}
use mir.Syntax.{w64}
use mir.Val.{SFits}
use mir.Facts.{to_z-of_z}
use Rattle.numbers.specs.Numbers.{literal_of, imm64_of}
use borrow.Author.Rules.{rules}
use Rattle.numbers.proofs.Shorts.{plain_means}
use Rattle.numbers.proofs.imm.parse_imm64.Goals as goal

pub returns-in-Some : goal.returns-in-Some
returns-in-Some c =
    let f : SFits w64 c.in-Some.v = search rules in
    let plain = plain_means _ _ (sym c.plain_number.ensures ∙ c.in-Some.is) in
    rw (to_z-of_z f) (sym plain.1)

pub returns-then-first_is : goal.returns-then-first_is
unfolding imm64_of literal_of
returns-then-first_is c = simp (c.widened.ensures, c.parse_char_lit.ensures, ← c.trim-t.ensures, ← c.first_is.ensures, c.if-first_is.true)

pub returns : goal.returns
unfolding imm64_of literal_of
returns c = simp (c.trimmed_number.ensures, ← c.trim-t.ensures, ← c.first_is.ensures, c.if-first_is.false)
