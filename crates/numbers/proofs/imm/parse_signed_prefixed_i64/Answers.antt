-- `imm::parse_signed_prefixed_i64`: a plain number, or the number of the trimmed text.
use mathlib.Core.Path.{sym, ◌∙◌}
use mir.Syntax.{w64}
use mir.Val.{SFits}
use mir.Facts.{to_z-of_z}
use Rattle.numbers.specs.Numbers.{number_of}
use borrow.Author.Rules.{rules}
use Rattle.numbers.proofs.Shorts.{plain_means}
use Rattle.numbers.proofs.imm.parse_signed_prefixed_i64.Goals as goal

pub returns-in-Some : goal.returns-in-Some
returns-in-Some c =
    let f : SFits w64 c.in-Some.v = search rules in
    let plain = plain_means _ _ (sym c.plain_number.ensures ∙ c.in-Some.is) in
    rw (to_z-of_z f) (sym plain.0)

pub returns : goal.returns
unfolding number_of
returns c = simp (c.trimmed_number.ensures, c.trim.ensures)
