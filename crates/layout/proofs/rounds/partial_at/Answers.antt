-- `rounds::partial_at`: the row's two numbers.
use mathlib.Core.Path.{refl}
use mir.Syntax.{w64}
use mir.Val.{SFits}
use mir.Facts.{to_z-of_z}
use borrow.Author.Rules.{rules}
use Rattle.layout.proofs.rounds.partial_at.Goals as goal

pub returns : goal.returns
returns c =
    let fit : SFits w64 c.i64_of_bits.result = search rules in
    rw (to_z-of_z fit, c.i64_of_bits.ensures) refl
