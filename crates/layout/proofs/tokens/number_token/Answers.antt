-- `tokens::number_token`: the token of what the bytes read as.
use mathlib.Core.Path.{refl}
use mir.Syntax.{w64}
use mir.Val.{SFits}
use mir.Facts.{to_z-of_z}
use borrow.Author.Rules.{rules}
use Rattle.layout.proofs.tokens.number_token.Goals as goal

pub returns-in-Some : goal.returns-in-Some
returns-in-Some c =
    let f : SFits w64 c.in-Some.v = search rules in
    rw (← c.parse_signed_prefixed_i64.ensures, c.in-Some.is, to_z-of_z f) refl

pub returns-in-None : goal.returns-in-None
returns-in-None c = rw (← c.parse_signed_prefixed_i64.ensures, c.in-None.is) refl
