-- `Names::value`: an equate's value, or a label's address.
use mathlib.Core.Path.{sym, ◌∙◌}
use mir.Syntax.{w64}
use mir.Val.{SFits}
use mir.Facts.{to_z-of_z}
use Rattle.layout.proofs.AddressLaws.{placed_indexed}
use Rattle.layout.proofs.ScopeLaws.{look-equate, look-label}
use borrow.Author.Rules.{rules}
use Rattle.layout.proofs.names.Names.value.Goals as goal

pub address-requires : goal.address-requires
address-requires c = placed_indexed c.requires.stands.labels

pub returns-in-Some : goal.returns-in-Some
returns-in-Some c =
    let fit : SFits w64 c.in-Some.v = search rules in
    λ names n. rw (to_z-of_z fit) (look-equate names _ _ ((sym c.in-Some.is) ∙ c.constant.ensures names.known n.equates))

pub returns : goal.returns
returns c =
    λ names n.
    look-label names _ ((sym c.in_default.is) ∙ c.constant.ensures names.known n.equates) _ (c.address.ensures names.base names.state n.labels) _ c.map.ensures.cases
