-- `Names::look_up`: what is wanted, by the names that are lent.
use mathlib.Core.Path.{refl, sym}
use mir.Syntax.{w32}
use mir.Val.{SFits}
use mir.Facts.{to_z-of_z}
use Rattle.layout.proofs.AddressLaws.{placed_indexed}
use borrow.Author.Rules.{rules}
use Rattle.layout.proofs.names.Names.look_up.Goals as goal

pub label_arguments-requires : goal.label_arguments-requires
label_arguments-requires c = placed_indexed c.requires.stands.labels

pub label_arguments-requires-in-RegisterLabel : goal.label_arguments-requires-in-RegisterLabel
label_arguments-requires-in-RegisterLabel c = placed_indexed c.requires.stands.labels

pub returns-in-Register : goal.returns-in-Register
returns-in-Register c = λ names stand. rw c.in-Register.is refl

pub returns-in-Number : goal.returns-in-Number
returns-in-Number c =
    let fit : SFits w32 c.in-Number.v = search rules in
    λ names stand. rw (c.in-Number.is, c.number_arguments.ensures, to_z-of_z fit) refl

pub returns-in-Equate : goal.returns-in-Equate
returns-in-Equate c = λ names stand. rw (c.in-Equate.is, sym c.span_bytes.ensures) (c.equate_arguments.ensures names.known stand.equates)

pub returns-in-Label : goal.returns-in-Label
returns-in-Label c = λ names stand. rw (c.in-Label.is, sym c.span_bytes-in-Label.ensures) (c.label_arguments.ensures names.base names.state stand.labels)

pub returns-in-RegisterLabel : goal.returns-in-RegisterLabel
returns-in-RegisterLabel c = λ names stand. rw (c.in-RegisterLabel.is, sym c.span_bytes-in-RegisterLabel.ensures) (c.label_arguments-in-RegisterLabel.ensures names.base names.state stand.labels)
