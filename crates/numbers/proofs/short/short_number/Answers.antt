-- `short::short_number`: the digits after the blanks, after `0x` there, or after zeros that change nothing, are what the definition reads.
use mathlib.Core.Path.{◌≡◌, sym, ◌∙◌}
use mathlib.Core.Bool.{Bool, true, false}
use lib.ListN.{drop, length-drop}
use borrow.Author.Rules.{rules}
use Rattle.numbers.specs.Text.{text, starts_with}
use Rattle.numbers.proofs.Prefixes.{prefix_length, longer_prefix}
use Rattle.numbers.proofs.Shorts.{hex_bytes, decimal_short, zeros_short, hex_short}
use Rattle.numbers.proofs.short.short_number.Goals as goal
use Rattle.numbers.proofs.short.short_number.Goals.{After-byte_at-2, Else-not-byte_at}

pub returns-then-not-byte_at : goal.returns-then-not-byte_at
returns-then-not-byte_at c =
    let s = c.args.s.now in
    let first = c.after_blanks-first.result in
    let none = longer_prefix 48 (text "x") (drop first s) (sym c.byte_at.ensures ∙ c.if-not-byte_at.true) in
    c.digits_at.ensures ∙ decimal_short s c.args.at first c.after_blanks-first.ensures none

-- a zero stands after the blanks
zero : (c : Else-not-byte_at) → starts_with (text "0") (drop c.after_blanks-first.result c.args.s.now) ≡ true
zero c = sym c.byte_at.ensures ∙ c.if-not-byte_at.false

pub overflow_add-first : goal.overflow_add-first
overflow_add-first c =
    let first = c.after_blanks-first.result in
    let s = c.args.s.now in
    let one = prefix_length (text "0") (drop first s) (zero c) in
    let left = length-drop first s in
    search rules

-- `0x` does where the second byte is an x
hex : (c : After-byte_at-2) (x : Bool) → c.byte_at-2.result ≡ x →
    starts_with (text "0x") (drop c.after_blanks-first.result c.args.s.now) ≡ x
hex c x e =
    hex_bytes c.args.s.now c.after_blanks-first.result x (sym c.byte_at.ensures ∙ c.if-not-byte_at.false) (sym c.byte_at-2.ensures ∙ e)

pub overflow_add-first-then-byte_at : goal.overflow_add-first-then-byte_at
overflow_add-first-then-byte_at c =
    let first = c.after_blanks-first.result in
    let s = c.args.s.now in
    let two = prefix_length (text "0x") (drop first s) (hex (goal.at.overflow_add-first-then-byte_at c).After-byte_at-2 true c.if-byte_at.true) in
    let left = length-drop first s in
    search rules

pub returns-then-byte_at : goal.returns-then-byte_at
returns-then-byte_at c =
    let a = c.args in
    let there = hex (goal.at.returns-then-byte_at c).After-byte_at-2 true c.if-byte_at.true in
    c.digits_at-then-byte_at.ensures ∙ hex_short a.s.now a.at c.after_blanks-first.result c.after_blanks-first.ensures there

pub returns : goal.returns
returns c =
    let a = c.args in
    let none = hex (goal.at.returns c).After-byte_at-2 false c.if-byte_at.false in
    c.digits_at-2.ensures ∙ zeros_short a.s.now a.at c.after_blanks-first.result c.after_blanks-first.ensures none c.after_zeros.result c.after_zeros.ensures
