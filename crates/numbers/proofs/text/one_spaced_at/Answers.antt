-- `text::one_spaced_at`: the definition looks at the byte at the place and at the one after it, as the code does.
use Prim.Native.Nat.{◌+◌}
use mathlib.Core.Path.{refl, sym, ◌∙◌}
use Rattle.numbers.proofs.Spaced.{head_other, head_space, first_at, first_end}
use borrow.Author.Rules.{rules}
use Rattle.numbers.proofs.text.one_spaced_at.Goals as goal

pub returns-then-not-is_space : goal.returns-then-not-is_space
returns-then-not-is_space c =
    let a = c.args in
    let other = sym c.is_space.ensures ∙ c.if-not-is_space.true in
    sym (head_other a.s.now a.i (search rules) other)

pub returns-then-s-i : goal.returns-then-s-i
returns-then-s-i c =
    let a = c.args in
    let space = sym c.is_space.ensures ∙ c.if-not-is_space.false in
    rw (head_space a.s.now a.i (search rules) space, first_end a.s.now _ c.if-s-i.true) refl

pub returns-then-is_space : goal.returns-then-is_space
returns-then-is_space c =
    let a = c.args in
    let space = sym c.is_space.ensures ∙ c.if-not-is_space.false in
    rw (head_space a.s.now a.i (search rules) space, first_at a.s.now (a.i + 1) (search rules), ← c.is_space-2.ensures, c.if-is_space.true) refl

pub returns : goal.returns
returns c =
    let a = c.args in
    let space = sym c.is_space.ensures ∙ c.if-not-is_space.false in
    rw (head_space a.s.now a.i (search rules) space, first_at a.s.now (a.i + 1) (search rules), ← c.is_space-2.ensures, c.if-is_space.false) refl
