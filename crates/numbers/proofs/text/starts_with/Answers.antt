-- `text::starts_with`: the invariant says that the rest of the text begins with the rest of the prefix just where the text begins with the prefix.
use mathlib.Core.Path.{refl, sym, ◌∙◌}
use borrow.Author.Rules.{rules}
use Rattle.numbers.proofs.Prefixes.{short, prefix_more, prefix_other, prefix_end}
use Rattle.numbers.proofs.text.starts_with.Goals as goal

pub returns-then-s-prefix : goal.returns-then-s-prefix
returns-then-s-prefix c = sym (short _ _ c.if-s-prefix.true)

pub loop-i-init : goal.loop-i-init
loop-i-init c = (search rules, search rules, refl)

pub returns-then-s-i : goal.returns-then-s-i
returns-then-s-i c =
    let a = c.args in
    sym (prefix_other a.prefix.now a.s.now c.loop-i.i (search rules) (search rules) c.if-s-i.true) ∙ c.loop-i.invariant.2

pub loop-i-preserved : goal.loop-i-preserved
loop-i-preserved c =
    let a = c.args in
    (search rules, search rules, prefix_more a.prefix.now a.s.now c.loop-i.i (search rules) (search rules) c.if-s-i.false ∙ c.loop-i.invariant.2)

pub returns : goal.returns
returns c = sym (prefix_end _ _ _ c.loop-i-test.false) ∙ c.loop-i.invariant.2
