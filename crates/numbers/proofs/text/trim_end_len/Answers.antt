-- `text::trim_end_len`: the invariant says that the text up to i is trimmed as the whole text is.
use Prim.Native.Nat.{◌-◌}
use mathlib.Core.Path.{◌≡◌, sym, ◌∙◌, ap}
use native.Mathlib.Omega.{arith}
use mathlib.Core.Bool.{true, false}
use lib.ListN.{length, get_or}
use lib.Seq.{take-length}
use borrow.Author.Rules.{rules}
use Rattle.numbers.specs.Text.{is_space, trim_end}
use Rattle.numbers.proofs.Trims.{end_space, end_other, end_none}
use Rattle.numbers.proofs.text.trim_end_len.Goals as goal

pub loop-i-init : goal.loop-i-init
loop-i-init c = (search rules, ap trim_end (take-length _))

pub returns-then-not-is_space : goal.returns-then-not-is_space
returns-then-not-is_space c =
    let s = c.args.s.now in
    let e : is_space (get_or s (c.loop-i.i - 1) 0) ≡ false = sym c.is_space.ensures ∙ c.if-not-is_space.true in
    omega (arith, end_other s c.loop-i.i (search rules) (search rules) e, ap length c.loop-i.invariant.1)

pub loop-i-preserved : goal.loop-i-preserved
loop-i-preserved c =
    let s = c.args.s.now in
    let e : is_space (get_or s (c.loop-i.i - 1) 0) ≡ true = sym c.is_space.ensures ∙ c.if-not-is_space.false in
    (search rules, end_space s c.loop-i.i (search rules) (search rules) e ∙ c.loop-i.invariant.1)

pub returns : goal.returns
returns c = omega (arith, end_none c.args.s.now c.loop-i.i c.loop-i-test.false, ap length c.loop-i.invariant.1)
