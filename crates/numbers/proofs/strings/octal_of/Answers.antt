-- `strings::octal_of`: the first n bytes are digits, and v is their value.
use mathlib.Core.Path.{◌≡◌, refl, sym, ◌∙◌}
use native.Mathlib.Omega.{arith}
use mathlib.Core.Bool.{true}
use Rattle.numbers.specs.Text.{is_digit}
use Rattle.numbers.specs.Numbers.{value_from}
use Rattle.numbers.proofs.CharLaws.{digit_between, octal_end, octal_stop, octal_more, octal_value_lem, few_small, more_small}
use borrow.Author.Rules.{rules}
use Rattle.numbers.proofs.strings.octal_of.Goals as goal
use Rattle.numbers.proofs.strings.octal_of.Goals.{Else-not-is_digit}

pub loop-n-init : goal.loop-n-init
unfolding value_from
loop-n-init c = (omega arith, refl, omega arith)

pub returns-then-not-is_digit : goal.returns-then-not-is_digit
returns-then-not-is_digit c =
    let d = sym c.is_digit.ensures ∙ c.if-not-is_digit.true in
    c.octal.ensures ∙ octal_stop _ _ _ c.loop-n.invariant.0 c.loop-n.invariant.1 _ c.byte_at-b.ensures d

-- the byte at n is a digit
digit : (d : Else-not-is_digit) → is_digit d.byte_at-b.result ≡ true
digit d = sym d.is_digit.ensures ∙ d.if-not-is_digit.false

pub overflow_mul-v : goal.overflow_mul-v
overflow_mul-v c =
    let h = few_small c.loop-n.v c.loop-n.n c.loop-n.invariant.2 c.loop-n-test.true in
    search rules

pub overflow_sub-v : goal.overflow_sub-v
overflow_sub-v c = (digit_between _ (digit c)).0

pub overflow_add-v : goal.overflow_add-v
overflow_add-v c =
    let h = few_small c.loop-n.v c.loop-n.n c.loop-n.invariant.2 c.loop-n-test.true in
    search rules

pub loop-n-preserved : goal.loop-n-preserved
loop-n-preserved c =
    let k = c.loop-n-test.true in (
      octal_more _ _ _ c.loop-n.invariant.0 c.loop-n.invariant.1 _ c.byte_at-b.ensures k (digit c),
      octal_value_lem _ _ _ c.loop-n.invariant.0 c.loop-n.invariant.1 _ c.byte_at-b.ensures k (digit c),
      more_small c.loop-n.v c.loop-n.n c.byte_at-b.result c.loop-n.invariant.2 (digit c),
    )

pub returns : goal.returns
returns c =
    let all : c.loop-n.n ≡ 3 = omega (arith, c.loop-n-test.false, c.loop-n.auto.n-end) in
    c.octal-2.ensures ∙ octal_end _ _ _ (rw all at c.loop-n.invariant.0) (rw all at c.loop-n.invariant.1) (omega arith)
