-- `digits::short_digits`: as `long_digits`, but the value after i digits is below 16^i, and so below 2^60.
use Prim.Native.Nat.{ℕ, ◌+◌, ◌*◌, ◌^◌, ◌<◌}
use mathlib.Core.Path.{◌≡◌, sym, ◌∙◌, ap}
use native.Mathlib.Omega.{arith}
use lib.ListN.{drop}
use borrow.Author.Rules.{rules}
use Rattle.numbers.specs.Numbers.{digits_from}
use Rattle.numbers.specs.Code.Meanings.{base_of}
use Rattle.numbers.proofs.Values.{base_bounds, one_more, no_digit, past_limit, digit_below, few_below, digits_end}
use Rattle.numbers.proofs.digits.short_digits.Goals as goal
use Rattle.numbers.proofs.digits.short_digits.Goals.{At-loop-b, Else-base-d}

-- the value with one digit more is below the next power of 16
below : (c : Else-base-d) →
    c.loop-b.value * c.base-base.result + c.digit-d.result < 16 ^ (c.loop-b.b-index + 1)
below c =
    let bounds = base_bounds c.args.radix in
    digit_below c.base-base.result c.loop-b.value c.loop-b.b-index _ (omega (arith, c.base-base.ensures)) c.loop-b.invariant.0 c.if-base-d.false

-- and fits
fits : (c : Else-base-d) →
    c.loop-b.value * c.base-base.result + c.digit-d.result < 2 ^ 60
fits c =
    omega (arith, below c, few_below (c.loop-b.b-index + 1) (search rules))

-- what the definition gives from here on is what it gives of the text, in the radix's base
gives : (c : At-loop-b) → let a = c.args in
    digits_from c.base-base.result a.limit c.loop-b.value (drop c.loop-b.b-index a.s.now) ≡ digits_from (base_of a.radix) a.limit 0 a.s.now
gives c =
    let a = c.args in
    c.loop-b.invariant.1 ∙ ap (λ (b : ℕ). digits_from b a.limit 0 a.s.now) c.base-base.ensures

pub returns-then-base-d : goal.returns-then-base-d
returns-then-base-d c = sym (no_digit _ _ _ _ c.loop-b.b-index _ (search rules) c.digit-d.ensures c.if-base-d.true) ∙ gives (goal.at.returns-then-base-d c).At-loop-b

pub overflow_mul-value : goal.overflow_mul-value
overflow_mul-value c = omega (arith, fits c)

pub overflow_add-value : goal.overflow_add-value
overflow_add-value c = omega (arith, fits c)

pub loop-b-preserved : goal.loop-b-preserved
loop-b-preserved c =
    let a = c.args in
    (below c, one_more c.base-base.result a.limit c.loop-b.value a.s.now c.loop-b.b-index _ (search rules) c.digit-d.ensures c.if-base-d.false ∙ c.loop-b.invariant.1)

pub returns-then-limit-value : goal.returns-then-limit-value
returns-then-limit-value c =
    let bounds = base_bounds c.args.radix in
    sym (past_limit _ _ _ _ (omega (arith, c.base-base.ensures)) c.if-limit-value.true) ∙ gives (goal.at.returns-then-limit-value c).At-loop-b

pub returns : goal.returns
returns c = sym (digits_end _ _ _ _ c.loop-b.b-index c.loop-b-test.false c.if-limit-value.false) ∙ gives (goal.at.returns c).At-loop-b
