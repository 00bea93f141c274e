-- `digits::long_digits`: the digits from i on, after the value so far, give what all of them give.
use Prim.Native.Nat.{ℕ, ◌-◌, ◌*◌, ◌/◌, ◌<◌, ◌≤◌}
use mathlib.Core.Path.{◌≡◌, sym, ◌∙◌, ap}
use native.Mathlib.Omega.{arith}
use lib.ListN.{length, take, drop}
use borrow.Author.Rules.{rules}
use Rattle.numbers.specs.declared.digits.Radix.{Radix}
use Rattle.numbers.specs.Numbers.{digits_from}
use Rattle.numbers.specs.Code.Meanings.{base_of}
use Rattle.numbers.specs.Code.Starts.{is_zero, leading_zeros}
use Rattle.numbers.proofs.Trims.{leading-within, tail}
use Rattle.numbers.proofs.Values.{base_bounds, zeros_before, one_more, no_digit, too_large, quotient_above, quotient_within, digits_end}
use Rattle.numbers.proofs.digits.long_digits.Goals as goal
use Rattle.numbers.proofs.digits.long_digits.Goals.{After-after_zeros-from, At-loop-b, Else-most-value}

-- a base is not 0
positive : (radix : Radix) (b : ℕ) → b ≡ base_of radix → 0 < b
positive radix b e = omega (arith, e, base_bounds radix)

-- the quotient is that of the base in hand, and a value up to it times the base is within the limit
most_is : (radix : Radix) (b limit most : ℕ) → b ≡ base_of radix → most ≡ limit / base_of radix → most ≡ limit / b
most_is radix b limit most e q = q ∙ ap (λ (d : ℕ). limit / d) (sym e)

fits : (c : Else-most-value)
    → c.loop-b.value * c.base-base.result
    ≤ c.args.limit
fits c =
    quotient_within _ _ _ (positive _ _ c.base-base.ensures) (rw (most_is _ _ _ _ c.base-base.ensures c.quotient-most.ensures) at c.if-most-value.false)

-- the zeros that are passed stand at the text's start
zeros : (c : After-after_zeros-from) → c.after_zeros-from.result ≤ leading_zeros c.args.s.now
zeros c = omega (arith, c.after_zeros-from.ensures)

pub slice_bounds-digits-count : goal.slice_bounds-digits-count
slice_bounds-digits-count c = omega (arith, zeros c, leading-within is_zero c.args.s.now)

pub slice_bounds-digits-start : goal.slice_bounds-digits-start
slice_bounds-digits-start c = let h : c.after_zeros-from.result ≤ length c.args.s.now = omega (arith, zeros c, leading-within is_zero c.args.s.now) in search rules

pub loop-b-init : goal.loop-b-init
loop-b-init c =
    let s = c.args.s.now in
    (omega arith, rw tail (zeros_before c.base-base.result _ _ s (positive _ _ c.base-base.ensures) (zeros (goal.at.loop-b-init c).After-after_zeros-from)))

-- what the definition gives from here on is what it gives of the text, in the radix's base
gives : (c : At-loop-b) → let a = c.args in
    let k = c.after_zeros-from.result in
    digits_from c.base-base.result a.limit c.loop-b.value (drop c.loop-b.b-index (take (length a.s.now - k) (drop k a.s.now))) ≡ digits_from (base_of a.radix) a.limit 0 a.s.now
gives c =
    let a = c.args in
    c.loop-b.invariant.1 ∙ ap (λ (b : ℕ). digits_from b a.limit 0 a.s.now) c.base-base.ensures

pub returns-then-base-d : goal.returns-then-base-d
returns-then-base-d c = sym (no_digit _ _ _ _ c.loop-b.b-index _ (search rules) c.digit-d.ensures c.if-base-d.true) ∙ gives (goal.at.returns-then-base-d c).At-loop-b

pub returns-then-most-value : goal.returns-then-most-value
returns-then-most-value c =
    let p = positive _ _ c.base-base.ensures in
    sym (too_large _ _ _ _ c.loop-b.b-index _ (search rules) c.digit-d.ensures p c.if-base-d.false (quotient_above _ _ _ _ p (rw (most_is _ _ _ _ c.base-base.ensures c.quotient-most.ensures) at c.if-most-value.true))) ∙ gives (goal.at.returns-then-most-value c).At-loop-b

pub overflow_mul-shifted : goal.overflow_mul-shifted
overflow_mul-shifted c = omega (arith, fits c)

pub overflow_sub-limit : goal.overflow_sub-limit
overflow_sub-limit c = omega (arith, fits c)

pub returns-then-limit-shifted : goal.returns-then-limit-shifted
returns-then-limit-shifted c =
    let p = positive _ _ c.base-base.ensures in
    let k = fits (goal.at.returns-then-limit-shifted c).Else-most-value in
    sym (too_large _ _ _ _ c.loop-b.b-index _ (search rules) c.digit-d.ensures p c.if-base-d.false (omega arith)) ∙ gives (goal.at.returns-then-limit-shifted c).At-loop-b

pub overflow_add-value : goal.overflow_add-value
overflow_add-value c = omega (arith, fits (goal.at.overflow_add-value c).Else-most-value)

pub loop-b-preserved : goal.loop-b-preserved
loop-b-preserved c =
    let k = fits (goal.at.loop-b-preserved c).Else-most-value in
    (omega arith, one_more _ _ c.loop-b.value _ c.loop-b.b-index _ (search rules) c.digit-d.ensures c.if-base-d.false ∙ c.loop-b.invariant.1)

pub returns : goal.returns
returns c = sym (digits_end _ _ _ _ c.loop-b.b-index c.loop-b-test.false c.loop-b.invariant.0) ∙ gives (goal.at.returns c).At-loop-b
