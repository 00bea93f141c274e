-- `short::digits_at`: the digits from i on up to the comma, after the value so far, give what all of them give.
use Prim.Native.Nat.{◌+◌, ◌-◌, ◌*◌, ◌^◌, ◌≤◌, ◌<◌}
use mathlib.Core.Path.{◌≡◌, ◌∙◌}
use native.Mathlib.Omega.{arith}
use lib.ListN.{get_or}
use borrow.Author.Rules.{rules}
use Rattle.numbers.specs.Text.{byte}
use Rattle.numbers.proofs.Values.{base_bounds}
use Rattle.numbers.proofs.Places.{find_more, find_stop, find_end}
use Rattle.numbers.proofs.Shorts.{more_within, no_comma, run_more, run_empty, run-other, run_beyond, run_end, comma_after}
use Rattle.numbers.proofs.short.digits_at.Goals as goal
use Rattle.numbers.proofs.short.digits_at.Goals.{After-base-base, At-loop-i, Else-value-gt268435455}

small-base : (c : After-base-base) → c.base-base.result ≤ 16
small-base c = omega (arith, c.base-base.ensures, base_bounds c.args.radix)

-- one digit more keeps the value within the limit
small : (c : Else-value-gt268435455) →
    c.loop-i.value * c.base-base.result + c.digit-d.result ≤ 2 ^ 28 * c.base-base.result - 1
small c =
    more_within c.base-base.result c.loop-i.value _ (search rules) c.if-base-d.false

-- and this is below 2^32
value-small : (c : At-loop-i) → c.loop-i.value < 2 ^ 32
value-small c = omega (arith, c.loop-i.invariant.2, c.base-base.ensures, base_bounds c.args.radix)

pub returns-then-b-i : goal.returns-then-b-i
returns-then-b-i c =
    let inv = c.loop-i.invariant in
    rw (← c.base-base.ensures) (run-other _ _ _ _ c.loop-i.i inv.4 _ (search rules) c.digit-d.ensures c.if-base-d.true inv.0 c.if-b-i.true)

pub overflow_cast-result : goal.overflow_cast-result
overflow_cast-result c = omega (arith, value-small (goal.at.overflow_cast-result c).At-loop-i)

pub returns-then-base-d : goal.returns-then-base-d
returns-then-base-d c =
    let a = c.args in
    let s = a.s.now in
    let i = c.loop-i.i in
    let inv = c.loop-i.invariant in
    let stop = comma_after (get_or s i 0) i a.first c.if-b-i.false in
    rw (← c.base-base.ensures) (run_end _ _ _ _ i inv.4 stop.1 inv.3 (find_stop (byte ",") s i (search rules) stop.0) inv.2)

pub returns-then-value-gt268435455 : goal.returns-then-value-gt268435455
returns-then-value-gt268435455 c =
    let b = small-base (goal.at.returns-then-value-gt268435455 c).After-base-base in
    rw (← c.base-base.ensures)
    (run_beyond _ _ _ _ c.loop-i.i c.loop-i.invariant.4 _ (search rules) c.digit-d.ensures b c.if-base-d.false c.if-value-gt268435455.true)

pub overflow_mul-value : goal.overflow_mul-value
overflow_mul-value c = omega (arith, small c, small-base (goal.at.overflow_mul-value c).After-base-base)

pub overflow_add-value : goal.overflow_add-value
overflow_add-value c = omega (arith, small c, small-base (goal.at.overflow_add-value c).After-base-base)

pub loop-i-preserved : goal.loop-i-preserved
loop-i-preserved c =
    let a = c.args in
    let base = c.base-base.result in
    let s = a.s.now in
    let i = c.loop-i.i in
    let inv = c.loop-i.invariant in
    let b = small-base (goal.at.loop-i-preserved c).After-base-base in
    let more = find_more (byte ",") s i (search rules) (no_comma base c.loop-i.value s i c.digit-d.result (search rules) c.digit-d.ensures b c.if-base-d.false) in
    let run = run_more base c.loop-i.value s i c.digit-d.result (search rules) c.digit-d.ensures _ b c.if-base-d.false in
    (search rules, search rules, small c, omega (arith, more, inv.3), run ∙ inv.4)

pub returns-then-i-first : goal.returns-then-i-first
returns-then-i-first c =
    let a = c.args in
    let start : c.loop-i.i ≡ a.first = omega (arith, c.loop-i.invariant.0, c.if-i-first.true) in
    rw (← c.base-base.ensures) (run_empty _ a.s.now a.first (rw start at (find_end (byte ",") a.s.now c.loop-i.i c.loop-i-test.false)))

pub overflow_cast-result-2 : goal.overflow_cast-result-2
overflow_cast-result-2 c = omega (arith, value-small (goal.at.overflow_cast-result-2 c).At-loop-i)

pub returns : goal.returns
returns c =
    let inv = c.loop-i.invariant in
    let end = find_end (byte ",") c.args.s.now c.loop-i.i c.loop-i-test.false in
    rw (← c.base-base.ensures) (run_end _ _ _ _ c.loop-i.i inv.4 c.if-i-first.false inv.3 end inv.2)
