-- `strings::quote_from`: the quote found from i on, where a quote, a backslash or the end is, is the one found from the start.
use Prim.Native.Nat.{◌+◌, ◌≤◌}
use native.Mathlib.Omega.{arith}
use lib.ListN.{length}
use Rattle.numbers.proofs.QuoteLaws.{quote_here, quote_escaped, quote_cut, quote_end, quote_on, mark_within, mark_rests}
use borrow.Author.Rules.{rules}
use Rattle.numbers.proofs.strings.quote_from.Goals as goal

pub returns-then-s-i-eq34 : goal.returns-then-s-i-eq34
returns-then-s-i-eq34 c = omega (arith, quote_here c.args.s.now c.loop-i.i (search rules) c.if-s-i-eq34.true)

pub returns-then-s-i-lt2 : goal.returns-then-s-i-lt2
returns-then-s-i-lt2 c =
    let h = c.loop-i-test.true in
    omega (arith, quote_cut c.args.s.now c.loop-i.i h c.loop-i.invariant.1 c.if-s-i-eq34.false (omega arith))

pub loop-i-smaller : goal.loop-i-smaller
loop-i-smaller c = omega (arith, c.mark_from-i.ensures)

pub loop-i-preserved : goal.loop-i-preserved
loop-i-preserved c =
    let s = c.args.s.now in
    let i = c.loop-i.i in
    let k : i + 2 ≤ length s = omega (arith, c.if-s-i-lt2.false, c.loop-i.invariant.0) in
    let h = c.loop-i-test.true in
    let m = c.mark_from-i.ensures in (
      mark_within s (i + 2) c.mark_from-i.result k m,
      mark_rests s (i + 2) c.mark_from-i.result k m,
      omega (arith, quote_on s (i + 2) c.mark_from-i.result (omega arith) (omega arith), quote_escaped s i h c.loop-i.invariant.1 c.if-s-i-eq34.false k, c.loop-i.invariant.2),
    )

pub returns : goal.returns
returns c = omega (arith, quote_end c.args.s.now c.loop-i.i c.loop-i-test.false)
