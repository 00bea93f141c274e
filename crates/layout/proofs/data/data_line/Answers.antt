-- `data::data_line`: each turn writes what is read next, and the others are left.
use mathlib.Core.Path.{◌≡◌, ap}
use borrow.Author.Rules.{rules}
use Rattle.std.proofs.Common.{Err}
use Rattle.layout.specs.Code.Numbers.{numbered}
use Rattle.layout.proofs.ReadingLaws.{writing_ends, writing_refused, writing_stops, writing_goes}
use Rattle.layout.proofs.data.data_line.Goals as goal

pub loop-write-preserved : goal.loop-write-preserved
loop-write-preserved c =
    let next = rw (c.in_ok-write.was, c.in-Some.is) at c.next_write.ensures in
    writing_goes _ _ _ _ _ _ _ _ _ _ _ _ c.loop-write.invariant _ _ next.0 _ _ _ c.data_write.ensures
    _ (ap numbered c.in_ok-now.was) c.data_write.auto.data_bytes c.data_write.auto.label_words

pub returns-in_err-now : goal.returns-in_err-now
returns-in_err-now c =
    let next = rw (c.in_ok-write.was, c.in-Some.is) at c.next_write.ensures in
    let e : c.from_residual-in_err-now.result ≡ Err c.in_err-now.field-0.0 = search rules in
    rw (e, ← c.readings_of-readings.ensures.0)
    (writing_stops _ _ _ _ _ _ _ _ _ _ _ _ c.loop-write.invariant _ _ next.0 _ _ _ c.data_write.ensures
    _ (ap numbered c.in_err-now.was))

pub returns-in_err-write : goal.returns-in_err-write
returns-in_err-write c =
    let e : c.from_residual.result ≡ Err c.in_err-write.field-0.0 = search rules in
    rw (e, ← c.readings_of-readings.ensures.0)
    (writing_refused _ _ _ _ _ _ _ _ _ _ _ _ c.loop-write.invariant _ (rw c.in_err-write.was at c.next_write.ensures))

pub returns : goal.returns
returns c =
    rw (← c.readings_of-readings.ensures.0)
    (writing_ends _ _ _ _ _ _ _ _ _ _ _ _ c.loop-write.invariant (rw (c.in_ok-write.was, c.in_default.is) at c.next_write.ensures))
