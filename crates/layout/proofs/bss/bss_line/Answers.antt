-- `bss::bss_line`: the bss grows to the place after the reservation.
use mathlib.Core.Path.{◌≡◌, refl}
use borrow.Author.Rules.{rules}
use Rattle.std.proofs.Common.{Err}
use Rattle.layout.specs.Stage.{bss_line}
use Rattle.layout.proofs.bss.bss_line.Goals as goal

pub returns-in_err-reservation_of : goal.returns-in_err-reservation_of
unfolding bss_line
returns-in_err-reservation_of c =
    let e : c.from_residual.result ≡ Err c.in_err-reservation_of.field-0.0 = search rules in
    rw (e, ← c.reservation_of.ensures.0, c.in_err-reservation_of.was) refl

pub returns : goal.returns
unfolding bss_line
returns c = rw (c.grow_bss.ensures, c.place_after.ensures, ← c.reservation_of.ensures.0, c.in_ok-reservation_of.was) refl
