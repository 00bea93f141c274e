-- `Write::size`: as many bytes as the write has.
use native.Mathlib.Omega.{arith}
use Rattle.layout.proofs.DataLaws.{after_bounds, text_small, number_takes, text_takes, gap_takes}
use Rattle.layout.proofs.data.Write.size.Goals as goal

pub overflow_add-result : goal.overflow_add-result
overflow_add-result c =
    let h = rw c.in-Text.is at c.requires.0 in
    record { fits = omega (arith, text_small _ _ h.0, h.1, c.requires.1) }

pub place_after-requires : goal.place_after-requires
place_after-requires c = (omega (arith, c.requires), rw c.in-Gap.is at c.requires.0)

pub overflow_sub-result : goal.overflow_sub-result
overflow_sub-result c =
    rw c.place_after.ensures
    (after_bounds _ c.in-Gap.reservation (rw c.in-Gap.is at c.requires.0)).0

pub returns-in-Number : goal.returns-in-Number
returns-in-Number c = number_takes _ _ _ _ _ _ c.in-Number.is c.bytes.ensures

pub returns-in-Text : goal.returns-in-Text
returns-in-Text c = text_takes _ _ _ _ _ c.in-Text.is c.requires.0 c.requires.1

pub returns-in-Gap : goal.returns-in-Gap
returns-in-Gap c = gap_takes _ _ _ _ _ c.in-Gap.is c.requires.0 c.place_after.ensures
