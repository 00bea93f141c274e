-- `expansions::number_arguments`: by a single addi, or by the pair.
use mathlib.Core.Path.{refl, sym, ◌∙◌}
use mir.Facts.{to_z-of_z}
use Rattle.layout.specs.Expansions.{li_load}
use Rattle.layout.proofs.expansions.number_arguments.Goals as goal

pub returns-then-is_single : goal.returns-then-is_single
returns-then-is_single c =
    let read = to_z-of_z c.ranges.v in
    rw (li_load, read, rw read at (sym c.is_single.ensures ∙ c.if-is_single.true)) refl

pub returns : goal.returns
returns c =
    let read = to_z-of_z c.ranges.v in
    rw (li_load, c.bits_of_i32.ensures, read, rw read at (sym c.is_single.ensures ∙ c.if-is_single.false)) refl
