-- `pieces::part_to`: the part has n bytes, so its first n are n.
use mathlib.Core.Path.{refl}
use lib.Seq.{length-take-le}
use Rattle.layout.proofs.pieces.part_to.Goals as goal

pub returns : goal.returns
returns c = rw (length-take-le _ _ c.requires) refl
