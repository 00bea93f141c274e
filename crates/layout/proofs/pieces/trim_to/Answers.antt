-- `pieces::trim_to`: the first n bytes are read back by their own span.
use mathlib.Core.Path.{refl}
use Rattle.layout.proofs.SpanLaws.{to_back}
use Rattle.layout.proofs.pieces.trim_to.Goals as goal

pub returns : goal.returns
returns c = rw (c.trim_part.ensures, c.part_to.ensures, to_back _ _ _ c.requires) refl
