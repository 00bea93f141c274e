-- `pieces::trim_from`: what follows the first n bytes is read back by its own span.
use mathlib.Core.Path.{refl}
use Rattle.layout.proofs.SpanLaws.{from_back}
use Rattle.layout.proofs.pieces.trim_from.Goals as goal

pub returns : goal.returns
returns c = rw (c.trim_part.ensures, c.part_from.ensures, from_back _ _ _ c.requires) refl
