-- `equates::equate_name`: the text at the span in the record.
use mathlib.Core.Path.{refl}
use Rattle.layout.proofs.equates.equate_name.Goals as goal

pub returns : goal.returns
returns c = rw (c.span_bytes.ensures, c.get-equate.ensures) refl
