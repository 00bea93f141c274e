-- `Labels::name`: the text at the span in the record.
use mathlib.Core.Path.{refl}
use Rattle.layout.proofs.labels.Labels.name.Goals as goal

pub returns : goal.returns
returns c = rw (c.span_bytes.ensures, c.get-label.ensures) refl
