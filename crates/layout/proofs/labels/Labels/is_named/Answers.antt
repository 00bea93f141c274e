-- `Labels::is_named`: the record's name, compared.
use mathlib.Core.Path.{refl}
use Rattle.layout.proofs.labels.Labels.is_named.Goals as goal

pub returns : goal.returns
returns c = rw (c.same_bytes.ensures, c.name.ensures) refl
