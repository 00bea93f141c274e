-- `Labels::contains`: a label has the name where the look-up finds one.
use mathlib.Core.Path.{◌∙◌}
use Rattle.layout.proofs.AddressLaws.{whether_label}
use Rattle.layout.proofs.labels.Labels.contains.Goals as goal

pub returns : goal.returns
returns c = λ base σ p. c.is_some.ensures ∙ whether_label p _ _ c.find.ensures.0
