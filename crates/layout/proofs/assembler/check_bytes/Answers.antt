-- `assembler::check_bytes`: the first byte above 127, where there is one.
use mathlib.Core.Path.{sym, ◌∙◌}
use Rattle.layout.proofs.CheckLaws.{none-high}
use Rattle.layout.proofs.assembler.check_bytes.Goals as goal

pub returns : goal.returns
returns c = none-high _ 0 (sym c.any_high.ensures ∙ c.if-any_high.false)
