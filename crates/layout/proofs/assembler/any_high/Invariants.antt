-- `assembler::any_high`: what was seen so far, with what is left, is the whole text's.
use mathlib.Core.Path.{◌≡◌}
use mathlib.Core.Bool.{◌||◌}
use lib.ListN.{drop}
use Rattle.layout.specs.Code.Checks.{any_high}
use Rattle.layout.proofs.assembler.any_high.Given as goal

abbrev pub invariant-loop-b : goal.invariant-loop-b
invariant-loop-b l = l.high || any_high (drop l.b-index l.text) ≡ any_high l.text
