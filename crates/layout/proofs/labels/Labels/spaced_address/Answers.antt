-- `Labels::spaced_address`: the address in the record that the look-up finds.
use native.Mathlib.Omega.{arith}
use mathlib.Core.Path.{ap, ◌∙◌}
use Rattle.std.proofs.Common.{Some}
use Rattle.layout.specs.declared.records.LabelRecord.{LabelRecord}
use Rattle.layout.proofs.AddressLaws.{found_address, no_address}
use Rattle.layout.proofs.labels.Labels.spaced_address.Goals as goal

pub returns-in_err-k : goal.returns-in_err-k
returns-in_err-k c = λ base σ p. c.from_residual.ensures ∙ no_address p _ (rw c.in_err-k.was at c.find_spaced.ensures.0)

pub get-requires : goal.get-requires
get-requires c = omega (arith, c.requires.lent, rw c.in_ok-k.was at c.find_spaced.ensures.1)

pub returns : goal.returns
returns c =
    λ base σ p. ap (λ (r : LabelRecord). Some r.address) c.get.ensures
    ∙ found_address p _ _ (rw c.in_ok-k.was at c.find_spaced.ensures.0)
