-- `registers::abi_register`: the code's table has the keys and numbers of the ABI's names, and a key tells its name;
-- the invariant says that what the names that are left give is what all of them give.
use mathlib.Core.Path.{◌≡◌}
use mathlib.Core.List.{map}
use lib.ListN.{drop}
use Rattle.numbers.specs.Text.{lower_case}
use Rattle.numbers.specs.Registers.{abi_names, number_in}
use Rattle.numbers.proofs.Names.{rows_of}
use Rattle.numbers.proofs.registers.abi_register.Given as goal

abbrev pub invariant-loop-key : goal.invariant-loop-key
invariant-loop-key l = (l.key-items ≡ rows_of abi_names) × (number_in (drop l.key-index abi_names) (map lower_case l.s) ≡ number_in abi_names (map lower_case l.s))
