-- `directives::Names::new`: the constant is the table of all directives, by computing both.
use mathlib.Core.Path.{refl}
use Rattle.numbers.specs.Code.Tables.{row_of, row_name, prefix_slot, slot_rows, joined, rows_from, starts_from, table_of, all}
use Rattle.layout.specs.Directives.{directives}
use Rattle.layout.proofs.directives.Names.new.Goals as goal

pub invariant_of-result : goal.invariant_of-result
unfolding directives row_of row_name prefix_slot slot_rows joined rows_from starts_from table_of all
invariant_of-result c = record { named = record { each = refl; is = refl } }
