-- `pseudo::Names::new`: the constant is the table of all spellings, by computing both.
use mathlib.Core.Path.{refl}
use Rattle.numbers.specs.Code.Tables.{row_of, row_name, slot_of, slot_rows, joined, rows_from, starts_from, table_of, all}
use Rattle.layout.specs.Pseudos.{spellings}
use Rattle.layout.proofs.pseudo.Names.new.Goals as goal

pub invariant_of-result : goal.invariant_of-result
unfolding spellings row_of row_name slot_of slot_rows joined rows_from starts_from table_of all
invariant_of-result c = record { named = record { each = refl; is = refl } }
