-- `line::put_line`: the word, and the numbers' fields behind it.
use Rattle.std.proofs.Common.{◌≡◌, ◌++◌, List, ℕ, length, drop, arith}
use Rattle.bench.specs.Code.Writes.{Begins}
use Rattle.bench.proofs.WriteLaws.{begins_copied, begins_length, begins_after, part_within}
use Rattle.bench.proofs.line.put_line.Goals as goal

-- the fields end within the buffer
pub overflow_add-result : goal.overflow_add-result
overflow_add-result c =
    let word = c.args.word.now in
    let copied : List ℕ = c.copy_from_slice.new.self ++ drop (length word) c.args.out.now in
    let b : Begins word c.args.out.now copied (length word) = begins_copied word c.args.out.now _ c.copy_from_slice.ensures.after in
    let same : length copied ≡ length c.args.out.now = begins_length _ _ _ _ b (omega arith) in
    omega (arith, same, part_within _ copied _ (length word) _ c.put_fields.ensures c.put_fields.auto.dst (omega arith))

pub returns : goal.returns
returns c =
    let word = c.args.word.now in
    let copied : List ℕ = c.copy_from_slice.new.self ++ drop (length word) c.args.out.now in
    let b : Begins word c.args.out.now copied (length word) = begins_copied word c.args.out.now _ c.copy_from_slice.ensures.after in
    let same : length copied ≡ length c.args.out.now = begins_length _ _ _ _ b (omega arith) in
    begins_after word _ _ _ _ (length word) _ b c.put_fields.ensures
    (part_within _ copied _ (length word) _ c.put_fields.ensures c.put_fields.auto.dst (omega arith))
