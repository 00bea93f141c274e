-- `line::put_field`: the space, and the digits behind it.
use Prim.Native.Nat.{◌+◌, ◌≤◌}
use native.Mathlib.Omega.{arith}
use lib.ListN.{length, set, length-set}
use Rattle.layout.proofs.ByteLaws.{length_mid}
use Rattle.bench.proofs.WriteLaws.{begins_none, begins_set, begins_after, part_within}
use Rattle.bench.proofs.line.put_field.Goals as goal

pub slice_bounds-put_decimal-count : goal.slice_bounds-put_decimal-count
slice_bounds-put_decimal-count c = omega (arith, length-set c.args.dst.now 0 32)

pub slice_bounds-put_decimal-start : goal.slice_bounds-put_decimal-start
slice_bounds-put_decimal-start c = omega (arith, length-set c.args.dst.now 0 32)

pub put_decimal-requires : goal.put_decimal-requires
put_decimal-requires c =
    let d = set c.args.dst.now 0 32 in
    omega (arith, length_mid 1 d, length-set c.args.dst.now 0 32)

-- the digits end within the buffer
pub overflow_add-result : goal.overflow_add-result
overflow_add-result c =
    let d = set c.args.dst.now 0 32 in
    omega (arith, part_within _ d _ 1 _ c.put_decimal.ensures c.put_decimal.auto.dst (omega (arith, length-set c.args.dst.now 0 32)), length-set c.args.dst.now 0 32)

pub returns : goal.returns
returns c =
    let d = c.args.dst.now in
    let within : 1 + c.put_decimal.result ≤ length (set d 0 32) =
    part_within _ (set d 0 32) _ 1 _ c.put_decimal.ensures c.put_decimal.auto.dst (omega (arith, length-set d 0 32)) in
    begins_after _ _ d _ _ 1 _ (begins_set _ _ _ 0 32 (begins_none d) (omega arith)) c.put_decimal.ensures within
