-- `lines::keep`: a part that has bytes stands within the block.
use Rattle.std.proofs.Common.{◌+◌, ◌≤◌, length, arith, rules}
use Rattle.replay.proofs.Kept.{part_end, part_kept}
use Rattle.replay.proofs.lines.keep.Goals as goal
use Rattle.replay.proofs.lines.keep.Goals.{Then-len-gt0}

within : (c : Then-len-gt0) → c.args.part.start + length c.span_bytes-len.result.now ≤ length c.args.block.now
within c = part_end c.args.block.now c.args.part _ c.span_bytes-len.ensures c.if-len-gt0.true

pub overflow_add-part : goal.overflow_add-part
overflow_add-part c =
    let h = within (goal.at.overflow_add-part c).Then-len-gt0 in
    search rules

pub copy_within-requires-clause-in_bounds : goal.copy_within-requires-clause-in_bounds
copy_within-requires-clause-in_bounds c = within (goal.at.copy_within-requires-clause-in_bounds c).Then-len-gt0

pub copy_within-requires-clause-dest_in_bounds : goal.copy_within-requires-clause-dest_in_bounds
copy_within-requires-clause-dest_in_bounds c = omega (arith, within (goal.at.copy_within-requires-clause-dest_in_bounds c).Then-len-gt0)

pub returns-then-len-gt0-clause-upper_bound : goal.returns-then-len-gt0-clause-upper_bound
returns-then-len-gt0-clause-upper_bound c = omega (arith, within (goal.at.returns-then-len-gt0-clause-upper_bound c).Then-len-gt0, c.copy_within.ensures.len)

pub returns-then-len-gt0-clause-block_after : goal.returns-then-len-gt0-clause-block_after
returns-then-len-gt0-clause-block_after c = part_kept c.args.block.now c.args.part _ _ c.span_bytes-len.ensures c.copy_within.ensures.after
