-- `line::accepted_line`: the line of an accepted layout, its word and numbers known.
use Rattle.bench.proofs.WriteLaws.{begins_line}
use Rattle.bench.proofs.line.accepted_line.Goals as goal

pub returns : goal.returns
returns c =
    let b = begins_line _ _ _ _ c.put_line.ensures c.put_line.auto.out in
    record { prefix_len = b.0; out_after = b.1 }
