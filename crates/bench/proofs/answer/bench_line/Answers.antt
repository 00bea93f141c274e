-- `bench_line`: the answer is what the definition gives, and its line is written.
use Rattle.std.proofs.Common.{◌∙◌, refl}
use Rattle.layout.proofs.RefusalLaws.{number_positive}
use Rattle.bench.proofs.LineLaws.{zeros_full, accepted_call, refused-call}
use Rattle.bench.proofs.answer.bench_line.Goals as goal

pub returns-in-Ok-clause-out_after : goal.returns-in-Ok-clause-out_after
returns-in-Ok-clause-out_after c =
    c.accepted_line.ensures.out_after ∙ accepted_call c.args.text.now _ _ (rw c.in-Ok.is at c.assemble-laid.ensures.given) zeros_full refl

pub returns-in-Err-clause-out_after : goal.returns-in-Err-clause-out_after
returns-in-Err-clause-out_after c =
    rw c.number.ensures at c.refused_line.ensures.out_after
    ∙ refused-call c.args.text.now _ _ (rw c.in-Err.is at c.assemble-laid.ensures.given) zeros_full (number_positive c.in-Err.refused.refusal)
