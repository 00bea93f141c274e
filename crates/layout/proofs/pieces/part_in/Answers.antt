-- `pieces::part_in`: the inner part begins within the outer one, so the sum fits.
use mathlib.Core.Path.{refl}
use native.Mathlib.Omega.{arith}
use Rattle.layout.proofs.SpanLaws.{spanned_size}
use Rattle.layout.proofs.pieces.part_in.Goals as goal

pub overflow_add-result : goal.overflow_add-result
overflow_add-result c = omega (arith, c.requires, spanned_size c.args.text.now c.args.part)

pub returns : goal.returns
returns c = refl
