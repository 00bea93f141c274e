-- `pieces::part_from`: the part has n bytes, so they end within the text and what is left is the rest.
use mathlib.Core.Path.{refl}
use native.Mathlib.Omega.{arith}
use lib.ListN.{length-drop}
use Rattle.layout.proofs.SpanLaws.{spanned_size}
use Rattle.layout.proofs.pieces.part_from.Goals as goal

pub overflow_add-result : goal.overflow_add-result
overflow_add-result c =
    let h = spanned_size c.args.text.now c.args.part in
    omega (arith, c.requires)

pub overflow_sub-result : goal.overflow_sub-result
overflow_sub-result c = rw c.span_bytes-bytes.ensures c.requires

pub returns : goal.returns
returns c = rw (length-drop, c.span_bytes-bytes.ensures) refl
