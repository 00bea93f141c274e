-- `assembler::after_lines`: each stage asks what the one before it left.
use mathlib.Core.Path.{◌≡◌, ap}
use borrow.Author.Rules.{rules}
use Rattle.std.proofs.Common.{Err}
use Rattle.layout.specs.Code.Numbers.{numbered_at}
use mathlib.Core.List.{[]}
use Rattle.layout.specs.Code.Calls.{buffers}
use Rattle.layout.proofs.CallLaws.{symbols_ready, resolved_read, symbols_stop}
use Rattle.layout.proofs.assembler.after_lines.Goals as goal

pub resolve_symbols-requires : goal.resolve_symbols-requires
resolve_symbols-requires c = let s = c.requires in symbols_ready s

pub emit_and_order-requires : goal.emit_and_order-requires
emit_and_order-requires c =
    let s = c.requires in
    resolved_read s _ _ _ _ _ (rw (ap numbered_at c.in_ok-evaluations.was) at (c.resolve_symbols.ensures (symbols_ready s)))

pub returns : goal.returns
returns c =
    λ s. c.emit_and_order.ensures
    (resolved_read s _ _ _ _ _ (rw (ap numbered_at c.in_ok-evaluations.was) at (c.resolve_symbols.ensures (symbols_ready s))))

pub returns-in_err-evaluations : goal.returns-in_err-evaluations
returns-in_err-evaluations c =
    let e : c.from_residual.result ≡ Err c.in_err-evaluations.field-0.0 = search rules in
    λ s. rw e (symbols_stop s [] [] [] [] _ (rw (ap numbered_at c.in_err-evaluations.was) at (c.resolve_symbols.ensures (symbols_ready s))) (buffers [] [] [] [] []))
