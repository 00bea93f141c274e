-- `assembler::lay_out`: 40, 41, 1, then the lines.
use mathlib.Core.Path.{◌≡◌, ap}
use borrow.Author.Rules.{rules}
use Rattle.std.proofs.Common.{Err}
use Rattle.layout.specs.Code.Numbers.{numbered_at}
use mathlib.Core.List.{[]}
use Rattle.layout.proofs.CallLaws.{base_stop, text-stop, bytes-stop, bytes_go}
use Rattle.layout.specs.Code.Calls.{buffers, lengths}
use Rattle.layout.proofs.assembler.lay_out.Goals as goal

pub returns-then-base-gt-BASE_LIMIT : goal.returns-then-base-gt-BASE_LIMIT
returns-then-base-gt-BASE_LIMIT c = rw c.at.ensures (base_stop _ _ _ (buffers [] [] [] [] []) c.if-base-gt-BASE_LIMIT.true)

pub returns-then-text-gt-TEXT_LIMIT : goal.returns-then-text-gt-TEXT_LIMIT
returns-then-text-gt-TEXT_LIMIT c = rw c.at-then-text-gt-TEXT_LIMIT.ensures (text-stop _ _ _ (buffers [] [] [] [] []) c.if-base-gt-BASE_LIMIT.false c.if-text-gt-TEXT_LIMIT.true)

pub returns : goal.returns
returns c =
    let a = c.args in
    bytes_go a.text.now a.base (lengths (buffers a.words.now a.data_bytes.now a.labels.now a.equates.now a.items.now)) (buffers c.lay_lines.new.words c.lay_lines.new.data_bytes c.lay_lines.new.labels c.lay_lines.new.equates c.lay_lines.new.items) c.if-base-gt-BASE_LIMIT.false c.if-text-gt-TEXT_LIMIT.false (numbered_at c.lay_lines.result) (rw (ap numbered_at c.in_ok-check_bytes.was) at c.check_bytes.ensures) c.lay_lines.ensures

pub returns-in_err-check_bytes : goal.returns-in_err-check_bytes
returns-in_err-check_bytes c =
    let e : c.from_residual.result ≡ Err c.in_err-check_bytes.field-0.0 = search rules in
    rw e (bytes-stop _ _ _ (buffers [] [] [] [] []) c.if-base-gt-BASE_LIMIT.false c.if-text-gt-TEXT_LIMIT.false _ (rw (ap numbered_at c.in_err-check_bytes.was) at c.check_bytes.ensures))
