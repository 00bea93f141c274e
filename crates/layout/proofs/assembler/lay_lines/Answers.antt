-- `assembler::lay_lines`: buffers of zeros stand for nothing laid out; what the lines leave goes on.
use mathlib.Core.Path.{◌≡◌, ap}
use borrow.Author.Rules.{rules}
use Rattle.std.proofs.Common.{Err}
use Rattle.layout.specs.Code.Numbers.{numbered_at}
use mathlib.Core.List.{[]}
use Rattle.layout.specs.Pieces.{lines, line_pieces}
use Rattle.layout.specs.Stage.{line_stage}
use Rattle.layout.specs.State.{start}
use Rattle.layout.specs.Code.Stands.{store}
use Rattle.layout.proofs.CallLaws.{lines_ready, room_words, lines-read, lines_go, lines-stop}
use Rattle.layout.specs.Code.Calls.{buffers, lengths}
use Rattle.layout.proofs.assembler.lay_lines.Goals as goal

pub line_stage-requires : goal.line_stage-requires
line_stage-requires c =
    let pre = c.requires in
    (pre.1, rw c.of-room.ensures (lines_ready _ _ _ _ _ _ pre.4 pre.5 pre.6 pre.3))

pub after_lines-requires : goal.after_lines-requires
after_lines-requires c =
    let a = c.args in
    let pre = c.requires in
    let q = lines-read a.text.now c.of-room.result a.base _ _ _ _ _ _ _ _ _ pre.1 pre.0 pre.2 (room_words _ (lengths (buffers a.words.now a.data_bytes.now a.labels.now a.equates.now a.items.now)) c.of-room.ensures) (line_stage c.of-room.result 0 (line_pieces 0 (lines a.text.now)) start) (rw (ap numbered_at c.in_ok-st.was) at c.line_stage.ensures) in
    q.read

pub returns : goal.returns
returns c =
    let a = c.args in
    let pre = c.requires in
    let lent = lengths (buffers a.words.now a.data_bytes.now a.labels.now a.equates.now a.items.now) in
    let q = lines-read a.text.now c.of-room.result a.base _ _ _ _ _ _ _ _ _ pre.1 pre.0 pre.2 (room_words _ lent c.of-room.ensures) (line_stage c.of-room.result 0 (line_pieces 0 (lines a.text.now)) start) (rw (ap numbered_at c.in_ok-st.was) at c.line_stage.ensures) in
    lines_go a.text.now a.base lent c.of-room.result c.of-room.ensures q.read.state q.are (buffers c.after_lines.new.words c.after_lines.new.data_bytes c.after_lines.new.labels c.after_lines.new.equates c.after_lines.new.items) (numbered_at c.after_lines.result) (c.after_lines.ensures q.read)

pub returns-in_err-st : goal.returns-in_err-st
returns-in_err-st c =
    let a = c.args in
    let e : c.from_residual.result ≡ Err c.in_err-st.field-0.0 = search rules in
    rw e (lines-stop a.text.now a.base (lengths (buffers a.words.now a.data_bytes.now a.labels.now a.equates.now a.items.now)) _ c.of-room.ensures (store [] [] [] [] [] [] []) _ (rw (ap numbered_at c.in_err-st.was) at c.line_stage.ensures) (buffers [] [] [] [] []))
