-- `emit::emit_line`: one word for an ordinary line, a pseudo's for the others.
use Rattle.layout.proofs.emit.emit_line.Goals as goal

pub put_ordinary-requires : goal.put_ordinary-requires
put_ordinary-requires c = rw c.in-None.is at c.requires.1

pub emit_pseudo-requires : goal.emit_pseudo-requires
emit_pseudo-requires c =
    let pre = c.requires in
    (pre.0, rw c.span_bytes.ensures (rw c.in-Some.is at pre.1))

pub returns-in-None : goal.returns-in-None
returns-in-None c = λ names stand. rw c.in-None.is c.put_ordinary.ensures

pub returns-in-Some : goal.returns-in-Some
returns-in-Some c = λ names stand. rw c.in-Some.is (rw c.span_bytes.ensures at (c.emit_pseudo.ensures names stand))
