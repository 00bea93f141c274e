-- `line::section_named`: the definition asks for the same names in the same order.
use mathlib.Core.Bool.{or-false}
use Rattle.layout.specs.Statements.{section_named}
use Rattle.layout.proofs.line.section_named.Goals as goal

pub returns-then-same_bytes : goal.returns-then-same_bytes
unfolding section_named
returns-then-same_bytes c = simp (or-false, ← c.same_bytes.ensures, c.if-same_bytes.true)

pub returns-then-same_bytes-2 : goal.returns-then-same_bytes-2
unfolding section_named
returns-then-same_bytes-2 c =
    simp (
      or-false,
      ← c.same_bytes.ensures,
      c.if-same_bytes.false,
      ← c.same_bytes-2.ensures,
      ← c.same_bytes-3.ensures,
      ← c.same_bytes-4.ensures,
      ← c.same_bytes-5.ensures,
      c.if-same_bytes-2.true,
    )

pub returns-then-same_bytes-3 : goal.returns-then-same_bytes-3
unfolding section_named
returns-then-same_bytes-3 c =
    simp (
      or-false,
      ← c.same_bytes.ensures,
      c.if-same_bytes.false,
      ← c.same_bytes-2.ensures,
      ← c.same_bytes-3.ensures,
      ← c.same_bytes-4.ensures,
      ← c.same_bytes-5.ensures,
      c.if-same_bytes-2.false,
      ← c.same_bytes-6.ensures,
      ← c.same_bytes-7.ensures,
      c.if-same_bytes-3.true,
    )

pub returns : goal.returns
unfolding section_named
returns c =
    simp (
      or-false,
      ← c.same_bytes.ensures,
      c.if-same_bytes.false,
      ← c.same_bytes-2.ensures,
      ← c.same_bytes-3.ensures,
      ← c.same_bytes-4.ensures,
      ← c.same_bytes-5.ensures,
      c.if-same_bytes-2.false,
      ← c.same_bytes-6.ensures,
      ← c.same_bytes-7.ensures,
      c.if-same_bytes-3.false,
    )
