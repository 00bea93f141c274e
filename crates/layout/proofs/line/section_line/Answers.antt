-- `line::section_line`: the name lies within what follows `.section`.
use mathlib.Core.Path.{sym, ◌∙◌, refl}
use native.Mathlib.Omega.{arith}
use lib.Seq.{length-take-le}
use Rattle.layout.specs.Statements.{section_line}
use Rattle.numbers.proofs.Prefixes.{prefix_length}
use Rattle.numbers.proofs.Trims.{tail}
use Rattle.layout.proofs.SpanLaws.{count_within}
use Rattle.layout.proofs.line.section_line.Goals as goal

pub slice_bounds-trim-count : goal.slice_bounds-trim-count
slice_bounds-trim-count c = prefix_length _ _ (sym c.starts_with.ensures ∙ c.if-starts_with.true)

pub slice_bounds-trim-start : goal.slice_bounds-trim-start
slice_bounds-trim-start c = omega (arith, prefix_length _ _ (sym c.starts_with.ensures ∙ c.if-starts_with.true))

pub slice_bounds-section_of-end : goal.slice_bounds-section_of-end
slice_bounds-section_of-end c = sym (length-take-le _ _ (rw c.section_name_len-len.ensures (count_within _ _)))

pub returns-then-starts_with : goal.returns-then-starts_with
unfolding section_line
returns-then-starts_with c = rw (c.section_of.ensures, c.section_name_len-len.ensures, c.trim-rest.ensures, tail, ← c.starts_with.ensures, c.if-starts_with.true) refl

pub returns : goal.returns
unfolding section_line
returns c = rw (c.section_of-2.ensures, ← c.starts_with.ensures, c.if-starts_with.false) refl
