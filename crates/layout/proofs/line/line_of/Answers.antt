-- `line::line_of`: a section line is taken whole; of another the definition reads what follows the same label.
use mathlib.Core.Path.{sym, ◌∙◌}
use Rattle.layout.proofs.CutLaws.{cut_marked, parted_from}
use Rattle.layout.proofs.LineLaws.{section_says, follows, line_says}
use Rattle.layout.proofs.line.line_of.Goals as goal

pub returns-then-is_section_line : goal.returns-then-is_section_line
returns-then-is_section_line c =
    let whole = sym (rw c.span_bytes-bytes.ensures at c.is_section_line.ensures) ∙ c.if-is_section_line.true in
    section_says _ _ c.requires _ whole _ (rw c.span_bytes-bytes.ensures at c.section_line.ensures)

pub part_label-parted-requires : goal.part_label-parted-requires
part_label-parted-requires c = cut_marked _ _ c.requires

pub unlabelled-says-requires : goal.unlabelled-says-requires
unlabelled-says-requires c =
    let parts = c.part_label-parted.ensures in
    (c.requires, follows _ _ c.requires _ _ parts, parted_from _ _ _ _ parts)

pub returns : goal.returns
returns c =
    let other = sym (rw c.span_bytes-bytes.ensures at c.is_section_line.ensures) ∙ c.if-is_section_line.false in
    line_says _ _ c.requires _ _ c.part_label-parted.ensures other _ c.unlabelled-says.ensures
