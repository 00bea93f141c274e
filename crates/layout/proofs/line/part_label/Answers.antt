-- `line::part_label`: the statement is parted at its first colon, if that ends a label.
use mathlib.Core.Path.{◌≡◌, sym, ◌∙◌}
use Rattle.numbers.specs.Text.{byte, index_of}
use Rattle.numbers.specs.Code.Spans.{spanned}
use Rattle.numbers.proofs.Places.{index_from}
use Rattle.layout.proofs.CutLaws.{mark_colon, unlabelled_parts, string_parts, labelled_parts}
use borrow.Author.Rules.{rules}
use Rattle.layout.proofs.line.part_label.Goals as goal
use Rattle.layout.proofs.line.part_label.Goals.{After-find_from-colon}

-- the colon that is found is the first, since none stands before the mark
colon : (d : After-find_from-colon) → let a = d.args in
    d.find_from-colon.result ≡ index_of (byte ":") (spanned a.text.now a.part)
colon d =
    rw d.span_bytes-bytes.ensures at d.find_from-colon.ensures ∙ index_from _ _ _ (mark_colon _ _ d.requires)

pub returns-then-bytes-colon : goal.returns-then-bytes-colon
returns-then-bytes-colon c =
    let s = c.span_bytes-bytes.ensures in
    unlabelled_parts _ _ _ _ (colon (goal.at.returns-then-bytes-colon c).After-find_from-colon) _ c.requires (rw s at c.if-bytes-colon.true)

pub is_bare-requires : goal.is_bare-requires
is_bare-requires c =
    let s = c.span_bytes-bytes.ensures in
    (rw s (colon (goal.at.is_bare-requires c).After-find_from-colon), search rules)

pub returns-then-is_bare : goal.returns-then-is_bare
returns-then-is_bare c = string_parts _ _ _ _ (colon (goal.at.returns-then-is_bare c).After-find_from-colon) _ c.requires (sym (rw c.span_bytes-bytes.ensures at c.is_bare.ensures) ∙ c.if-is_bare.true)

pub returns : goal.returns
returns c =
    let s = c.span_bytes-bytes.ensures in
    labelled_parts _ _ _ _ (colon (goal.at.returns c).After-find_from-colon) _ _ (rw s at c.if-bytes-colon.false) (sym (rw s at c.is_bare.ensures) ∙ c.if-is_bare.false) c.trim_to-name.ensures
    c.trim_from-rest.ensures
