-- `data::is_label_name`: the first byte begins a name, and each byte behind it may stand in one.
use mathlib.Core.Path.{sym, ap₂, ◌∙◌}
use mathlib.Core.Bool.{Bool, ◌&&◌, ◌||◌}
use borrow.Author.Rules.{rules}
use Rattle.std.proofs.lemmas.Iterator.{YieldsList-from_slice}
use Rattle.std.proofs.lemmas.Iterator.Search.{all_from_yields_List}
use Rattle.numbers.specs.Text.{is_digit}
use Rattle.layout.specs.Directives.{is_label_start}
use Rattle.layout.proofs.NameLaws.{names_all}
use Rattle.layout.proofs.data.is_label_name.Goals as goal

pub returns-then-is_label_start : goal.returns-then-is_label_start
returns-then-is_label_start c =
    let rest = c.in-Some.rest.now in
    let items = YieldsList-from_slice rest c.iter.ensures.rest in
    let others = all_from_yields_List (λ b. is_label_start b || is_digit b) _ _ _ c.all.ensures.ran items (λ x b q k. search rules) in
    rw (c.in-Some.ensures.cases.0, names_all rest) (ap₂ (λ (a b : Bool). a && b) (sym c.if-is_label_start.true ∙ c.is_label_start.ensures) others)
