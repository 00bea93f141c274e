-- `data::unchanged_write`: what stands between the quotes, by its own span in the text.
use mathlib.Core.Path.{◌≡◌, refl, sym, ◌∙◌}
use Rattle.std.proofs.Common.{Some, Err}
use borrow.Author.Rules.{rules}
use Rattle.layout.specs.declared.refusal.Refusal.TheVariants.{InvalidString}
use Rattle.numbers.specs.Code.Spans.{spanned, str_lit_of}
use Rattle.numbers.proofs.Quoted.{string-none, str_lit-within}
use Rattle.layout.proofs.ReadingLaws.{unchanged_read}
use Rattle.layout.proofs.data.unchanged_write.Goals as goal
use Rattle.layout.proofs.data.unchanged_write.Goals.{In_ok-inner}

inner-span : (d : In_ok-inner)
    → str_lit_of
    (spanned d.args.text.now d.args.part) ≡ Some d.in_ok-inner.inner
inner-span d = rw d.span_bytes.ensures at (sym d.parse_str_lit.ensures ∙ d.in_ok-inner.ensures.ok_part)

pub returns-in_err-inner : goal.returns-in_err-inner
returns-in_err-inner c =
    let none = rw c.span_bytes.ensures at (sym c.parse_str_lit.ensures ∙ c.in_err-inner.ensures.ok_part) in
    let e : c.from_residual.result ≡ Err InvalidString = search rules in
    rw (e, string-none _ none) (refl, tt)

pub part_in-between-requires : goal.part_in-between-requires
part_in-between-requires c = (c.requires.0, str_lit-within _ _ (inner-span c))

pub returns : goal.returns
returns c = unchanged_read _ _ _ c.requires.0 _ c.requires.1 _ (inner-span (goal.at.returns c).In_ok-inner) c.part_in-between.ensures
