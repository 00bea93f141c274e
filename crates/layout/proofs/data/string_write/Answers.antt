-- `data::string_write`: what stands between the quotes, by its own span in the text.
use mathlib.Core.Path.{◌≡◌, refl, sym, ◌∙◌}
use Rattle.std.proofs.Common.{Err}
use borrow.Author.Rules.{rules}
use Rattle.layout.specs.declared.refusal.Refusal.TheVariants.{InvalidString}
use Rattle.numbers.proofs.QuoteLaws.{quoted_within, quoted_none}
use Rattle.layout.proofs.ReadingLaws.{string-read}
use Rattle.layout.proofs.data.string_write.Goals as goal

pub returns-in_err-quoted : goal.returns-in_err-quoted
returns-in_err-quoted c =
    let none = rw c.span_bytes.ensures at (sym c.parse_string.ensures ∙ c.in_err-quoted.ensures.ok_part) in
    let e : c.from_residual.result ≡ Err InvalidString = search rules in
    rw (e, quoted_none _ none) (refl, tt)

pub part_in-requires : goal.part_in-requires
part_in-requires c = (c.requires.0, quoted_within _ _ (rw c.span_bytes.ensures at (sym c.parse_string.ensures ∙ c.in_ok-quoted.ensures.ok_part)))

pub returns : goal.returns
returns c = string-read _ _ _ c.requires.0 _ c.requires.1 _ (rw c.span_bytes.ensures at (sym c.parse_string.ensures ∙ c.in_ok-quoted.ensures.ok_part)) c.part_in.ensures
