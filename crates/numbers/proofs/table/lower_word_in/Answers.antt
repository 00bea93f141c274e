-- `table::lower_word_in`: a word of more than 16 bytes is no name, and another is looked up in lower case.
use mathlib.Core.Path.{sym, ap, ◌∙◌}
use mathlib.Core.List.{map}
use lib.ListN.{length, length-map}
use Rattle.numbers.specs.Text.{lower_case}
use Rattle.numbers.proofs.Rows.{word_longer, lower_word}
use Rattle.numbers.proofs.table.lower_word_in.Goals as goal

pub returns-then-n-gt-ROW : goal.returns-then-n-gt-ROW
returns-then-n-gt-ROW c =
    let w = c.args.word.now in
    λ rs table. sym (word_longer (map lower_case w) rs table.each (rw (length-map w lower_case) c.if-n-gt-ROW.true))

pub slice_bounds-word_in-end : goal.slice_bounds-word_in-end
slice_bounds-word_in-end c = sym (ap length c.put_lower.ensures ∙ length-map c.args.word.now lower_case)

pub word_in-requires : goal.word_in-requires
word_in-requires c = (c.requires.0, rw c.put_lower.ensures (lower_word c.args.word.now c.requires.1))

pub returns : goal.returns
returns c = λ rs table. rw c.put_lower.ensures at (c.word_in.ensures rs table)
