-- `text::all_in_four`: four bytes.
use Rattle.numbers.proofs.Blocks.{all-bytes}
use Rattle.numbers.proofs.text.all_in_four.Goals as goal

pub returns : goal.returns
returns g c test computes =
    let at = c.args.at in
    rw (computes _ _ c.is-4.ensures, computes _ _ c.is-3.ensures, computes _ _ c.is-2.ensures, computes _ _ c.is.ensures)
    (all-bytes test c.args.s.now at c.requires.room)
