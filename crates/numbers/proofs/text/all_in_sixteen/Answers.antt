-- `text::all_in_sixteen`: four blocks of four bytes.
use Rattle.numbers.proofs.Blocks.{all-four}
use Rattle.numbers.proofs.text.all_in_sixteen.Goals as goal

pub returns : goal.returns
returns g c test computes =
    rw (c.all_in_four-4.ensures test computes, c.all_in_four-3.ensures test computes, c.all_in_four-2.ensures test computes, c.all_in_four.ensures test computes)
    (all-four test c.args.s.now 4 c.args.at)
