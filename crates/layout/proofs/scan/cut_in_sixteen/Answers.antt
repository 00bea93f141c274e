-- `scan::cut_in_sixteen`: the first of the five bytes is the first of one of them.
use lib.ListN.{drop}
use Rattle.layout.proofs.CutLaws.{cut_below}
use Rattle.layout.proofs.scan.cut_in_sixteen.Goals as goal

pub returns : goal.returns
returns c =
    let a = c.args in
    rw (c.in_sixteen-5.ensures, c.in_sixteen-4.ensures, c.in_sixteen-3.ensures, c.in_sixteen-2.ensures, c.in_sixteen.ensures)
    (cut_below 16 (drop a.at a.text.now))
