-- `data::data_write`: what is written stands right after the data, and a label's address is a label word more.
use mathlib.Core.Path.{◌≡◌, ap}
use borrow.Author.Rules.{rules}
use Rattle.std.proofs.Common.{Err}
use Rattle.layout.specs.Code.Numbers.{numbered}
use Rattle.layout.proofs.DataLaws.{data_full, data_stops, data_goes}
use Rattle.layout.proofs.data.data_write.Goals as goal

pub returns-then-room-at : goal.returns-then-room-at
returns-then-room-at c = data_full _ _ _ _ _ _ c.args.write _ c.size-n.ensures.0 c.if-room-at.true

pub returns-in_err-count : goal.returns-in_err-count
returns-in_err-count c =
    let e : c.from_residual.result ≡ Err c.in_err-count.field-0.0 = search rules in
    rw e
    (data_stops _ _ _ _ _ _ c.args.write _ c.size-n.ensures.0 c.if-room-at.false c.requires.1.1 _ _ c.put.ensures
    _ c.add_label_word.ensures _ (ap numbered c.in_err-count.was))

pub returns : goal.returns
returns c =
    data_goes _ _ _ _ _ _ c.args.write _ c.size-n.ensures.0 c.if-room-at.false c.requires.1.1 _ _ c.put.ensures
    _ c.add_label_word.ensures _ (ap numbered c.in_ok-count.was)
