-- `addresses::place_labels`: whatever labels the buffer stood for, the first k have their addresses.
use Rattle.layout.proofs.AddressLaws.{placing_first, record_within, place_back, placing_next, placing_end}
use Rattle.layout.proofs.addresses.place_labels.Goals as goal

pub loop-k-init : goal.loop-k-init
loop-k-init c = placing_first

pub get-label-requires : goal.get-label-requires
get-label-requires c = record_within c.loop-k.invariant c.loop-k-test.true c.requires

pub address-requires : goal.address-requires
address-requires c = place_back c.loop-k.invariant c.loop-k-test.true c.get-label.result c.get-label.ensures c.requires

pub put-requires : goal.put-requires
put-requires c = record_within c.loop-k.invariant c.loop-k-test.true c.requires

pub loop-k-preserved : goal.loop-k-preserved
loop-k-preserved c =
    placing_next c.loop-k.invariant c.loop-k-test.true c.get-label.result c.get-label.ensures
    c.address.result c.address.ensures _ c.put.auto.table c.put.ensures

pub returns : goal.returns
returns c = placing_end c.loop-k.invariant c.loop-k-test.false
