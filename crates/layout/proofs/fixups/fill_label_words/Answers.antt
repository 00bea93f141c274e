-- `fixups::fill_label_words`: what filling the label words from the kth on gives of the data now is what filling all gave at the start.
use Rattle.std.proofs.Common.{Err}
use mathlib.Core.Path.{◌≡◌, sym, ◌∙◌}
use Rattle.layout.specs.declared.refusal.Refusal.TheVariants.{UndefinedLabelWord}
use borrow.Author.Rules.{rules}
use Rattle.layout.proofs.ResultLaws.{given, missing}
use Rattle.layout.proofs.AddressLaws.{placed_indexed}
use Rattle.layout.proofs.FixupLaws.{fixing_first, fixing_within, fixing_room, fixing_stops, fixing_goes, fixing_ends}
use Rattle.layout.proofs.fixups.fill_label_words.Goals as goal

pub loop-k-init : goal.loop-k-init
loop-k-init c = fixing_first

pub get-word-requires : goal.get-word-requires
get-word-requires c = fixing_within c.loop-k.invariant c.loop-k-test.true c.requires

pub address-requires : goal.address-requires
address-requires c = placed_indexed c.requires.labels

pub returns-in_err-address : goal.returns-in_err-address
returns-in_err-address c =
    let line = c.get-word.result.line in
    let e : c.from_residual.result ≡ Err (record { refusal = UndefinedLabelWord; line = line }) = search rules in
    rw e (fixing_stops c.loop-k.invariant c.loop-k-test.true c.get-word.result c.get-word.ensures
    _ c.span_bytes.ensures (rw (missing _ _ (sym c.ok_or.ensures.value ∙ c.in_err-address.was)) at c.address.ensures))

pub put_u32-requires : goal.put_u32-requires
put_u32-requires c = fixing_room c.loop-k.invariant c.loop-k-test.true c.get-word.result c.get-word.ensures c.requires

pub loop-k-preserved : goal.loop-k-preserved
loop-k-preserved c =
    fixing_goes c.loop-k.invariant c.loop-k-test.true c.get-word.result c.get-word.ensures
    _ c.span_bytes.ensures c.in_ok-address.address (rw (given _ _ (sym c.ok_or.ensures.value ∙ c.in_ok-address.was)) at c.address.ensures)
    _ c.put_u32.auto.buf c.put_u32.ensures

pub returns : goal.returns
returns c = fixing_ends c.loop-k.invariant c.loop-k-test.false
