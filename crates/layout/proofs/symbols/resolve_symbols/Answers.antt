-- `symbols::resolve_symbols`: each stage asks what the one before it left.
use Rattle.std.proofs.Common.{Err}
use mathlib.Core.Path.{◌≡◌}
use native.Mathlib.Omega.{arith}
use Rattle.layout.specs.Code.Numbers.{numbered_at}
use borrow.Author.Rules.{rules}
use Rattle.layout.proofs.SymbolLaws.{symbols_starts, unplaced, unfilled, rounds_stand, fill_stop, symbols_go}
use Rattle.layout.proofs.symbols.resolve_symbols.Goals as goal

pub place_labels-requires : goal.place_labels-requires
place_labels-requires c =
    let s = c.requires in
    unplaced s _ (symbols_starts s _ c.of-starts.ensures)

pub fill_label_words-requires : goal.fill_label_words-requires
fill_label_words-requires c =
    let s = c.requires in
    unfilled s _ (c.place_labels.ensures (unplaced s _ (symbols_starts s _ c.of-starts.ensures)))

pub index_equates-requires : goal.index_equates-requires
index_equates-requires c =
    let s = c.requires in (
      omega (arith, s.equates.counted, s.equates.fits.few, s.equates.lent),
      omega (arith, s.equates.counted, s.equates.fits.few, s.equates.limit),
      omega (arith, s.equates.counted, s.equates.fits.few, s.equates.limit, s.index_room),
      s.index,
    )

pub resolve-requires : goal.resolve-requires
resolve-requires c =
    let s = c.requires in
    let a = symbols_starts s _ c.of-starts.ensures in
    let p = c.place_labels.ensures (unplaced s _ a) in
    record { base = _; state = s.state; stands = rounds_stand s _ a _ p _ c.index_equates.ensures }

pub returns : goal.returns
returns c =
    let args = c.args in
    λ s.
    let a = symbols_starts s _ c.of-starts.ensures in
    let p = c.place_labels.ensures (unplaced s _ a) in
    symbols_go args.text.now args.base s.state args.st c.place_labels.new.labels args.label_index.now c.resolve.new.equates c.index_equates.new.index c.fill_label_words.new.data_bytes _ (numbered_at c.resolve.result) p
    (rw c.in_ok-fill_label_words.was at (c.fill_label_words.ensures (unfilled s _ p)))
    (c.resolve.ensures (record { base = _; state = s.state; stands = rounds_stand s _ a _ p _ c.index_equates.ensures }))

pub returns-in_err-fill_label_words : goal.returns-in_err-fill_label_words
returns-in_err-fill_label_words c =
    let e : c.from_residual.result ≡ Err c.in_err-fill_label_words.field-0.0 = search rules in
    let args = c.args in
    λ s.
    let a = symbols_starts s _ c.of-starts.ensures in
    let p = c.place_labels.ensures (unplaced s _ a) in
    rw e (fill_stop args.text.now args.base s.state args.st c.place_labels.new.labels args.label_index.now args.equates.now args.equate_index.now c.fill_label_words.new.data_bytes _
    (rw c.in_err-fill_label_words.was at (c.fill_label_words.ensures (unfilled s _ p))))
