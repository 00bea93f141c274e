-- `scan::cut_line`: the places come one after the other, the last within the text.
use Prim.Native.Nat.{◌+◌, ◌≤◌}
use mathlib.Core.Path.{refl}
use native.Mathlib.Omega.{arith}
use lib.ListN.{drop, length-drop}
use borrow.Author.Rules.{rules}
use Rattle.layout.specs.Code.Cuts.{is_cut}
use Rattle.layout.proofs.SpanLaws.{count_within}
use Rattle.layout.proofs.CutLaws.{stop-within, start-within, line_cut}
use Rattle.layout.proofs.scan.cut_line.Goals as goal
use Rattle.layout.proofs.scan.cut_line.Goals.{After-struct_known-1}

pub stop_from-stop-requires : goal.stop_from-stop-requires
stop_from-stop-requires c =
    let a = c.args in
    omega (arith, c.requires, c.cut_from-mark.ensures, count_within is_cut (drop a.at a.text.now), length-drop a.at a.text.now)

pub end_from-end-requires : goal.end_from-end-requires
end_from-end-requires c = stop-within _ _ _ _ c.requires c.cut_from-mark.ensures c.stop_from-stop.ensures

pub slice_bounds-trim_span_far-end : goal.slice_bounds-trim_span_far-end
slice_bounds-trim_span_far-end c =
    let h = stop-within _ _ _ _ c.requires c.cut_from-mark.ensures c.stop_from-stop.ensures in
    search rules

start : (d : After-struct_known-1) → d.args.at + d.trim_span_far-inner.result.start ≤ d.cut_from-mark.result
start d =
    start-within _ _ _ _ d.requires d.cut_from-mark.ensures d.stop_from-stop.ensures _ d.trim_span_far-inner.ensures

pub overflow_add-start : goal.overflow_add-start
overflow_add-start c = let h = start c in search rules

pub overflow_sub-mark : goal.overflow_sub-mark
overflow_sub-mark c = start c

pub returns : goal.returns
returns c = (
  refl,
  line_cut _ _ _ _ c.requires c.cut_from-mark.ensures c.stop_from-stop.ensures _ c.trim_span_far-inner.ensures
      _ c.end_from-end.ensures _ c.min.ensures,
)
