-- `Labels::find_in`: along the chain, the records from here on have other names.
use Prim.Native.Nat.{◌-◌, ◌<◌}
use mathlib.Core.Path.{sym, ◌∙◌}
use native.Mathlib.Omega.{arith}
use Rattle.layout.proofs.IndexLaws.{bucket_below, walk_first, walk_less, walk_next, walk_hit, walk_miss}
use Rattle.layout.proofs.LabelTables.{names_size, name_listed}
use Rattle.layout.proofs.labels.Labels.find_in.Goals as goal
use Rattle.layout.proofs.labels.Labels.find_in.Goals.{In-loop-entry}

pub offset_bounds-self-bucket : goal.offset_bounds-self-bucket
offset_bounds-self-bucket c = omega (arith, c.requires.1, bucket_below c.args.name.now)

pub bounds-self-bucket : goal.bounds-self-bucket
bounds-self-bucket c = omega (arith, c.requires.1, bucket_below c.args.name.now, c.requires.0.indexed.room)

pub loop-entry-init : goal.loop-entry-init
loop-entry-init c = walk_first _ c.args.self.index.now _ c.requires.0.indexed c.args.bucket c.requires.1

-- the record before an entry is one of so many
below : (d : In-loop-entry) → d.loop-entry.entry - 1 < d.args.self.count
below d =
    let a = d.args in
    omega (arith, d.loop-entry.invariant.le, names_size a.self.text.now a.self.records.now 0 a.self.count, d.loop-entry-test.true)

pub is_named-requires : goal.is_named-requires
is_named-requires c = omega (arith, below c, c.requires.0.lent)

pub returns-then-is_named : goal.returns-then-is_named
returns-then-is_named c =
    let a = c.args in (
      walk_hit _ a.self.index.now _ c.requires.0.indexed c.loop-entry.entry c.loop-entry-test.true c.loop-entry.invariant c.requires.0.distinct
          (rw (name_listed a.self.text.now a.self.records.now a.self.count (c.loop-entry.entry - 1) (below (goal.at.returns-then-is_named c).In-loop-entry)) (sym c.is_named.ensures ∙ c.if-is_named.true)),
      below (goal.at.returns-then-is_named c).In-loop-entry,
    )

pub loop-entry-smaller : goal.loop-entry-smaller
loop-entry-smaller c = walk_less _ c.args.self.index.now _ c.requires.0.indexed c.loop-entry.entry c.loop-entry-test.true c.loop-entry.invariant

pub loop-entry-preserved : goal.loop-entry-preserved
loop-entry-preserved c =
    let a = c.args in
    walk_next _ a.self.index.now _ c.requires.0.indexed c.loop-entry.entry c.loop-entry-test.true c.loop-entry.invariant
    (rw (name_listed a.self.text.now a.self.records.now a.self.count (c.loop-entry.entry - 1) (below (goal.at.loop-entry-preserved c).In-loop-entry)) (sym c.is_named.ensures ∙ c.if-is_named.false))

pub returns : goal.returns
returns c = (walk_miss _ c.args.self.index.now _ c.requires.0.indexed _ c.loop-entry-test.false c.loop-entry.invariant, tt)
