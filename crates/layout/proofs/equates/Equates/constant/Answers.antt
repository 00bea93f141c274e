-- `Equates::constant`: what the names below the entry give comes before what was found above it.
use Prim.Native.Nat.{◌-◌, ◌<◌}
use mathlib.Core.Path.{◌≡◌, sym, ap, ◌∙◌}
use mathlib.Core.Bool.{Bool, true, false}
use Rattle.std.proofs.Common.{Some}
use native.Mathlib.Omega.{arith}
use mir.Syntax.{w64}
use mir.Val.{SFits}
use mir.Facts.{to_z-of_z}
use Rattle.layout.specs.Code.Resolves.{known_at}
use Rattle.layout.proofs.IndexLaws.{bucket_below}
use Rattle.layout.proofs.KnownLaws.{equates_lent, table_room, is_found, found_as_read, seek_first, seek_less, seek_hit, seek_miss, seek_none, seek_value}
use borrow.Author.Rules.{rules}
use Rattle.layout.proofs.equates.Equates.constant.Goals as goal
use Rattle.layout.proofs.equates.Equates.constant.Goals.{then-is_found, else-is_found}
use Rattle.layout.proofs.equates.Equates.constant.Goals.{In-loop-entry}

pub offset_bounds-self-bucket_of : goal.offset_bounds-self-bucket_of
offset_bounds-self-bucket_of c = omega (arith, c.bucket_of.ensures, bucket_below c.args.name.now)

pub bounds-self-bucket_of : goal.bounds-self-bucket_of
bounds-self-bucket_of c = omega (arith, c.bucket_of.ensures, bucket_below c.args.name.now, table_room c.requires.stands)

pub loop-entry-init : goal.loop-entry-init
loop-entry-init c = λ ks t. seek_first t _ _ c.bucket_of.ensures

-- what the walk has of the equates that the buffers stand for: the entry's record is one of so many
below : (d : In-loop-entry) → d.loop-entry.entry - 1 < d.args.self.count
below d =
    omega (arith, (d.loop-entry.invariant d.requires.it d.requires.stands).le, d.requires.stands.rows.counted, d.loop-entry-test.true)

pub is_found-requires : goal.is_found-requires
is_found-requires c = omega (arith, below c, equates_lent c.requires.stands.rows)

pub overflow_add-entry : goal.overflow_add-entry
overflow_add-entry c = omega (arith, below (goal.at.overflow_add-entry c).In-loop-entry)

pub loop-entry-smaller : goal.loop-entry-smaller
loop-entry-smaller c = seek_less c.requires.stands _ _ c.loop-entry.entry c.loop-entry-test.true (c.loop-entry.invariant c.requires.it c.requires.stands)

pub loop-entry-preserved : goal.loop-entry-preserved
loop-entry-preserved c =
    λ ks t.
    let read : (b : Bool) → c.is_found.result ≡ b → is_found (known_at ks (c.loop-entry.entry - 1)) c.args.name.now ≡ b =
    λ b e. found_as_read t c.args.name.now (c.loop-entry.entry - 1) (omega (arith, (c.loop-entry.invariant ks t).le, c.loop-entry-test.true)) b (sym c.is_found.ensures ∙ e) in
    elim c.if-is_found.branch [
      | then-is_found w ↦ rw w.found-is (seek_hit t _ _ _ c.loop-entry-test.true (c.loop-entry.invariant ks t) (read true w.if-is_found.true))
      | else-is_found w ↦ rw w.found-is (seek_miss t _ _ _ c.loop-entry-test.true (c.loop-entry.invariant ks t) (read false w.if-is_found.false))
    ]

pub returns-then-found-eq0 : goal.returns-then-found-eq0
returns-then-found-eq0 c = λ ks t. seek_none t _ _ _ c.loop-entry-test.false (c.loop-entry.invariant ks t) c.if-found-eq0.true

pub overflow_sub-found : goal.overflow_sub-found
overflow_sub-found c = omega (arith, c.if-found-eq0.false)

pub get-requires : goal.get-requires
get-requires c = omega (arith, (c.loop-entry.invariant c.requires.it c.requires.stands).within, c.requires.stands.rows.counted, c.if-found-eq0.false, equates_lent c.requires.stands.rows)

pub returns : goal.returns
returns c =
    let fit : SFits w64 c.get.result.value = search rules in
    λ ks t. rw (to_z-of_z fit)
    (ap (λ r. Some r.value) c.get.ensures ∙ seek_value t _ _ _ c.loop-entry-test.false (c.loop-entry.invariant ks t) c.if-found-eq0.false)
