-- Equates: the code's two records of an equate stand for what the definition gives.
use Prim.Native.Nat.{ℕ, ◌+◌, ◌*◌, ◌≤◌, ◌<◌}
use native.Mathlib.Omega.{arith}
use mathlib.Core.Path.{◌≡◌, refl, ap, ◌∙◌}
use mathlib.Core.List.{List, [], ◌∷◌}
use lib.ListN.{length, length-append}
use lib.IntN.{pos}
use borrow.Author.Tests.{le-ltb, lt-ltb}
use Rattle.std.proofs.Common.{Ok, Err}
use Rattle.layout.specs.declared.limits.Room.{Room}
use Rattle.layout.specs.declared.line.EquateParts.{EquateParts}
use Rattle.layout.specs.declared.state.Place.{Place}
use Rattle.layout.specs.declared.records.EquateRecord.{EquateRecord}
use Rattle.layout.specs.declared.records.ExprRecord.{ExprRecord}
use Rattle.layout.specs.Bytes.{little_endian, put}
use Rattle.layout.specs.Limits.{equate_size}
use Rattle.layout.specs.Records.{field_bytes, equate_fields}
use Rattle.layout.specs.State.{Equate}
use Rattle.layout.specs.Stage.{add_equate}
use Rattle.layout.specs.Code.Tables.{expr_size, expr_fields}
use Rattle.layout.specs.Code.Spans.{SpanWithin, equate_at}
use Rattle.layout.specs.Code.Places.{PlaceFits, place_code}
use Rattle.layout.specs.Code.Steps.{Steps}
use Rattle.layout.specs.Code.Stands.{equate_store, EquatesStand, equate_so_far, expr_so_far}
use Rattle.layout.proofs.ByteLaws.{length-put}
use Rattle.layout.proofs.TableLaws.{table_more}
use Rattle.layout.proofs.SpanLaws.{within_size, within_inside}
use Rattle.layout.proofs.Kept.{add_equate_fits}

equate-sized : (e : Equate) → length (field_bytes (equate_so_far e)) ≡ equate_size
unfolding field_bytes little_endian
equate-sized e = refl

expr_sized : (e : Equate) → length (field_bytes (expr_so_far e)) ≡ expr_size
unfolding field_bytes little_endian
expr_sized e = refl

-- the code's records of an equate
abbrev pub equate_code : ℕ → EquateParts → EquateRecord
equate_code line p = record { start = p.name.start; len = p.name.len; line = line; value = pos 0; round = 0 }

abbrev pub expr_code : Place → EquateParts → ExprRecord
expr_code place p = record { start = p.expr.start; len = p.expr.len; one_space = p.one_space; place = place_code place }

module _ (t : List ℕ) (k : Room) (n : ℕ) (e x e' x' : List ℕ) where
  pub equate_stops : (y : Equate) → k.equates ≤ n
      → Steps (EquatesStand t k) n (equate_store e x) (Err 46) (equate_store e' x') (add_equate k y)
  unfolding add_equate
  equate_stops y h es s = rw (add_equate, le-ltb (length es) k.equates (omega (arith, s.counted))) refl

  module _ (place : Place) (line : ℕ) (p : EquateParts) where
    pub equate_goes : PlaceFits place → line < length t → SpanWithin t p.name → SpanWithin t p.expr → n < k.equates
        → e' ≡ put (n * equate_size) (field_bytes (equate_fields (equate_code line p))) e
        → x' ≡ put (n * expr_size) (field_bytes (expr_fields (expr_code place p))) x
        → Steps (EquatesStand t k) n (equate_store e x) (Ok (n + 1)) (equate_store e' x') (add_equate k (equate_at t place line p))
    unfolding add_equate
    equate_goes fits below w v h g f es s =
        let y = equate_at t place line p in
        let more = lt-ltb (length es) k.equates (omega (arith, s.counted)) in
        let g' : e' ≡ put (n * equate_size) (field_bytes (equate_so_far y)) e = rw (within_size t p.name w) g in
        let f' : x' ≡ put (n * expr_size) (field_bytes (expr_so_far y)) x = rw (within_size t p.expr v) f in
        let l : length e' ≡ length e =
        ap length g' ∙ length-put (n * equate_size) (field_bytes (equate_so_far y)) e (omega (arith, equate-sized y, s.lent)) in
        let m : length x' ≡ length x =
        ap length f' ∙ length-put (n * expr_size) (field_bytes (expr_so_far y)) x (omega (arith, expr_sized y, s.room, s.limit)) in
        rw (add_equate, more)
        (record {
          counted = omega (arith, s.counted, length-append es (y ∷ []));
          fits = rw (add_equate, more) at (add_equate_fits t k y es
              (record { name = within_inside t p.name w; source = within_inside t p.expr v; place = fits; line = below }) s.fits);
          limit = s.limit;
          lent = rw l s.lent;
          room = m ∙ s.room;
          records = table_more equate_so_far equate_size equate-sized e e' es s.records n y s.counted l g';
          exprs = table_more expr_so_far expr_size expr_sized x x' es s.exprs n y s.counted m f';
        })
