-- Symbols resolved: from what the lines left to what filling label words and the rounds ask, and their answers together.
use Prim.Native.Nat.{ℕ}
use native.Mathlib.Omega.{arith}
use mathlib.Core.Path.{◌≡◌, refl, sym, ap, ◌∙◌}
use mathlib.Core.List.{List, [], ◌∷◌, map}
use lib.ListN.{length, length-map}
use Rattle.std.proofs.Common.{Result, Ok, Err}
use Rattle.numbers.specs.Results.{and_then}
use Rattle.layout.specs.declared.addresses.Starts.{Starts}
use Rattle.layout.specs.declared.state.Counters.{Counters}
use Rattle.layout.specs.Refusals.{Refusal}
use Rattle.layout.specs.Bytes.{padded, together}
use Rattle.layout.specs.State.{Equate, State}
use Rattle.layout.specs.Addresses.{label_address, fill}
use Rattle.layout.specs.Layouts.{resolve}
use Rattle.layout.specs.Records.{RecordField, field_bytes, table_of}
use Rattle.layout.specs.Rounds.{Known, pending_equate, Turns}
use Rattle.layout.specs.Code.Steps.{Agrees}
use Rattle.layout.specs.Code.Fits.{EquateFits}
use Rattle.layout.specs.Code.Index.{Indexed}
use Rattle.layout.specs.Code.Tables.{equate_names}
use Rattle.layout.specs.Code.Stands.{label_store, equate_so_far, expr_so_far}
use Rattle.layout.specs.Code.Placed.{StartsAt, LabelsPlaced, Unplaced, Unfilled, FillLeft}
use Rattle.layout.specs.Code.Names.{known_fields, KnownFits, EquateRecords}
use Rattle.layout.specs.Code.Resolves.{known_expr, RoundsStand, ResolveLeft}
use Rattle.layout.specs.Code.Symbols.{SymbolsStand, symbols_of, SymbolsLeft}
use Rattle.layout.proofs.Each.{each_map}
use Rattle.layout.proofs.KnownLaws.{equate_names_lem}
use Rattle.layout.proofs.StepLaws.{then_stop}

-- a table of pending equates is the table of the equates
pending_rows : (f : Known → List RecordField) (g : Equate → List RecordField) → ((e : Equate) → f (pending_equate e) ≡ g e) → (n : ℕ) (es : List Equate)
    → table_of n f (map pending_equate es) ≡ table_of n g es
pending_rows f g same n es = ap (λ (bs : List (List ℕ)). padded n (together bs)) (each es)
  where
    each : (xs : List Equate) → map (λ k. field_bytes (f k)) (map pending_equate xs) ≡ map (λ x. field_bytes (g x)) xs
    each [] = refl
    each (x ∷ xs) = ap (λ (bs : List (List ℕ)). field_bytes (f (pending_equate x)) ∷ bs) (each xs) ∙ ap (λ (fs : List RecordField). field_bytes fs ∷ map (λ y. field_bytes (g y)) xs) (same x)

module _ {t : List ℕ} {base : ℕ} {st : Counters} {l n e ix x w d lw : List ℕ} (s : SymbolsStand t base st l n e ix x w d lw) where
  pub symbols_starts : (r : Starts) → ((τ : State) → length τ.rest.own.stored.bytes ≡ st.rest.own.stored.bytes → StartsAt r base τ) → StartsAt r base s.state
  symbols_starts r f = f s.state (sym s.stored.counted)

  abbrev pub unplaced : (starts : Starts) → StartsAt starts base s.state → Unplaced l st.labels starts
  unplaced starts a = record { text = t; room = s.room; index = n; base = base; state = s.state; short = s.text; starts = a; labels = s.labels }

  abbrev pub unfilled : (l' : List ℕ) → LabelsPlaced t base s.state st.labels (label_store l' n)
      → Unfilled t l' n st.labels lw st.rest.own.stored.label_words d
  unfilled l' p = record { base = base; state = s.state; room = s.room; size = st.rest.own.stored.bytes; labels = p; stored = s.stored }

  -- the equates, all pending
  pending_records : EquateRecords t e st.rest.equates (map pending_equate s.state.rest.equates)
  pending_records =
      record {
        text = s.text;
        counted = s.equates.counted ∙ sym (length-map s.state.rest.equates pending_equate);
        few = omega (arith, length-map s.state.rest.equates pending_equate, s.equates.fits.few, s.equates.limit);
        fits = each_map (EquateFits t) (KnownFits t) pending_equate (λ x f. record { equate = f; found = tt }) s.state.rest.equates s.equates.fits.each;
        records = s.equates.records ∙ sym (pending_rows known_fields equate_so_far (λ x. refl) (length e) s.state.rest.equates);
      }

  pub rounds_stand : (starts : Starts) → StartsAt starts base s.state → (l' : List ℕ) → LabelsPlaced t base s.state st.labels (label_store l' n)
      → (ix' : List ℕ) → Indexed (equate_names t e 0 st.rest.equates) ix'
      → RoundsStand t l' n st.labels starts e ix' st.rest.equates x w base s.state
  rounds_stand starts a l' p ix' q =
      record {
        stand = record {
          names = record { labels = p; equates = record { rows = pending_records; indexed = rw (equate_names_lem pending_records) at q } };
          starting = a;
          records = s.equates.exprs ∙ sym (pending_rows known_expr expr_so_far (λ x. refl) (length x) s.state.rest.equates);
        };
        room = omega (arith, s.equates.counted, s.equates.fits.few, s.equates.limit, s.partials_room);
      }

-- both answers together
module _ (t : List ℕ) (base : ℕ) (σ : State) (st : Counters) (l n e ix d : List ℕ) where
  abbrev filled : Result (List ℕ) Refusal
  filled = fill (label_address base σ) σ.rest.own.stored.label_words σ.rest.own.stored.bytes

  pub fill_stop : (r : Refusal) → Agrees (FillLeft st.rest.own.stored.label_words d) (Err r) filled
      → Agrees (SymbolsLeft t base σ st l n e ix d) (Err r) (symbols_of base σ)
  fill_stop r a = then_stop (FillLeft st.rest.own.stored.label_words d) (SymbolsLeft t base σ st l n e ix d) (Err r) filled _ r refl a

  pub symbols_go : (m : ℕ) (r : Result ℕ Refusal) → LabelsPlaced t base σ st.labels (label_store l n)
      → Agrees (FillLeft st.rest.own.stored.label_words d) (Ok m) filled
      → Agrees (ResolveLeft t e ix st.rest.equates) r (resolve base σ σ.rest.equates) → Agrees (SymbolsLeft t base σ st l n e ix d) r (symbols_of base σ)
  symbols_go m r p a b = by filled (resolve base σ σ.rest.equates) r a b
    where
      by : (f : Result (List ℕ) Refusal) (g : Result Turns Refusal) (q : Result ℕ Refusal) → Agrees (FillLeft st.rest.own.stored.label_words d) (Ok m) f
          → Agrees (ResolveLeft t e ix st.rest.equates) q g
          → Agrees (SymbolsLeft t base σ st l n e ix d) q (and_then f (λ bytes. and_then g (λ x. Ok (record { bytes = bytes; turns = x }))))
      by (Err y) g q a b = absurd a
      by (Ok bytes) (Ok y) (Ok n) a b = record { labels = p; bytes = a.stored; resolved = b }
      by (Ok bytes) (Ok y) (Err z) a b = absurd b
      by (Ok bytes) (Err y) (Ok n) a b = absurd b
      by (Ok bytes) (Err y) (Err z) a b = b
