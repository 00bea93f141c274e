-- Addresses: a place's by its code, the labels' records as they get theirs, and a name looked up among them.
use Prim.Native.Nat.{ℕ, zero, suc, ◌+◌, ◌*◌, ◌/◌, ◌%◌, ◌^◌, ◌≤◌, ◌<◌}
use native.Mathlib.Numerals.{add-one}
use native.Mathlib.Omega.{arith}
use mathlib.Core.Path.{◌≡◌, refl, sym, ap, ◌∙◌}
use mathlib.Core.List.{List, [], ◌∷◌, map, map-map}
use mathlib.Core.Bool.{true, false}
use Rattle.std.proofs.Common.{Option, None, Some}
use Rattle.std.specs.Option.{is_some}
use lib.ListN.{length, get_or, set, length-map, get_or-map}
use Rattle.layout.specs.declared.records.LabelRecord.{LabelRecord}
use Rattle.layout.specs.declared.addresses.Starts.{Starts}
use Rattle.layout.specs.declared.state.Section.{Section}
use Rattle.layout.specs.declared.state.Section.TheVariants as section
use Rattle.layout.specs.Bytes.{put}
use Rattle.layout.specs.Limits.{base_limit, data_limit, label_size}
use Rattle.layout.specs.Pieces.{piece}
use Rattle.layout.specs.State.{Label, State}
use Rattle.layout.specs.Stage.{is_label}
use Rattle.layout.specs.Addresses.{LabelAt, section_start, address_at, placed, label_address}
use Rattle.layout.specs.Records.{field_bytes, label_fields, table_of, label_record_at}
use Rattle.layout.specs.Layouts.{label_row}
use Rattle.layout.specs.Code.Places.{section_limit, section_code}
use Rattle.layout.specs.Code.Fits.{Each, LabelFits}
use Rattle.layout.specs.Code.Tables.{label_names, lookup_in, LabelsIndexed}
use Rattle.layout.specs.Code.Stands.{LabelStore, label_store, label_name}
use Rattle.layout.specs.Code.Orders.{LabelAtFits, LabelTable}
use Rattle.layout.specs.Code.Placed.{PlaceCoded, LabelsPlaced, Unplaced}
use Rattle.layout.proofs.Each.{each_map, each_at}
use Rattle.layout.proofs.TableLaws.{table_set}
use Rattle.layout.proofs.LabelTables.{label_at_name, label_record_of, label-sized, table_within, label_back, names_back, table_indexed}
use Rattle.layout.proofs.LabelLaws.{coded, coded_fit, stand_table, searched, LabelKnown, New, look_known, look_new}
use Rattle.layout.proofs.Fields.{place_below, placed_fit}

-- ---- a place's address by its code

-- the starts by the sections' numbers in codes
abbrev pub start_of : Starts → ℕ → ℕ
start_of s zero = s.text
start_of s (suc zero) = s.«data»
start_of s (suc (suc n)) = s.bss

module _ {s : Starts} {code : ℕ} (p : PlaceCoded s code) where
  pub coded_address : start_of s (code / 0x1000000) + code % 0x1000000 ≡ address_at p.base p.state p.place
  coded_address = by p.place.section p.fits p.is
    where
      by : (x : Section) → p.place.offset ≤ section_limit x → code ≡ section_code x + p.place.offset
          → start_of s (code / 0x1000000) + code % 0x1000000 ≡ section_start p.base p.state x + p.place.offset
      by section.Text h e = let upper : code / 0x1000000 ≡ 0 = omega arith in rw upper (omega (arith, p.starts.text))
      by section.Data h e = let upper : code / 0x1000000 ≡ 1 = omega arith in rw upper (omega (arith, p.starts.data_start))
      by section.Bss h e = let upper : code / 0x1000000 ≡ 2 = omega arith in rw upper (omega (arith, p.starts.bss))

  pub coded_below : start_of s (code / 0x1000000) + code % 0x1000000 < 2 ^ 32
  coded_below = rw coded_address (place_below p.base p.state p.place p.starts.base_limit p.starts.size_limit p.fits)

-- ---- the labels' records get their addresses, one after the other

-- some label of a name
abbrev named : List ℕ → Label
named n = record { name = piece 0 n; place = record { section = section.Text; offset = 0 }; line = 0 }

module _ (base : ℕ) (σ : State) where
  -- the first i labels with their addresses, the others still with their places' codes
  unfoldable pub partly : ℕ → List Label → List LabelAt
  partly zero ls = map coded ls
  partly (suc i) [] = []
  partly (suc i) (l ∷ ls) = placed base σ l ∷ partly i ls

  partly_size : (i : ℕ) (ls : List Label) → length (partly i ls) ≡ length ls
  unfolding partly
  partly_size zero ls = length-map ls coded
  partly_size (suc i) [] = refl
  partly_size (suc i) (l ∷ ls) = ap suc (partly_size i ls)

  partly_at : (i : ℕ) (ls : List Label) (d : Label) → get_or (partly i ls) i (coded d) ≡ coded (get_or ls i d)
  unfolding partly
  partly_at zero [] d = refl
  partly_at zero (l ∷ ls) d = refl
  partly_at (suc i) [] d = refl
  partly_at (suc i) (l ∷ ls) d = partly_at i ls d

  partly_next : (i : ℕ) (ls : List Label) (d : Label) → set (partly i ls) i (placed base σ (get_or ls i d)) ≡ partly (suc i) ls
  unfolding partly
  partly_next zero [] d = refl
  partly_next zero (l ∷ ls) d = refl
  partly_next (suc i) [] d = refl
  partly_next (suc i) (l ∷ ls) d = ap (λ (xs : List LabelAt). placed base σ l ∷ xs) (partly_next i ls d)

  partly_all : (ls : List Label) → partly (length ls) ls ≡ map (placed base σ) ls
  unfolding partly
  partly_all [] = refl
  partly_all (l ∷ ls) = ap (λ (xs : List LabelAt). placed base σ l ∷ xs) (partly_all ls)

  partly_fit : (t : List ℕ) → base ≤ base_limit → length σ.rest.own.stored.bytes ≤ data_limit → (i : ℕ) (ls : List Label)
      → Each (LabelFits t) ls → Each (LabelAtFits t) (partly i ls)
  unfolding partly
  partly_fit t low few zero ls g = each_map (LabelFits t) (LabelAtFits t) coded (coded_fit t) ls g
  partly_fit t low few (suc i) [] g = tt
  partly_fit t low few (suc i) (l ∷ ls) g = (placed_fit t base σ low few l g.0, partly_fit t low few i ls g.1)

-- b was b₀: whatever labels that stood for, the first i have their addresses
pub record LabelsPlacing (b₀ : List ℕ) (count : ℕ) (s : Starts) (b : List ℕ) (i : ℕ) : Type 0 where
  pub within : i ≤ count
  pub sized : length b ≡ length b₀
  pub table : (u : Unplaced b₀ count s) → LabelTable u.text b count (partly u.base u.state i u.state.labels)

module _ {b₀ : List ℕ} {count : ℕ} {s : Starts} where
  pub placing_first : LabelsPlacing b₀ count s b₀ 0
  unfolding partly
  placing_first =
      record {
        within = omega arith;
        sized = refl;
        table = λ u. stand_table u.labels u.short;
      }

  module _ {b : List ℕ} {i : ℕ} (m : LabelsPlacing b₀ count s b i) (more : i < count) where
    pub record_within : Unplaced b₀ count s → i * label_size + label_size ≤ length b
    record_within u = omega (arith, table_within (m.table u))

    -- the ith label
    abbrev label : Unplaced b₀ count s → Label
    label u = get_or u.state.labels i (named [])

    module _ (r : LabelRecord) (e : r ≡ label_record_at b i) where
      -- its record still has its place's code
      still_coded : (u : Unplaced b₀ count s) → r ≡ label_record_of (coded (label u))
      still_coded u =
          e ∙ label_back (m.table u) (coded (named [])) i more
          ∙ ap label_record_of (partly_at u.base u.state i u.state.labels (named []))

      pub place_back : Unplaced b₀ count s → PlaceCoded s r.address
      place_back u =
          record {
            base = u.base;
            state = u.state;
            place = (label u).place;
            starts = u.starts;
            fits = (each_at (LabelFits u.text) u.state.labels (named []) i u.labels.fits.each (omega (arith, u.labels.counted))).place;
            is = ap (λ (x : LabelRecord). x.address) (still_coded u);
          }

      pub placing_next : (a : ℕ) → ((p : PlaceCoded s r.address) → a ≡ address_at p.base p.state p.place)
          → (b' : List ℕ) → length b' ≡ length b
          → b' ≡ put (i * label_size) (field_bytes (label_fields (record { start = r.start; len = r.len; address = a; line = r.line }))) b
          → LabelsPlacing b₀ count s b' (i + 1)
      unfolding place_back
      placing_next a is b' size w =
          record {
            within = omega arith;
            sized = size ∙ m.sized;
            table = λ u. rw (add-one i) (next u);
          }
        where
          next : (u : Unplaced b₀ count s) → LabelTable u.text b' count (partly u.base u.state (suc i) u.state.labels)
          next u =
              let ls = u.state.labels in
              let base = u.base in
              let σ = u.state in
              let many = partly_size base σ i ls in
              let written : field_bytes (label_fields (record { start = r.start; len = r.len; address = a; line = r.line }))
              ≡ field_bytes (label_row (placed base σ (label u))) =
              ap (λ (x : LabelRecord). field_bytes (label_fields (record { start = x.start; len = x.len; address = a; line = x.line })))
              (still_coded u)
              ∙ ap (λ (n : ℕ). field_bytes (label_row (record { name = (label u).name; address = n; line = (label u).line }))) (is (place_back u)) in
              record {
                text = u.short;
                counted = u.labels.counted ∙ sym (partly_size base σ (suc i) ls);
                fits = partly_fit base σ u.text u.starts.base_limit u.starts.size_limit (suc i) ls u.labels.fits.each;
                records =
                    table_set label_row label_size label-sized b b' (partly base σ i ls) (m.table u).records i (placed base σ (label u))
                    (omega (arith, many, u.labels.counted)) size (w ∙ ap (λ (bs : List ℕ). put (i * label_size) bs b) written)
                    ∙ ap (table_of (length b') label_row) (partly_next base σ i ls (named []));
              }

  pub placing_end : {b : List ℕ} {i : ℕ} → LabelsPlacing b₀ count s b i → count ≤ i → (u : Unplaced b₀ count s)
      → LabelsPlaced u.text u.base u.state count (label_store b u.index)
  placing_end {i = i} m h u =
      let all : i ≡ length u.state.labels = omega (arith, m.within, u.labels.counted) in
      record {
        table = rw (all, partly_all u.base u.state u.state.labels) at (m.table u);
        indexed = u.labels.indexed;
        distinct = u.labels.distinct;
      }

-- ---- a name looked up among labels with their addresses

module _ {t : List ℕ} {base : ℕ} {σ : State} {count : ℕ} {b : LabelStore} (p : LabelsPlaced t base σ count b) where
  placed_names : label_names t b.records 0 count ≡ map label_name σ.labels
  placed_names = names_back p.table ∙ map-map label_at_name (placed base σ) σ.labels

  pub placed_indexed : LabelsIndexed t b.records b.index count
  placed_indexed =
      let names = map-map label_at_name (placed base σ) σ.labels in
      table_indexed p.table b.index (rw names p.indexed) (rw names p.distinct)

  module _ (n : List ℕ) where
    module _ (j : ℕ) (e : Some j ≡ lookup_in n 0 (label_names t b.records 0 count)) where
      known : LabelKnown (named n) σ.labels j
      known = look_known (named n) σ.labels j (searched n σ.labels placed_names (Some j) e)

      pub found_label : true ≡ is_label n σ.labels
      found_label = sym known.known

      pub found_address : Some (label_record_at b.records j).address ≡ label_address base σ n
      found_address =
          let below : j < count = rw (p.table.counted, length-map σ.labels (placed base σ)) known.below in
          ap (λ (x : LabelRecord). Some x.address) (label_back p.table (placed base σ (named n)) j below)
          ∙ ap (λ (x : LabelAt). Some x.address) (get_or-map (placed base σ) σ.labels j (named n))
          ∙ sym (known.address base σ)

    module _ (e : None ≡ lookup_in n 0 (label_names t b.records 0 count)) where
      new : New (named n) σ.labels
      new = look_new (named n) σ.labels 0 (searched n σ.labels placed_names None e)

      pub no_label : false ≡ is_label n σ.labels
      no_label = sym new.unknown

      pub no_address : None ≡ label_address base σ n
      no_address = sym (new.nowhere base σ)

    pub whether_label : (r : Option ℕ) → r ≡ lookup_in n 0 (label_names t b.records 0 count) → is_some r ≡ is_label n σ.labels
    whether_label (Some j) e = found_label j e
    whether_label None e = no_label e
