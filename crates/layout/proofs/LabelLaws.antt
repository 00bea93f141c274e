-- Labels by name: their records while the lines are read, a name looked up among them, and what the table stands for after a label's step.
use Prim.Native.Nat.{ℕ, suc, ◌+◌, ◌*◌, ◌^◌, ◌≤◌, ◌<◌}
use native.Mathlib.Omega.{arith}
use mathlib.Core.Path.{◌≡◌, refl, sym, ap, ◌∙◌}
use mathlib.Core.List.{List, [], ◌∷◌, ◌++◌, map, map-map, map-append}
use mathlib.Core.Bool.{Bool, true, false, ◌||◌, false≢true}
use Rattle.std.proofs.Common.{Option, None, Some}
use lib.ListN.{length, get_or, set, length-append, length-map, length-set}
use borrow.Author.Tests.{lt-ltb, le-ltb}
use Rattle.numbers.specs.declared.text.Span.{Span}
use Rattle.std.proofs.Common.{Ok, Err}
use Rattle.numbers.specs.Text.{same}
use Rattle.numbers.proofs.Bools.{none-some}
use Rattle.numbers.proofs.Prefixes.{same_equal}
use Rattle.layout.specs.declared.limits.Room.{Room}
use Rattle.layout.specs.declared.state.Section.{Section}
use Rattle.layout.specs.declared.state.Section.TheVariants as section
use Rattle.layout.specs.declared.state.Place.{Place}
use Rattle.layout.specs.Bytes.{put, padded, together}
use Rattle.layout.specs.Limits.{text_limit, label_size}
use Rattle.layout.specs.State.{Label, State}
use Rattle.layout.specs.Stage.{is_label, recorded, add_label}
use Rattle.layout.specs.Addresses.{LabelAt, address_at, address_in}
use Rattle.layout.specs.Records.{field_bytes, label_fields}
use Rattle.layout.specs.Layouts.{label_row}
use Rattle.layout.specs.Code.Fits.{LabelFits}
use Rattle.layout.specs.Code.Steps.{Agrees}
use Rattle.layout.specs.Code.Spans.{piece_at, SpanWithin}
use Rattle.layout.specs.Code.Places.{section_limit, section_code, place_code, PlaceFits}
use Rattle.layout.specs.Code.Index.{buckets, bucket_of, inserted}
use Rattle.layout.specs.Code.Tables.{label_names, lookup_in, LabelsIndexed}
use Rattle.layout.specs.Code.Stands.{label_so_far, LabelStore, label_name, LabelsStand}
use Rattle.layout.specs.Code.Orders.{LabelAtFits, LabelTable}
use Rattle.layout.proofs.Each.{each_map}
use Rattle.layout.proofs.SpanLaws.{within_size, within_inside}
use Rattle.layout.proofs.TableLaws.{table_more, table_set}
use Rattle.layout.proofs.LabelTables.{label_at_name, label-sized, names_back, table_indexed}
use Rattle.layout.proofs.Kept.{recorded_known, add_label_fits}
use Rattle.layout.proofs.IndexLaws.{not_among, indexed_more, distinct_more}

-- ---- the labels' records while the lines are read are a table

-- a label with its place's code for its address
abbrev pub coded : Label → LabelAt
coded l = record { name = l.name; address = place_code l.place; line = l.line }

code_below : (p : Place) → PlaceFits p → place_code p < 2 ^ 32
code_below p h = by p.section h
  where
    by : (s : Section) → p.offset ≤ section_limit s → section_code s + p.offset < 2 ^ 32
    by section.Text h = omega arith
    by section.Data h = omega arith
    by section.Bss h = omega arith

pub coded_fit : (t : List ℕ) (l : Label) → LabelFits t l → LabelAtFits t (coded l)
coded_fit t l g = record { name = g.name; address = code_below l.place g.place; line = g.line }

module _ {t : List ℕ} {k : Room} {count : ℕ} {b : LabelStore} {ls : List Label} (s : LabelsStand t k count b ls) (short : length t ≤ text_limit) where
  pub stand_table : LabelTable t b.records count (map coded ls)
  stand_table =
      record {
        text = short;
        counted = s.counted ∙ sym (length-map ls coded);
        fits = each_map (LabelFits t) (LabelAtFits t) coded (coded_fit t) ls s.fits.each;
        records = s.records
            ∙ ap (λ (rs : List (List ℕ)). padded (length b.records) (together rs)) (sym (map-map (λ x. field_bytes (label_row x)) coded ls));
      }

  stand_names : label_names t b.records 0 count ≡ map label_name ls
  stand_names = names_back stand_table ∙ map-map label_at_name coded ls

  pub labels_indexed : LabelsIndexed t b.records b.index count
  labels_indexed =
      table_indexed stand_table b.index (rw (map-map label_at_name coded ls) s.indexed) (rw (map-map label_at_name coded ls) s.distinct)

-- ---- what a look-up says of the definition

-- what was found among the names in records
pub searched : (n : List ℕ) (ls : List Label) {ns : List (List ℕ)} → ns ≡ map label_name ls → (o : Option ℕ) → o ≡ lookup_in n 0 ns
    → lookup_in n 0 (map label_name ls) ≡ o
searched n ls names o e = ap (lookup_in n 0) (sym names) ∙ sym e

-- the kth label is the one of x's name: the name's address is its own, and x takes its place
pub record LabelKnown (x : Label) (ls : List Label) (k : ℕ) : Type 0 where
  pub below : k < length ls
  pub known : is_label x.name.bytes ls ≡ true
  pub address : (base : ℕ) (σ : State) → address_in base σ ls x.name.bytes ≡ Some (address_at base σ (get_or ls k x).place)
  pub replaced : recorded x ls ≡ set ls k x

-- none has it, and x is one more
pub record New (x : Label) (ls : List Label) : Type 0 where
  pub unknown : is_label x.name.bytes ls ≡ false
  pub nowhere : (base : ℕ) (σ : State) → address_in base σ ls x.name.bytes ≡ None
  pub more : recorded x ls ≡ ls ++ x ∷ []

module _ (x : Label) where
  known_from : (ls : List Label) (j k : ℕ) → lookup_in (label_name x) j (map label_name ls) ≡ Some k → (i : ℕ) × (k ≡ j + i) × LabelKnown x ls i
  unfolding lookup_in is_label address_in recorded
  known_from [] j k e = absurd (none-some e)
  known_from (l ∷ ls) j k e = by (same l.name.bytes x.name.bytes) refl e (known_from ls (suc j) k)
    where
      by : (c : Bool) → same l.name.bytes x.name.bytes ≡ c
          → ◌≡◌ {A = Option ℕ} (elim c [ true ↦ Some j | false ↦ lookup_in (label_name x) (suc j) (map label_name ls) ]) (Some k)
          → (lookup_in (label_name x) (suc j) (map label_name ls) ≡ Some k → (i : ℕ) × (k ≡ suc j + i) × LabelKnown x ls i)
          → (i : ℕ) × (k ≡ j + i) × LabelKnown x (l ∷ ls) i
      by true q e more =
          let p : j ≡ k = cc in (
            0,
            omega arith,
            record {
              below = omega arith;
              known = rw (is_label, q) refl;
              address = λ base σ. rw (address_in, q) refl;
              replaced = rw (recorded, q) refl;
            },
          )
      by false q e more =
          let m = more e in (
            suc m.0,
            omega (arith, m.1),
            record {
              below = omega (arith, m.2.below);
              known = rw (is_label, q) m.2.known;
              address = λ base σ. rw (address_in, q) (m.2.address base σ);
              replaced = rw (recorded, q) (ap (λ (r : List Label). l ∷ r) m.2.replaced);
            },
          )

  pub look_known : (ls : List Label) (k : ℕ) → lookup_in (label_name x) 0 (map label_name ls) ≡ Some k → LabelKnown x ls k
  look_known ls k e =
      let m = known_from ls 0 k e in
      let q : k ≡ m.0 = omega (arith, m.1) in
      rw q m.2

  pub look_new : (ls : List Label) (j : ℕ) → lookup_in (label_name x) j (map label_name ls) ≡ None → New x ls
  unfolding lookup_in is_label address_in recorded
  look_new [] j e = record { unknown = refl; nowhere = λ base σ. refl; more = refl }
  look_new (l ∷ ls) j e = by (same l.name.bytes x.name.bytes) refl e (look_new ls (suc j))
    where
      by : (c : Bool) → same l.name.bytes x.name.bytes ≡ c
          → ◌≡◌ {A = Option ℕ} (elim c [ true ↦ Some j | false ↦ lookup_in (label_name x) (suc j) (map label_name ls) ]) None
          → (lookup_in (label_name x) (suc j) (map label_name ls) ≡ None → New x ls) → New x (l ∷ ls)
      by true q e more = absurd (none-some (sym e))
      by false q e more =
          let m = more e in
          record {
            unknown = rw (is_label, q) m.unknown;
            nowhere = λ base σ. rw (address_in, q) (m.nowhere base σ);
            more = rw (recorded, q) (ap (λ (r : List Label). l ∷ r) m.more);
          }

-- ---- the table after a label's step: b' is the buffer then

-- a label by its span and place, as the code writes it
abbrev pub label_here : List ℕ → Span → Place → ℕ → Label
label_here t q place line = record { name = piece_at t q; place = place; line = line }

module _ (t : List ℕ) (q : Span) (place : Place) (line : ℕ) (w : SpanWithin t q) where
  pub label_written : (address : ℕ) → address ≡ place_code place
      → field_bytes (label_fields (record { start = q.start; len = q.len; address = address; line = line })) ≡ field_bytes (label_so_far (label_here t q place line))
  label_written address e = rw (within_size t q w, e) refl

  pub label_fits : PlaceFits place → line < length t → LabelFits t (label_here t q place line)
  label_fits p h = record { name = within_inside t q w; place = p; line = h }

-- the names that there are then: the same, or one more
known_names : (x : Label) (ls : List Label) → is_label x.name.bytes ls ≡ true → map label_name (recorded x ls) ≡ map label_name ls
unfolding is_label recorded
known_names x [] e = absurd (false≢true e)
known_names x (l ∷ ls) e = by (same l.name.bytes x.name.bytes) refl e (known_names x ls)
  where
    by : (c : Bool) → same l.name.bytes x.name.bytes ≡ c → c || is_label x.name.bytes ls ≡ true
        → (is_label x.name.bytes ls ≡ true → map label_name (recorded x ls) ≡ map label_name ls)
        → map label_name (elim c [ true ↦ x ∷ ls | false ↦ l ∷ recorded x ls ]) ≡ map label_name (l ∷ ls)
    by true q e later = ap (λ (n : List ℕ). n ∷ map label_name ls) (sym (same_equal l.name.bytes x.name.bytes q))
    by false q e later = ap (λ (ns : List (List ℕ)). l.name.bytes ∷ ns) (later e)

module _ (t : List ℕ) (k : Room) (count : ℕ) (b b' : LabelStore) (x : Label) (small : length t ≤ text_limit) (fits : LabelFits t x)
    (same_size : length b'.records ≡ length b.records) (ls : List Label) (s : LabelsStand t k count b ls) where
  -- a label of this name is there: it is replaced
  pub label_known : (j : ℕ) → Some j ≡ lookup_in (label_name x) 0 (label_names t b.records 0 count)
      → b'.records ≡ put (j * label_size) (field_bytes (label_so_far x)) b.records → b'.index ≡ b.index
      → Agrees (λ c. LabelsStand t k c b') (Ok count) (add_label k x ls)
  unfolding add_label
  label_known j e q i =
      let r = look_known x ls j (searched (label_name x) ls (stand_names s small) (Some j) e) in
      let goes : add_label k x ls ≡ Ok (recorded x ls) = rw (add_label, r.known) refl in
      rw goes
      (record {
        counted = s.counted ∙ sym (recorded_known x ls r.known);
        fits = rw goes at (add_label_fits t k x ls fits s.fits);
        limit = s.limit;
        lent = rw same_size s.lent;
        records = rw r.replaced (table_set label_so_far label_size (λ l. label-sized (coded l)) b.records b'.records ls s.records j x r.below same_size q);
        room = rw i s.room;
        indexed = rw (known_names x ls r.known, i) s.indexed;
        distinct = rw (known_names x ls r.known) s.distinct;
      })

  module _ (e : None ≡ lookup_in (label_name x) 0 (label_names t b.records 0 count)) where
    -- there is none, and room for one more
    pub label_new : count < k.labels → b'.records ≡ put (count * label_size) (field_bytes (label_so_far x)) b.records
        → (bucket : ℕ) → bucket ≡ bucket_of (label_name x) → b'.index ≡ inserted count bucket b.index
        → Agrees (λ c. LabelsStand t k c b') (Ok (count + 1)) (add_label k x ls)
    unfolding add_label
    label_new h q bucket is i =
        let nowhere = searched (label_name x) ls (stand_names s small) None e in
        let r = look_new x ls 0 nowhere in
        let below : length ls < k.labels = omega (arith, s.counted) in
        let goes : add_label k x ls ≡ Ok (recorded x ls) = rw (add_label, r.unknown, lt-ltb (length ls) k.labels below) refl in
        let names : map label_name (recorded x ls) ≡ map label_name ls ++ label_name x ∷ [] = ap (map label_name) r.more ∙ map-append label_name ls (x ∷ []) in
        let size : length (map label_name ls) ≡ count = length-map ls label_name ∙ sym s.counted in
        rw goes
        (record {
          counted = rw (r.more, length-append ls (x ∷ []), s.counted) refl;
          fits = rw goes at (add_label_fits t k x ls fits s.fits);
          limit = s.limit;
          lent = rw same_size s.lent;
          records = rw r.more (table_more label_so_far label_size (λ l. label-sized (coded l)) b.records b'.records ls s.records count x s.counted same_size q);
          room = rw (i, length-set (set b.index (buckets + count) (get_or b.index bucket 0)) bucket (count + 1), length-set b.index (buckets + count) (get_or b.index bucket 0)) s.room;
          indexed = rw (names, i, ← size) (indexed_more (map label_name ls) (label_name x) b.index bucket is s.indexed (omega (arith, size, s.room, s.limit)));
          distinct = rw names (distinct_more (map label_name ls) (label_name x) b.index bucket is s.distinct (not_among (map label_name ls) (label_name x) 0 nowhere));
        })

    -- there is none, and no room
    pub label-full : k.labels ≤ count → Agrees (λ c. LabelsStand t k c b') (Err 45) (add_label k x ls)
    unfolding add_label
    label-full h =
        let r = look_new x ls 0 (searched (label_name x) ls (stand_names s small) None e) in
        rw (add_label, r.unknown, le-ltb (length ls) k.labels (omega (arith, s.counted))) refl
