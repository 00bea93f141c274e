-- Tables of labels' records: read back, record by record and name by name.
use Prim.Native.Nat.{ℕ, zero, suc, ◌+◌, ◌-◌, ◌*◌, ◌≤◌, ◌<◌}
use native.Mathlib.Nat.{zero-add, add-zero}
use native.Mathlib.Omega.{arith}
use mathlib.Core.Path.{◌≡◌, refl, sym, ap, ap₂, ◌∙◌}
use mathlib.Core.List.{List, [], ◌∷◌, map}
use mathlib.Core.Bool.{Bool, true, false}
use Rattle.std.proofs.Common.{None, Some}
use lib.ListN.{length, drop, get_or, replicate, length-append, drop_of_length-le}
use lib.Seq.{drop-cons}
use lib.Dec.{eqb}
use borrow.Author.Tests.{eqb-true, eqb-false}
use Rattle.numbers.specs.Text.{same}
use Rattle.numbers.specs.Code.Spans.{spanned}
use Rattle.layout.specs.declared.records.LabelRecord.{LabelRecord}
use Rattle.layout.specs.Bytes.{little_endian, together}
use Rattle.layout.specs.Limits.{label_size}
use Rattle.layout.specs.Pieces.{piece}
use Rattle.layout.specs.Addresses.{LabelAt}
use Rattle.layout.specs.Records.{field_bytes, label_record, label_record_at}
use Rattle.layout.specs.Layouts.{label_row}
use Rattle.layout.specs.Code.Index.{name_at, Indexed, Distinct}
use Rattle.layout.specs.Code.Tables.{label_name_at, label_names, lookup_in, LabelsIndexed}
use Rattle.layout.specs.Code.Orders.{LabelAtFits, LabelTable}
use Rattle.layout.proofs.Each.{each_at}
use Rattle.layout.proofs.IndexLaws.{lookup_at, lookup_none}
use Rattle.layout.proofs.TableLaws.{length_records, read-row}

-- ---- the names in so many records

pub names_size : (t b : List ℕ) (j n : ℕ) → length (label_names t b j n) ≡ n
unfolding label_names
names_size t b j zero = refl
names_size t b j (suc n) = ap suc (names_size t b (suc j) n)

names_from-here : (t b : List ℕ) (j n i : ℕ) → i < n → name_at (label_names t b j n) i ≡ label_name_at t b (j + i)
unfolding label_names
names_from-here t b j zero i h = absurd (omega arith)
names_from-here t b j (suc n) zero h = rw (add-zero j) refl
names_from-here t b j (suc n) (suc i) h =
    let sum : suc j + i ≡ j + suc i = omega arith in
    rw (← sum) (names_from-here t b (suc j) n i (omega arith))

pub name_listed : (t b : List ℕ) (n i : ℕ) → i < n → name_at (label_names t b 0 n) i ≡ label_name_at t b i
name_listed t b n i h = names_from-here t b 0 n i h ∙ ap (label_name_at t b) (zero-add i)

-- searched in order: the first record of a name, or none
module _ (t b n : List ℕ) (count : ℕ) where
  pub found_in_order : (k : ℕ) → k < count → same (label_name_at t b k) n ≡ true → ((i : ℕ) → i < k → same (label_name_at t b i) n ≡ false)
      → Some k ≡ lookup_in n 0 (label_names t b 0 count)
  found_in_order k h e before =
      sym (lookup_at (label_names t b 0 count) n 0 k (omega (arith, names_size t b 0 count)) (rw (name_listed t b count k h) e)
      (λ i l. rw (name_listed t b count i (omega arith)) (before i l))
      ∙ ap Some (zero-add k))

  -- the records up to here have other names, and so has this one
  pub others_more : (k : ℕ) → ((i : ℕ) → i < k → same (label_name_at t b i) n ≡ false) → same (label_name_at t b k) n ≡ false
      → (i : ℕ) → i < k + 1 → same (label_name_at t b i) n ≡ false
  others_more k before e i h = by (eqb i k) refl
    where
      by : (c : Bool) → eqb i k ≡ c → same (label_name_at t b i) n ≡ false
      by true q = ap (λ (j : ℕ). same (label_name_at t b j) n) (eqb-true i k q) ∙ e
      by false q = before i (omega (arith, eqb-false i k q))

  pub none_in_order : ((i : ℕ) → i < count → same (label_name_at t b i) n ≡ false) → None ≡ lookup_in n 0 (label_names t b 0 count)
  none_in_order all =
      sym (lookup_none (label_names t b 0 count) n 0 (λ i l.
      let h : i < count = omega (arith, names_size t b 0 count) in
      rw (name_listed t b count i h) (all i h)))

-- ---- a table's records and names are its labels'

abbrev pub label_at_name : LabelAt → List ℕ
label_at_name x = x.name.bytes

abbrev pub label_record_of : LabelAt → LabelRecord
label_record_of x = label_record x.name x.address x.line

no_label_at : LabelAt
no_label_at = record { name = piece 0 []; address = 0; line = 0 }

pub label-sized : (x : LabelAt) → length (field_bytes (label_row x)) ≡ label_size
unfolding field_bytes little_endian
label-sized x = refl

module _ {t b : List ℕ} {count : ℕ} {ls : List LabelAt} (s : LabelTable t b count ls) where
  -- its records lie within it
  pub table_within : count * label_size ≤ length b
  table_within =
      let bytes : LabelAt → List ℕ = λ x. field_bytes (label_row x) in
      let all = together (map bytes ls) in
      omega (
        arith,
        s.counted,
        length_records bytes label_size label-sized ls,
        ap length s.records ∙ length-append all (replicate (length b - length all) 0),
      )

  table_fits : (d : LabelAt) (j : ℕ) → j < count → LabelAtFits t (get_or ls j d)
  table_fits d j h = each_at (LabelAtFits t) ls d j s.fits (omega (arith, s.counted))

  pub label_back : (d : LabelAt) (j : ℕ) → j < count → label_record_at b j ≡ label_record_of (get_or ls j d)
  label_back d j h =
      let x = get_or ls j d in
      let g = table_fits d j h in
      let short = s.text in
      let r = read-row label_row label_size label-sized b ls d j x.name.at (length x.name.bytes) x.address x.line s.records
      (omega (arith, s.counted)) refl (omega (arith, g.name.within)) (omega (arith, g.name.within)) g.address (omega (arith, g.line)) in
      λ i. record { start = r.0 i; len = r.1 i; address = r.2 i; line = r.3 i }

  name_back : (j : ℕ) → j < count → label_name_at t b j ≡ label_at_name (get_or ls j no_label_at)
  unfolding spanned
  name_back j h =
      ap (λ (r : LabelRecord). spanned t (record { start = r.start; len = r.len })) (label_back no_label_at j h) ∙ (table_fits no_label_at j h).name.is

  names_from : (n j : ℕ) → j + n ≡ count → label_names t b j n ≡ map label_at_name (drop j ls)
  unfolding label_names
  names_from zero j e = rw (drop_of_length-le ls {i = j} (omega (arith, s.counted))) refl
  names_from (suc n) j e =
      rw (drop-cons ls j no_label_at (omega (arith, s.counted)))
      (ap₂ (λ (x : List ℕ) (xs : List (List ℕ)). x ∷ xs) (name_back j (omega arith)) (names_from n (suc j) (omega arith)))

  pub names_back : label_names t b 0 count ≡ map label_at_name ls
  names_back = names_from count 0 (omega arith)

  pub table_indexed : (ix : List ℕ) → Indexed (map label_at_name ls) ix → Distinct (map label_at_name ls) → LabelsIndexed t b ix count
  table_indexed ix i d = record { lent = table_within; indexed = rw names_back i; distinct = rw names_back d }
