-- Equates with what is found of them: their records read back, and a name's value looked up along its bucket's chain.
use Prim.Native.Nat.{ℕ, zero, suc, ◌+◌, ◌-◌, ◌*◌, ◌^◌, ◌≤◌, ◌<◌}
use native.Mathlib.Nat.{zero-add}
use native.Mathlib.Numerals.{add-one}
use native.Mathlib.Omega.{arith}
use mathlib.Core.Path.{◌≡◌, refl, sym, ap, ap₂, subst, ◌∙◌}
use mathlib.Core.List.{List, [], ◌∷◌, ◌++◌, map}
use mathlib.Core.Bool.{Bool, true, false, ◌&&◌, not, false≢true}
use Rattle.std.proofs.Common.{Option, None, Some}
use lib.Dec.{eqb}
use lib.IntN.{ℤ}
use lib.ListN.{length, take, drop, get_or, length-map, drop_of_length-le, get_or-map}
use lib.Seq.{take-suc, take_all, drop-cons}
use borrow.Author.Tests.{ne_eqb}
use Rattle.numbers.specs.Text.{same}
use Rattle.numbers.specs.Ints.{in64, bits, signed_of}
use Rattle.numbers.specs.Code.Spans.{spanned}
use Rattle.layout.specs.Bytes.{little_endian}
use Rattle.layout.specs.Limits.{equate_size}
use Rattle.layout.specs.Records.{four, eight, field_bytes, equate_record_at}
use Rattle.layout.specs.Rounds.{Found, Known, or_else, found_value, constant, first_pending}
use Rattle.layout.specs.Code.Index.{buckets, bucket_of, name_at, Indexed, inserted}
use Rattle.layout.specs.Code.Tables.{equate_name_at, equate_names}
use Rattle.layout.specs.Code.Names.{value_so_far, round_so_far, known_fields, known_name, MaybeFits, KnownFits, EquateRecords, EquateTable}
use Rattle.layout.specs.Code.Resolves.{no_known, known_at}
use Rattle.numbers.proofs.Bools.{and_left, and_right}
use Rattle.layout.proofs.Each.{each_at}
use Rattle.layout.proofs.Fields.{bits_below, signed_back}
use Rattle.layout.proofs.TableLaws.{read-four, read-eight, table_lent}
use Rattle.layout.proofs.IndexLaws.{bucket_below, Last, last_is, other_bucket, indexed_more}

-- ---- the records

pub known_sized : (k : Known) → length (field_bytes (known_fields k)) ≡ equate_size
unfolding field_bytes little_endian
known_sized k = refl

maybe_round : (o : Option Found) → MaybeFits o → round_so_far o < 2 ^ 32
maybe_round None m = omega arith
maybe_round (Some f) m = omega (arith, m.to)

maybe_value : (o : Option Found) → MaybeFits o → in64 (value_so_far o) ≡ true
maybe_value None m = refl
maybe_value (Some f) m = m.value

module _ {t b : List ℕ} {count : ℕ} {ks : List Known} (s : EquateRecords t b count ks) where
  pub equates_lent : count * equate_size ≤ length b
  equates_lent = rw s.counted (table_lent known_fields equate_size known_sized b ks s.records)

  module _ (j : ℕ) (h : j < length ks) where
    pub fits_at : KnownFits t (known_at ks j)
    fits_at = each_at (KnownFits t) ks no_known j s.fits h

    pub name-start : (equate_record_at b j).start ≡ (known_at ks j).equate.name.at
    unfolding field_bytes little_endian
    name-start =
        read-four known_fields equate_size known_sized b ks no_known j (j * equate_size) (known_at ks j).equate.name.at [] _ s.records h refl
        (omega arith) (omega (arith, fits_at.equate.name.within, s.text))

    pub name_len : (equate_record_at b j).len ≡ length (known_name (known_at ks j))
    unfolding field_bytes little_endian
    name_len =
        read-four known_fields equate_size known_sized b ks no_known j (j * equate_size + 4) (length (known_name (known_at ks j)))
        (four (known_at ks j).equate.name.at ∷ []) _ s.records h refl refl (omega (arith, fits_at.equate.name.within, s.text))

    pub line_back : (equate_record_at b j).line ≡ (known_at ks j).equate.line
    unfolding field_bytes little_endian
    line_back =
        read-four known_fields equate_size known_sized b ks no_known j (j * equate_size + 8) (known_at ks j).equate.line
        (four (known_at ks j).equate.name.at ∷ four (length (known_name (known_at ks j))) ∷ []) _ s.records h refl refl
        (omega (arith, fits_at.equate.line, s.text))

    pub value_back : (equate_record_at b j).value ≡ value_so_far (known_at ks j).found
    unfolding field_bytes little_endian
    value_back =
        let k = known_at ks j in
        let fits = maybe_value k.found fits_at.found in
        ap (signed_of 64)
        (read-eight known_fields equate_size known_sized b ks no_known j (j * equate_size + 12) (bits 64 (value_so_far k.found))
        (four k.equate.name.at ∷ four (length (known_name k)) ∷ four k.equate.line ∷ []) _ s.records h refl refl
        (bits_below (value_so_far k.found) fits))
        ∙ signed_back (value_so_far k.found) fits

    pub round_back : (equate_record_at b j).round ≡ round_so_far (known_at ks j).found
    unfolding field_bytes little_endian
    round_back =
        let k = known_at ks j in
        read-four known_fields equate_size known_sized b ks no_known j (j * equate_size + 20) (round_so_far k.found)
        (four k.equate.name.at ∷ four (length (known_name k)) ∷ four k.equate.line ∷ eight (bits 64 (value_so_far k.found)) ∷ []) _
        s.records h refl refl (maybe_round k.found fits_at.found)

    pub name_back : equate_name_at t b j ≡ known_name (known_at ks j)
    unfolding spanned
    name_back = rw (name-start, name_len) fits_at.equate.name.is

  names_from : (n j : ℕ) → j + n ≡ length ks → equate_names t b j n ≡ map known_name (drop j ks)
  unfolding equate_names
  names_from zero j e = rw (drop_of_length-le ks {i = j} (omega arith)) refl
  names_from (suc n) j e =
      rw (drop-cons ks j no_known (omega arith))
      (ap₂ (λ (x : List ℕ) (xs : List (List ℕ)). x ∷ xs) (name_back j (omega arith)) (names_from n (suc j) (omega arith)))

  pub equate_names_lem : equate_names t b 0 count ≡ map known_name ks
  equate_names_lem = rw s.counted (names_from (length ks) 0 (omega arith))

-- so many names, and one more
names_size : (t b : List ℕ) (j n : ℕ) → length (equate_names t b j n) ≡ n
unfolding equate_names
names_size t b j zero = refl
names_size t b j (suc n) = ap suc (names_size t b (suc j) n)

names_more : (t b : List ℕ) (j n : ℕ) → equate_names t b j (suc n) ≡ equate_names t b j n ++ equate_name_at t b (j + n) ∷ []
unfolding equate_names
names_more t b j zero = let sum : j + 0 ≡ j = omega arith in rw sum refl
names_more t b j (suc n) =
    let sum : suc j + n ≡ j + suc n = omega arith in
    ap (λ (ns : List (List ℕ)). equate_name_at t b j ∷ ns) (names_more t b (suc j) n ∙ ap (λ (i : ℕ). equate_names t b (suc j) n ++ equate_name_at t b i ∷ []) sum)

-- the index is of no name, then of the first k, then of one more
pub index_start : (t b ix : List ℕ) → Indexed [] ix → Indexed (equate_names t b 0 0) ix
unfolding equate_names
index_start t b ix q = q

pub index_more : (t b ix : List ℕ) (k bucket : ℕ) → bucket ≡ bucket_of (equate_name_at t b k) → Indexed (equate_names t b 0 k) ix → buckets + k < length ix
    → Indexed (equate_names t b 0 (k + 1)) (inserted k bucket ix)
index_more t b ix k bucket e q h =
    let size = names_size t b 0 k in
    let names : equate_names t b 0 k ++ equate_name_at t b k ∷ [] ≡ equate_names t b 0 (k + 1) =
    sym (ap (equate_names t b 0) (add-one k) ∙ names_more t b 0 k ∙ ap (λ (i : ℕ). equate_names t b 0 k ++ equate_name_at t b i ∷ []) (zero-add k)) in
    subst (λ (ns : List (List ℕ)). Indexed ns (inserted k bucket ix)) names
    (subst (λ (m : ℕ). Indexed (equate_names t b 0 k ++ equate_name_at t b k ∷ []) (inserted m bucket ix)) size
    (indexed_more (equate_names t b 0 k) (equate_name_at t b k) ix bucket e q (omega (arith, size))))

-- ---- a name's value

or_none : (o : Option ℤ) → or_else o None ≡ o
or_none None = refl
or_none (Some z) = refl

pub constant_append : (xs ys : List Known) (n : List ℕ) → constant (xs ++ ys) n ≡ or_else (constant xs n) (constant ys n)
unfolding constant
constant_append [] ys n = refl
constant_append (x ∷ xs) ys n = by (same (known_name x) n) (constant_append xs ys n)
  where
    assoc : (a b d : Option ℤ) → or_else a (or_else b d) ≡ or_else (or_else a b) d
    assoc None b d = refl
    assoc (Some z) b d = refl

    by : (t : Bool) → constant (xs ++ ys) n ≡ or_else (constant xs n) (constant ys n)
        → ◌≡◌ {A = Option ℤ} (elim t [ true ↦ or_else (found_value x.found) (constant (xs ++ ys) n) | false ↦ constant (xs ++ ys) n ])
        (or_else (elim t [ true ↦ or_else (found_value x.found) (constant xs n) | false ↦ constant xs n ]) (constant ys n))
    by true e = ap (or_else (found_value x.found)) e ∙ assoc (found_value x.found) (constant xs n) (constant ys n)
    by false e = e

other_alone : (k : Known) (n : List ℕ) → same (known_name k) n ≡ false → constant (k ∷ []) n ≡ None
unfolding constant
other_alone k n e = rw (constant, e) refl

-- equates of other names add nothing
constant_skip : (ks : List Known) (n : List ℕ) (m e : ℕ) → m + e ≤ length ks
    → ((i : ℕ) → m ≤ i → i < m + e → same (known_name (known_at ks i)) n ≡ false) → constant (take (m + e) ks) n ≡ constant (take m ks) n
constant_skip ks n m zero h other = let none_more : m + zero ≡ m = omega arith in ap (λ (i : ℕ). constant (take i ks) n) none_more
constant_skip ks n m (suc e) h other =
    let more : m + suc e ≡ suc (m + e) = omega arith in
    ap (λ (i : ℕ). constant (take i ks) n) more
    ∙ ap (λ (l : List Known). constant l n) (take-suc ks (m + e) no_known (omega arith))
    ∙ constant_append (take (m + e) ks) (known_at ks (m + e) ∷ []) n
    ∙ ap (or_else (constant (take (m + e) ks) n)) (alone (other (m + e) (omega arith) (omega arith)))
    ∙ or_none (constant (take (m + e) ks) n)
    ∙ constant_skip ks n m e (omega arith) (λ i a l. other i a (omega arith))
  where
    alone : same (known_name (known_at ks (m + e))) n ≡ false → constant (known_at ks (m + e) ∷ []) n ≡ None
    alone q = other_alone (known_at ks (m + e)) n q

-- ---- along a bucket's chain

-- has the equate this name, and a value? As its record has it
abbrev pub is_found : Known → List ℕ → Bool
is_found k n = not (eqb (round_so_far k.found) 0) && same (known_name k) n

found_alone : (k : Known) (n : List ℕ) → MaybeFits k.found → is_found k n ≡ true → constant (k ∷ []) n ≡ Some (value_so_far k.found)
unfolding constant
found_alone k n m h = by k.found refl m (and_right (not (eqb (round_so_far k.found) 0)) (same (known_name k) n) h) (and_left (not (eqb (round_so_far k.found) 0)) (same (known_name k) n) h)
  where
    by : (o : Option Found) → k.found ≡ o → MaybeFits o → same (known_name k) n ≡ true → not (eqb (round_so_far o) 0) ≡ true → constant (k ∷ []) n ≡ Some (value_so_far o)
    by None e m q r = absurd (false≢true r)
    by (Some f) e m q r = rw (constant, q) (ap (λ (o : Option Found). or_else (found_value o) None) e)

pending_alone : (k : Known) (n : List ℕ) → MaybeFits k.found → is_found k n ≡ false → constant (k ∷ []) n ≡ None
unfolding constant
pending_alone k n m h = by (same (known_name k) n) refl k.found refl m h
  where
    by : (t : Bool) → same (known_name k) n ≡ t → (o : Option Found) → k.found ≡ o → MaybeFits o → not (eqb (round_so_far o) 0) && t ≡ false → constant (k ∷ []) n ≡ None
    by false q o e m r = rw (constant, q) refl
    by true q None e m r = rw (constant, q) (ap (λ (o : Option Found). or_else (found_value o) None) e)
    by true q (Some f) e m r = absurd (false≢true (sym r ∙ rw (ne_eqb f.round 0 (λ z. omega (arith, z, m.from))) refl))

-- searched in order: from here on the name's value is the whole list's
module _ {t b ix : List ℕ} {count : ℕ} {ks : List Known} (s : EquateTable t b ix count ks) (n : List ℕ) (j : ℕ) (h : j < length ks) where
  first_of : constant (drop j ks) n ≡ or_else (constant (known_at ks j ∷ []) n) (constant (drop (j + 1) ks) n)
  first_of =
      ap (λ (l : List Known). constant l n) (drop-cons ks j no_known h)
      ∙ ap (λ (i : ℕ). constant (known_at ks j ∷ drop i ks) n) (sym (add-one j))
      ∙ constant_append (known_at ks j ∷ []) (drop (j + 1) ks) n

  fits_found : MaybeFits (known_at ks j).found
  fits_found = (each_at (KnownFits t) ks no_known j s.rows.fits h).found

  pub order_hit : is_found (known_at ks j) n ≡ true → Some (equate_record_at b j).value ≡ constant (drop j ks) n
  order_hit e =
      ap Some (value_back s.rows j h)
      ∙ sym (first_of ∙ ap (λ (o : Option ℤ). or_else o (constant (drop (j + 1) ks) n)) (found_alone (known_at ks j) n fits_found e))

  pub order_miss : is_found (known_at ks j) n ≡ false → constant (drop (j + 1) ks) n ≡ constant (drop j ks) n
  order_miss e = sym (first_of ∙ ap (λ (o : Option ℤ). or_else o (constant (drop (j + 1) ks) n)) (pending_alone (known_at ks j) n fits_found e))

pub order_end : (ks : List Known) (n : List ℕ) (j : ℕ) → length ks ≤ j → None ≡ constant (drop j ks) n
unfolding constant
order_end ks n j h = sym (ap (λ (l : List Known). constant l n) (drop_of_length-le ks {i = j} h))

-- the value in the record before an entry
abbrev pub entry_value : List Known → ℕ → Option ℤ
entry_value ks zero = None
entry_value ks (suc k) = Some (value_so_far (known_at ks k).found)

-- what the names below the entry give comes before what was found above it
pub record Seeking (ks : List Known) (n : List ℕ) (found entry : ℕ) : Type 0 where
  pub le : entry ≤ length ks
  pub within : found ≤ length ks
  pub here : (k : ℕ) → entry ≡ suc k → bucket_of (name_at (map known_name ks) k) ≡ bucket_of n
  pub goes : or_else (constant (take entry ks) n) (entry_value ks found) ≡ constant ks n

module _ {t b ix : List ℕ} {count : ℕ} {ks : List Known} (s : EquateTable t b ix count ks) (n : List ℕ) where
  names_length : length (map known_name ks) ≡ length ks
  names_length = length-map ks known_name

  -- from a place among the names: those from c on up to m are not n, and the one before c is in n's bucket
  from_last : (m c found : ℕ) → m ≤ length ks → found ≤ length ks → Last (map known_name ks) (bucket_of n) m c
      → or_else (constant (take m ks) n) (entry_value ks found) ≡ constant ks n → Seeking ks n found c
  from_last m c found l w p e =
      record {
        le = omega (arith, p.le);
        within = w;
        here = p.here;
        goes = ap (λ (o : Option ℤ). or_else o (entry_value ks found)) (sym skipped) ∙ e;
      }
    where
      other : (i : ℕ) → c ≤ i → i < m → same (known_name (known_at ks i)) n ≡ false
      other i a l' = rw (← get_or-map known_name ks i no_known) (other_bucket (name_at (map known_name ks) i) n (p.none_on i a l'))

      skipped : constant (take m ks) n ≡ constant (take c ks) n
      skipped =
          let sum : c + (m - c) ≡ m = omega (arith, p.le) in
          ap (λ (i : ℕ). constant (take i ks) n) (sym sum)
          ∙ constant_skip ks n c (m - c) (omega (arith, p.le)) (λ i a l'. other i a (omega (arith, p.le)))

  pub seek_first : (bucket : ℕ) → bucket ≡ bucket_of n → Seeking ks n 0 (get_or ix bucket 0)
  seek_first bucket e =
      rw (e, s.indexed.head (bucket_of n) (bucket_below n), names_length)
      (from_last (length ks) _ 0 (omega arith) (omega arith) (last_is (map known_name ks) (bucket_of n) (length ks))
      (ap (λ (l : List Known). or_else (constant l n) None) (take_all (length ks) ks (omega arith)) ∙ or_none (constant ks n)))

  module _ (found c : ℕ) (left : 0 < c) (w : Seeking ks n found c) where
    chain : Last (map known_name ks) (bucket_of n) (c - 1) (get_or ix (buckets + (c - 1)) 0)
    chain =
        let h : bucket_of (name_at (map known_name ks) (c - 1)) ≡ bucket_of n = w.here (c - 1) (omega arith) in
        rw (s.indexed.next (c - 1) (omega (arith, w.le, names_length)), h) (last_is (map known_name ks) (bucket_of n) (c - 1))

    pub seek_less : get_or ix (buckets + (c - 1)) 0 < c
    seek_less = omega (arith, chain.le)

    -- what the names up to this one give, and this one
    taken : constant (take c ks) n ≡ or_else (constant (take (c - 1) ks) n) (constant (known_at ks (c - 1) ∷ []) n)
    taken =
        let one : c ≡ suc (c - 1) = omega arith in
        ap (λ (i : ℕ). constant (take i ks) n) one
        ∙ ap (λ (l : List Known). constant l n) (take-suc ks (c - 1) no_known (omega (arith, w.le)))
        ∙ constant_append (take (c - 1) ks) (known_at ks (c - 1) ∷ []) n

    pub seek_hit : is_found (known_at ks (c - 1)) n ≡ true → Seeking ks n c (get_or ix (buckets + (c - 1)) 0)
    seek_hit h =
        let one : c ≡ suc (c - 1) = omega arith in
        from_last (c - 1) _ c (omega (arith, w.le)) w.le chain
        (ap (λ (i : ℕ). or_else (constant (take (c - 1) ks) n) (entry_value ks i)) one
        ∙ sym (stays (constant (take (c - 1) ks) n) (entry_value ks found))
        ∙ ap (λ (o : Option ℤ). or_else (or_else (constant (take (c - 1) ks) n) o) (entry_value ks found))
        (sym (found_alone (known_at ks (c - 1)) n (each_at (KnownFits t) ks no_known (c - 1) s.rows.fits (omega (arith, w.le))).found h))
        ∙ ap (λ (o : Option ℤ). or_else o (entry_value ks found)) (sym taken) ∙ w.goes)
      where
        stays : (a q : Option ℤ) → or_else (or_else a (Some (value_so_far (known_at ks (c - 1)).found))) q ≡ or_else a (Some (value_so_far (known_at ks (c - 1)).found))
        stays None q = refl
        stays (Some z) q = refl

    pub seek_miss : is_found (known_at ks (c - 1)) n ≡ false → Seeking ks n found (get_or ix (buckets + (c - 1)) 0)
    seek_miss h =
        from_last (c - 1) _ found (omega (arith, w.le)) w.within chain
        (ap (λ (o : Option ℤ). or_else o (entry_value ks found))
        (sym (or_none (constant (take (c - 1) ks) n))
        ∙ ap (or_else (constant (take (c - 1) ks) n))
        (sym (pending_alone (known_at ks (c - 1)) n (each_at (KnownFits t) ks no_known (c - 1) s.rows.fits (omega (arith, w.le))).found h))
        ∙ sym taken) ∙ w.goes)

  module _ (found c : ℕ) (z : c ≤ 0) (w : Seeking ks n found c) where
    seek_end : entry_value ks found ≡ constant ks n
    unfolding constant
    seek_end = let e : c ≡ 0 = omega arith in sym (ap (λ (i : ℕ). or_else (constant (take i ks) n) (entry_value ks found)) e) ∙ w.goes

    -- nothing was found, or the record before the entry has the value
    pub seek_none : found ≡ 0 → None ≡ constant ks n
    seek_none e = sym (ap (entry_value ks) e) ∙ seek_end

    pub seek_value : (found ≡ 0 → ⊥) → Some (equate_record_at b (found - 1)).value ≡ constant ks n
    seek_value h =
        let pred : found ≡ suc (found - 1) = omega (arith, h) in
        ap (λ (v : ℤ). Some v) (value_back s.rows (found - 1) (omega (arith, w.within, h))) ∙ sym (ap (entry_value ks) pred) ∙ seek_end

  -- what the record says of round and name
  pub found_as_read : (k : ℕ) → k < length ks → (r : Bool)
      → not (eqb (equate_record_at b k).round 0) && same (equate_name_at t b k) n ≡ r → is_found (known_at ks k) n ≡ r
  found_as_read k h r e = rw (← round_back s.rows k h, ← name_back s.rows k h) e

pub table_room : {t b ix : List ℕ} {count : ℕ} {ks : List Known} → EquateTable t b ix count ks → buckets + length ks ≤ length ix
table_room {ks = ks} s = omega (arith, s.indexed.room, length-map ks known_name)

-- ---- pending or found

-- as the record has it: a round of 0 while it is pending
pub pending_is : (k : Known) → MaybeFits k.found → round_so_far k.found ≡ 0 → k.found ≡ None
pending_is k m h = by k.found refl m h
  where
    by : (o : Option Found) → k.found ≡ o → MaybeFits o → round_so_far o ≡ 0 → o ≡ None
    by None e m h = refl
    by (Some f) e m h = absurd (omega (arith, m.from, h))

pub found_is : (k : Known) → (round_so_far k.found ≡ 0 → ⊥) → (f : Found) × (k.found ≡ Some f)
found_is k h = by k.found refl
  where
    by : (o : Option Found) → k.found ≡ o → (f : Found) × (o ≡ Some f)
    by None e = absurd (h (ap round_so_far e))
    by (Some f) e = (f, refl)

first_pending_lem : (k : Known) (ks : List Known) → k.found ≡ None → first_pending (k ∷ ks) ≡ k.equate.line
unfolding first_pending
first_pending_lem k ks e = ap (λ (o : Option Found). elim o [ None ↦ k.equate.line | Some f ↦ first_pending ks ]) e

first_found : (k : Known) (ks : List Known) (f : Found) → k.found ≡ Some f → first_pending (k ∷ ks) ≡ first_pending ks
unfolding first_pending
first_found k ks f e = ap (λ (o : Option Found). elim o [ None ↦ k.equate.line | Some g ↦ first_pending ks ]) e

module _ {t b : List ℕ} {count : ℕ} {ks : List Known} (s : EquateRecords t b count ks) (k : ℕ) where
  pub pending_at : k < length ks → (equate_record_at b k).round ≡ 0 → (known_at ks k).found ≡ None
  pending_at h e = pending_is (known_at ks k) (fits_at s k h).found (sym (round_back s k h) ∙ e)

  pub found_at : k < length ks → ((equate_record_at b k).round ≡ 0 → ⊥) → (f : Found) × ((known_at ks k).found ≡ Some f)
  found_at h n = found_is (known_at ks k) (λ e. n (round_back s k h ∙ e))

  -- the first pending one: here, further on, nowhere
  pub first-here : k < length ks → (equate_record_at b k).round ≡ 0 → (equate_record_at b k).line ≡ first_pending (drop k ks)
  unfolding first_pending
  first-here h e =
      line_back s k h ∙ sym (ap first_pending (drop-cons ks k no_known h) ∙ first_pending_lem (known_at ks k) (drop (suc k) ks) (pending_at h e))

  pub first_next : k < length ks → ((equate_record_at b k).round ≡ 0 → ⊥) → first_pending (drop (k + 1) ks) ≡ first_pending (drop k ks)
  first_next h n =
      let f = found_at h n in
      ap (λ (i : ℕ). first_pending (drop i ks)) (add-one k)
      ∙ sym (ap first_pending (drop-cons ks k no_known h) ∙ first_found (known_at ks k) (drop (suc k) ks) f.0 f.1)

  pub first_end : count ≤ k → 0 ≡ first_pending (drop k ks)
  unfolding first_pending
  first_end h = sym (ap first_pending (drop_of_length-le ks {i = k} (omega (arith, s.counted))))
