-- Records of fields, one after the other in a table: written, appended, replaced, and read back.
use Prim.Native.Nat.{ℕ, zero, suc, ◌+◌, ◌-◌, ◌*◌, ◌^◌, ◌≤◌, ◌<◌}
use native.Mathlib.Nat.{not-suc-le-zero, le_of_suc-le-suc, zero-mul, suc-mul, mod-eq_of_lt}
use native.Mathlib.Omega.{arith}
use mathlib.Core.Path.{◌≡◌, refl, sym, ap, ◌∙◌}
use mathlib.Core.List.{List, [], ◌∷◌, ◌++◌, map, append_assoc, append-nil}
use lib.ListN.{length, take, drop, get_or, set, replicate, length-append, length-set}
use lib.Seq.{take_at, drop_at, drop-drop, drop-append_seam}
use Rattle.layout.specs.Bytes.{little_endian, put, padded, together}
use Rattle.layout.specs.Records.{RecordField, four, field_bytes, table_of, little_endian_value, four_at, eight_at}
use Rattle.layout.proofs.ByteLaws.{put-put, put_over, length-padded, put_pad, length-little_endian, little_endian_value_lem, little_endian_back}

-- ---- fields side by side

fields_more : (fs : List RecordField) (f : RecordField) → field_bytes (fs ++ (f ∷ [])) ≡ field_bytes fs ++ little_endian f.width f.number
unfolding field_bytes
fields_more [] f = append-nil (little_endian f.width f.number)
fields_more (x ∷ fs) f =
    ap (λ (bs : List ℕ). little_endian x.width x.number ++ bs) (fields_more fs f)
    ∙ sym (append_assoc (little_endian x.width x.number) (field_bytes fs) (little_endian f.width f.number))

-- the first field, and one right after others
pub put_first : (at : ℕ) (f : RecordField) (xs ys : List ℕ) → ys ≡ put at (little_endian f.width f.number) xs → ys ≡ put at (field_bytes (f ∷ [])) xs
unfolding field_bytes
put_first at f xs ys e = rw (append-nil (little_endian f.width f.number)) e

pub put-field : (at n : ℕ) (f : RecordField) (fs : List RecordField) (xs ys zs : List ℕ) → n ≡ at + length (field_bytes fs) → n ≤ length xs
    → ys ≡ put at (field_bytes fs) xs → zs ≡ put n (little_endian f.width f.number) ys → zs ≡ put at (field_bytes (fs ++ (f ∷ []))) xs
put-field at n f fs xs ys zs e h p q =
    q ∙ ap (put n (little_endian f.width f.number)) p ∙ put-put at n (field_bytes fs) (little_endian f.width f.number) xs e h
    ∙ ap (λ (bs : List ℕ). put at bs xs) (sym (fields_more fs f))

-- a field after others is read back
field_at : (front : List RecordField) (f : RecordField) (back : List RecordField) (rest : List ℕ)
    → take f.width (drop (length (field_bytes front)) (field_bytes (front ++ (f ∷ back)) ++ rest)) ≡ little_endian f.width f.number
unfolding field_bytes
field_at [] f back rest =
    ap (take f.width) (append_assoc (little_endian f.width f.number) (field_bytes back) rest)
    ∙ take_at (little_endian f.width f.number) (field_bytes back ++ rest) f.width (length-little_endian f.width f.number)
field_at (x ∷ front) f back rest =
    let b : List ℕ = little_endian x.width x.number in
    let inner : List ℕ = field_bytes (front ++ (f ∷ back)) ++ rest in
    let from : drop (length (b ++ field_bytes front)) ((b ++ field_bytes (front ++ (f ∷ back))) ++ rest) ≡ drop (length (field_bytes front)) inner =
    rw (length-append b (field_bytes front), append_assoc b (field_bytes (front ++ (f ∷ back))) rest)
    (sym (drop-drop (length (field_bytes front)) (length b) (b ++ inner)) ∙ ap (drop (length (field_bytes front))) (drop-append_seam b inner)) in
    ap (take f.width) from ∙ field_at front f back rest

-- ---- records of n bytes one after the other: f gives a record's bytes

module _ {A : Type 0} (f : A → List ℕ) (n : ℕ) (sized : (r : A) → length (f r) ≡ n) where
  pub length_records : (rs : List A) → length (together (map f rs)) ≡ length rs * n
  unfolding together
  length_records [] = sym (zero-mul n)
  length_records (r ∷ rs) = simp (length-append, length_records rs, sized r, suc-mul (length rs) n) (omega arith)

  records_front : (rs : List A) (k : ℕ) → k < length rs → length (together (map f (take k rs))) ≡ k * n
  unfolding together
  records_front rs zero h = sym (zero-mul n)
  records_front [] (suc k) h = absurd (not-suc-le-zero h)
  records_front (r ∷ rs) (suc k) h = simp (length-append, records_front rs k (le_of_suc-le-suc h), sized r, suc-mul k n) (omega arith)

  -- the records before, the kth, and those after it
  records_split : (rs : List A) (d : A) (k : ℕ) → k < length rs
      → together (map f rs) ≡ together (map f (take k rs)) ++ (f (get_or rs k d) ++ together (map f (drop (suc k) rs)))
  unfolding together
  records_split [] d k h = absurd (not-suc-le-zero h)
  records_split (r ∷ rs) d zero h = refl
  records_split (r ∷ rs) d (suc k) h =
      ap (λ (bs : List ℕ). f r ++ bs) (records_split rs d k (le_of_suc-le-suc h))
      ∙ sym (append_assoc (f r) (together (map f (take k rs))) (f (get_or rs k d) ++ together (map f (drop (suc k) rs))))

  records_set : (rs : List A) (k : ℕ) (r : A) → k < length rs
      → together (map f (set rs k r)) ≡ together (map f (take k rs)) ++ (f r ++ together (map f (drop (suc k) rs)))
  unfolding together
  records_set [] k r h = absurd (not-suc-le-zero h)
  records_set (x ∷ rs) zero r h = refl
  records_set (x ∷ rs) (suc k) r h =
      ap (λ (bs : List ℕ). f x ++ bs) (records_set rs k r (le_of_suc-le-suc h))
      ∙ sym (append_assoc (f x) (together (map f (take k rs))) (f r ++ together (map f (drop (suc k) rs))))

  records_more : (rs : List A) (r : A) → together (map f (rs ++ (r ∷ []))) ≡ together (map f rs) ++ f r
  unfolding together
  records_more [] r = append-nil (f r)
  records_more (x ∷ rs) r = ap (λ (bs : List ℕ). f x ++ bs) (records_more rs r) ∙ sym (append_assoc (f x) (together (map f rs)) (f r))

  -- a record after those that are there
  put_more : (size at : ℕ) (rs : List A) (r : A) → at ≡ length rs * n
      → put at (f r) (padded size (together (map f rs))) ≡ padded size (together (map f (rs ++ (r ∷ []))))
  put_more size at rs r e =
      put_pad size at (together (map f rs)) (f r) (e ∙ sym (length_records rs)) ∙ ap (padded size) (sym (records_more rs r))

  module _ (rs : List A) (zs : List ℕ) (k : ℕ) (h : k < length rs) where
    -- what stands from the kth record on
    records_from : (d : A) → drop (k * n) (together (map f rs) ++ zs) ≡ f (get_or rs k d) ++ (together (map f (drop (suc k) rs)) ++ zs)
    records_from d =
        let front : List ℕ = together (map f (take k rs)) in
        ap (λ (bs : List ℕ). drop (k * n) (bs ++ zs)) (records_split rs d k h)
        ∙ ap (drop (k * n)) (simp append_assoc)
        ∙ drop_at front (f (get_or rs k d) ++ (together (map f (drop (suc k) rs)) ++ zs)) (k * n) (records_front rs k h)

    -- another record in the kth one's place
    put_record : (r : A) → put (k * n) (f r) (together (map f rs) ++ zs) ≡ together (map f (set rs k r)) ++ zs
    put_record r =
        let front : List ℕ = together (map f (take k rs)) in
        let rest : List ℕ = together (map f (drop (suc k) rs)) in
        let old : List ℕ = f (get_or rs k r) in
        ap (λ (bs : List ℕ). put (k * n) (f r) (bs ++ zs)) (records_split rs r k h)
        ∙ ap (put (k * n) (f r)) (simp append_assoc)
        ∙ put_over front old (f r) (rest ++ zs) (k * n) (sym (records_front rs k h)) (sized (get_or rs k r) ∙ sym (sized r))
        ∙ sym (ap (λ (bs : List ℕ). bs ++ zs) (records_set rs k r h) ∙ simp append_assoc)

-- ---- tables: f gives a record's fields, n is its size

module _ {A : Type 0} (f : A → List RecordField) (n : ℕ) (sized : (r : A) → length (field_bytes (f r)) ≡ n) where
  pub table_length : (size : ℕ) (rs : List A) → length rs * n ≤ size → length (table_of size f rs) ≡ size
  table_length size rs h = length-padded size (together (map (λ r. field_bytes (f r)) rs)) (rw (length_records (λ r. field_bytes (f r)) n sized rs) h)

  module _ (b b' : List ℕ) (rs : List A) (is : b ≡ table_of (length b) f rs) where
    -- a record more
    pub table_more : (at : ℕ) (r : A) → at ≡ length rs → length b' ≡ length b → b' ≡ put (at * n) (field_bytes (f r)) b
        → b' ≡ table_of (length b') f (rs ++ (r ∷ []))
    table_more at r e same q =
        rw same
        (q ∙ ap (put (at * n) (field_bytes (f r))) is
        ∙ put_more (λ x. field_bytes (f x)) n sized (length b) (at * n) rs r (ap (λ (k : ℕ). k * n) e))

    -- another record in the kth one's place
    pub table_set : (k : ℕ) (r : A) → k < length rs → length b' ≡ length b → b' ≡ put (k * n) (field_bytes (f r)) b
        → b' ≡ table_of (length b') f (set rs k r)
    table_set k r h same q =
        let lengths : length (together (map (λ x. field_bytes (f x)) rs)) ≡ length (together (map (λ x. field_bytes (f x)) (set rs k r))) =
        length_records (λ x. field_bytes (f x)) n sized rs ∙ ap (λ (m : ℕ). m * n) (sym (length-set rs k r))
        ∙ sym (length_records (λ x. field_bytes (f x)) n sized (set rs k r)) in
        rw same
        (q ∙ ap (put (k * n) (field_bytes (f r))) is
        ∙ put_record (λ x. field_bytes (f x)) n sized rs (replicate (length b - length (together (map (λ x. field_bytes (f x)) rs))) 0) k h r
        ∙ ap (λ (m : ℕ). together (map (λ x. field_bytes (f x)) (set rs k r)) ++ replicate (length b - m) 0) lengths)

  -- a field of w bytes of the kth record is read back
  read-field : (w : ℕ) (b : List ℕ) (rs : List A) (d : A) (k at v : ℕ) (front back : List RecordField) → b ≡ table_of (length b) f rs → k < length rs
      → f (get_or rs k d) ≡ front ++ (record { width = w; number = v } ∷ back) → at ≡ k * n + length (field_bytes front)
      → little_endian_value (take w (drop at b)) ≡ little_endian_value (little_endian w v)
  read-field w b rs d k at v front back is h e q =
      let bytes : A → List ℕ = λ r. field_bytes (f r) in
      let zs : List ℕ = replicate (length b - length (together (map bytes rs))) 0 in
      let rest : List ℕ = together (map bytes (drop (suc k) rs)) ++ zs in
      let from : drop at b ≡ drop (length (field_bytes front)) (field_bytes (front ++ (record { width = w; number = v } ∷ back)) ++ rest) =
      ap (λ (i : ℕ). drop i b) q ∙ sym (drop-drop (length (field_bytes front)) (k * n) b)
      ∙ ap (λ (xs : List ℕ). drop (length (field_bytes front)) (drop (k * n) xs)) is
      ∙ ap (drop (length (field_bytes front))) (records_from bytes n sized rs zs k h d)
      ∙ ap (λ (fs : List RecordField). drop (length (field_bytes front)) (field_bytes fs ++ rest)) e in
      ap (λ (xs : List ℕ). little_endian_value (take w xs)) from ∙ ap little_endian_value (field_at front (record { width = w; number = v }) back rest)

  pub read-four : (b : List ℕ) (rs : List A) (d : A) (k at v : ℕ) (front back : List RecordField) → b ≡ table_of (length b) f rs → k < length rs
      → f (get_or rs k d) ≡ front ++ (record { width = 4; number = v } ∷ back) → at ≡ k * n + length (field_bytes front) → v < 2 ^ 32
      → four_at b at ≡ v
  read-four b rs d k at v front back is h e q small = read-field 4 b rs d k at v front back is h e q ∙ little_endian_back v small

  -- so is a kth record of four such fields
  pub read-row : (b : List ℕ) (rs : List A) (d : A) (k v w x y : ℕ) → b ≡ table_of (length b) f rs → k < length rs
      → f (get_or rs k d) ≡ four v ∷ four w ∷ four x ∷ four y ∷ [] → v < 2 ^ 32 → w < 2 ^ 32 → x < 2 ^ 32 → y < 2 ^ 32
      → (four_at b (k * n) ≡ v) × (four_at b (k * n + 4) ≡ w) × (four_at b (k * n + 8) ≡ x) × (four_at b (k * n + 12) ≡ y)
  unfolding field_bytes little_endian
  read-row b rs d k v w x y is h e sv sw sx sy = (
    read-four b rs d k (k * n) v [] _ is h e (omega arith) sv,
    read-four b rs d k (k * n + 4) w (four v ∷ []) _ is h e refl sw,
    read-four b rs d k (k * n + 8) x (four v ∷ four w ∷ []) _ is h e refl sx,
    read-four b rs d k (k * n + 12) y (four v ∷ four w ∷ four x ∷ []) _ is h e refl sy,
  )

  pub read-eight : (b : List ℕ) (rs : List A) (d : A) (k at v : ℕ) (front back : List RecordField) → b ≡ table_of (length b) f rs → k < length rs
      → f (get_or rs k d) ≡ front ++ (record { width = 8; number = v } ∷ back) → at ≡ k * n + length (field_bytes front) → v < 2 ^ 64
      → eight_at b at ≡ v
  read-eight b rs d k at v front back is h e q small = read-field 8 b rs d k at v front back is h e q ∙ little_endian_value_lem 8 v ∙ mod-eq_of_lt small

  -- a table's records lie within it
  pub table_lent : (b : List ℕ) (rs : List A) → b ≡ table_of (length b) f rs → length rs * n ≤ length b
  table_lent b rs is =
      let all : List ℕ = together (map (λ r. field_bytes (f r)) rs) in
      omega (arith, length_records (λ r. field_bytes (f r)) n sized rs, ap length is ∙ length-append all (replicate (length b - length all) 0))
