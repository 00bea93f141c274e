-- The data: what a write takes and puts, and the one place where they grow.
use Prim.Native.Nat.{ℕ, ◌+◌, ◌-◌, ◌*◌, ◌≤◌, ◌<◌}
use native.Mathlib.Omega.{arith}
use mathlib.Core.Path.{◌≡◌, refl, sym, ap, ◌∙◌}
use mathlib.Core.List.{List, [], ◌∷◌, ◌++◌, map-append}
use mathlib.Core.Bool.{Bool, true, false}
use Rattle.std.proofs.Common.{Option, None, Some}
use lib.Dec.{ltb}
use lib.ListN.{length, take, drop, replicate, length-append, length-drop, length-replicate, length-map}
use lib.IntN.{ℤ}
use borrow.Author.Tests.{le-leb, lt-leb, lt-ltb, le-ltb, ltb-true, ltb-false}
use Rattle.std.proofs.Common.{Result, Ok, Err}
use Rattle.numbers.specs.Results.{mapped}
use Rattle.numbers.specs.Ints.{bits}
use Rattle.numbers.specs.declared.text.Span.{Span}
use Rattle.numbers.specs.declared.strings.Quoted.{Quoted}
use Rattle.numbers.specs.Code.Spans.{spanned}
use Rattle.numbers.specs.Strings.{decoded}
use Rattle.numbers.specs.Code.Strings.{size_of, bytes_of, decoded_bytes}
use Rattle.numbers.proofs.Bools.{none-some}
use Rattle.layout.specs.declared.limits.Room.{Room}
use Rattle.layout.specs.declared.directives.Width.{Width}
use Rattle.layout.specs.declared.directives.Width.TheVariants.{Byte, Half, Word, Dword}
use Rattle.layout.specs.declared.directives.Reservation.{Reservation}
use Rattle.layout.specs.declared.directives.Reservation.TheVariants.{Zeros, Aligns}
use Rattle.layout.specs.declared.data.Write.{Write}
use Rattle.layout.specs.declared.data.Write.TheVariants.{Number, Text, Gap, Address}
use Rattle.layout.specs.declared.records.LabelWordRecord.{LabelWordRecord}
use Rattle.layout.specs.declared.state.DataCount.{DataCount}
use Rattle.layout.specs.Bytes.{little_endian, put, padded}
use Rattle.layout.specs.Limits.{text_limit, label_word_limit}
use Rattle.layout.specs.Records.{field_bytes}
use Rattle.layout.specs.State.{LabelWord, Stored}
use Rattle.layout.specs.Directives.{width_bytes, place_after}
use Rattle.layout.specs.Directives as directive
use Rattle.layout.specs.Stage.{write_size, write_bytes, grow_data, add_label_word, data_write}
use Rattle.layout.specs.Code.Rows.{Small}
use Rattle.layout.specs.Code.Tables.{label_word_size, label_word_fields}
use Rattle.layout.specs.Code.Texts.{text_of, text_bytes, StoredIn, text_at, TextFits}
use Rattle.layout.specs.Code.Writes.{write_at, WriteFits, written_bytes, TextSized}
use Rattle.layout.specs.Code.Steps.{Agrees, Steps}
use Rattle.layout.specs.Code.Stands.{label_word_of, LabelWordsStand, StoredStand, data_store}
use Rattle.layout.specs.Code.Fits.{StoredFits}
use Rattle.layout.proofs.Each.{each_append}
use Rattle.layout.proofs.Gives.{Gives}
use Rattle.layout.proofs.Kept.{write-length, data_write_fits}
use Rattle.layout.proofs.ByteLaws.{put_lent, put-put, put_pad, length-put, length_mid, length-little_endian}
use Rattle.layout.proofs.TableLaws.{table_more}
use Rattle.layout.proofs.SpanLaws.{spanned_size}
use Rattle.layout.proofs.ReservationLaws.{aligned_bounds}
use Rattle.layout.proofs.StepLaws.{lift_stop}

-- ---- a string's text

-- an answer of n bytes is there, and has them
answer_there : (o : Option (List ℕ)) (n : ℕ) → size_of o ≡ Some n → (o ≡ Some (bytes_of o)) × (length (bytes_of o) ≡ n)
answer_there None n e = absurd (none-some e)
answer_there (Some bs) n e = (refl, cc)

-- stored in n bytes
module _ (n : ℕ) (s : List ℕ) (h : StoredIn n s) where
  text_size : length (text_bytes n s) ≡ n
  text_size = (answer_there (text_of n s) n h).1

  -- where these are fewer than it has, it is decoded
  pub text_decodes : n < length s → (decoded s ≡ Some (decoded_bytes s)) × (length (decoded_bytes s) ≡ n) × (text_bytes n s ≡ decoded_bytes s)
  text_decodes k =
      let e = lt-ltb n (length s) k in
      let d = answer_there (decoded s) n (rw e at h) in
      (d.0, d.1, rw e refl)

  -- else they are as many, and it is copied
  pub text_copies : length s ≤ n → (length s ≡ n) × (text_bytes n s ≡ s)
  text_copies k = let e = le-ltb n (length s) k in ((answer_there (Some s) n (rw e at h)).1, rw e refl)

  text_short : n ≤ length s
  text_short = by (ltb n (length s)) refl
    where
      by : (b : Bool) → ltb n (length s) ≡ b → n ≤ length s
      by true k = omega (arith, ltb-true n (length s) k)
      by false k = omega (arith, (text_copies (ltb-false n (length s) k)).0)

-- ---- how much a write takes

width_small : (w : Width) → width_bytes w ≤ 8
width_small Byte = omega arith
width_small Half = omega arith
width_small Word = omega arith
width_small Dword = omega arith

-- a place goes on, and not far
pub after_bounds : (p : ℕ) (r : Reservation) → Small r → (p ≤ place_after p r) × (place_after p r ≤ p + 4294967296)
after_bounds p (Zeros n) h = (omega arith, omega (arith, h))
after_bounds p (Aligns n) h = let b = aligned_bounds n p h.0 in (b.0, omega (arith, b, h))

module _ (t : List ℕ) (q : Quoted) (f : TextFits t q) where
  pub text_small : q.size ≤ length t
  text_small = omega (arith, text_short q.size (spanned t q.part) f.1, spanned_size t q.part)

  text-length : (z : ℕ) → length (text_at t q ++ replicate z 0) ≡ q.size + z
  text-length z = omega (arith, text_size q.size (spanned t q.part) f.1, length-append (text_at t q) (replicate z 0), length-replicate {A = ℕ} z 0)

abbrev Takes : List ℕ → ℕ → Write → ℕ → Type 0
Takes t p x n = (n ≡ write_size p (write_at t x)) × (n ≤ 4294967296)

module _ (t : List ℕ) (p : ℕ) (x : Write) where
  pub number_takes : (w : Width) (v : ℤ) (n : ℕ) → x ≡ Number w v → n ≡ width_bytes w → Takes t p x n
  number_takes w v n e q = rw (e, length-little_endian (width_bytes w) (bits 64 v)) (q, omega (arith, q, width_small w))

  pub text_takes : (q : Quoted) (z : ℕ) → x ≡ Text q z → WriteFits t x → length t ≤ text_limit → Takes t p x (q.size + z)
  text_takes q z e f h =
      let g = rw e at f in
      rw (e, text-length t q g.0 z) (refl, omega (arith, text_small t q g.0, g.1, h))

  pub gap_takes : (r : Reservation) (n : ℕ) → x ≡ Gap r → WriteFits t x → n ≡ place_after p r → Takes t p x (n - p)
  gap_takes r n e f q = rw (e, q) (refl, omega (arith, after_bounds p r (rw e at f)))

-- ---- what it puts

-- a string, and its zeros in the part after it
module _ (t dst part : List ℕ) (n : ℕ) (x : Write) (q : Quoted) (z : ℕ) (e : x ≡ Text q z) (is : part ≡ spanned t q.part) (f : WriteFits t x)
    (s : TextSized x n) (h : n ≤ length dst) where
  text_fits : TextFits t q
  text_fits = (rw e at f).0

  text-sized : n ≡ q.size + z
  text-sized = rw e at s

  pub source_fits : StoredIn q.size part × (q.size ≤ length dst)
  source_fits = (rw is text_fits.1, omega (arith, text-sized, h))

  source_length : length (text_bytes q.size part) ≡ q.size
  source_length = text_size q.size part source_fits.0

  module _ (mid : List ℕ) (p : mid ≡ text_bytes q.size part ++ drop q.size dst) where
    pub zeros_left : q.size + z ≤ length mid
    zeros_left =
        rw p (rw (length-append (text_bytes q.size part) (drop q.size dst), length-drop q.size dst) (omega (arith, source_length, text-sized, h)))

    pub zeros_room : z ≤ length (take (length mid - q.size) (drop q.size mid))
    zeros_room = rw (length_mid q.size mid) (omega (arith, zeros_left))

    pub text-put : (ys : List ℕ) → ys ≡ replicate z 0 ++ drop z (take (length mid - q.size) (drop q.size mid))
        → take q.size mid ++ (ys ++ drop (length mid - q.size) (drop q.size mid)) ≡ written_bytes t n x ++ drop n dst
    text-put ys r =
        let src : List ℕ = text_bytes q.size part in
        let zs : List ℕ = replicate z 0 in
        let all : length (src ++ zs) ≡ n =
        length-append src zs ∙ omega (arith, source_length, text-sized, length-replicate {A = ℕ} z 0) in
        let long : q.size ≡ 0 + length src = omega (arith, source_length) in
        let first : src ++ drop q.size dst ≡ put 0 src dst = ap (λ (i : ℕ). src ++ drop i dst) long in
        let end : 0 + length (src ++ zs) ≡ n = omega (arith, all) in
        put_lent q.size z zs mid ys (length-replicate z 0) zeros_left r
        ∙ ap (put q.size zs) (p ∙ first)
        ∙ put-put 0 q.size src zs dst (omega (arith, source_length)) (omega (arith, text-sized, h))
        ∙ ap (λ (i : ℕ). src ++ zs ++ drop i dst) end
        ∙ rw (is, e) refl

-- ---- label words

no_word : (t : List ℕ) (line p : ℕ) (x : Write) (ws : List LabelWord) → ((q : Span) → x ≡ Address q → ⊥)
    → add_label_word line p (write_at t x) ws ≡ Ok ws
unfolding add_label_word
no_word t line p (Number w v) ws h = refl
no_word t line p (Text q z) ws h = refl
no_word t line p (Gap r) ws h = refl
no_word t line p (Address q) ws h = absurd (h q refl)

pub label-word-sized : (r : LabelWordRecord) → length (field_bytes (label_word_fields r)) ≡ label_word_size
unfolding field_bytes little_endian
label-word-sized r = refl

module _ (t : List ℕ) (n : ℕ) (b : List ℕ) (line p : ℕ) (x : Write) where
  -- another write makes none
  pub word_none : ((q : Span) → x ≡ Address q → ⊥) → Steps (LabelWordsStand t) n b (Ok n) b (add_label_word line p (write_at t x))
  word_none h ws s = rw (no_word t line p x ws h) s

  module _ (q : Span) (e : x ≡ Address q) where
    pub word_many : label_word_limit ≤ n → Steps (LabelWordsStand t) n b (Err 47) b (add_label_word line p (write_at t x))
    unfolding add_label_word
    word_many h ws s = rw (e, add_label_word, le-ltb (length ws) label_word_limit (omega (arith, h, s.counted))) refl

    pub word_goes : (b' : List ℕ) → WriteFits t x → n < label_word_limit → length b' ≡ length b
        → b' ≡ put (n * label_word_size) (field_bytes (label_word_fields (record { at = p; start = q.start; len = q.len; line = line }))) b
        → Steps (LabelWordsStand t) n b (Ok (n + 1)) b' (add_label_word line p (write_at t x))
    unfolding add_label_word
    word_goes b' f h same g ws s =
        let r : LabelWordRecord = record { at = p; start = q.start; len = q.len; line = line } in
        let counted : n ≡ length s.entries = s.counted ∙ ap length (sym s.mean) ∙ length-map s.entries (label_word_of t) in
        rw (e, add_label_word, lt-ltb (length ws) label_word_limit (omega (arith, h, s.counted)))
        (record {
          counted = omega (arith, s.counted, length-append ws (label_word_of t r ∷ []));
          few = omega (arith, h, s.counted, length-append ws (label_word_of t r ∷ []));
          room = same ∙ s.room;
          entries = s.entries ++ (r ∷ []);
          mean = map-append (label_word_of t) s.entries (r ∷ []) ∙ rw s.mean refl;
          within = each_append _ s.entries (r ∷ []) s.within (rw e at f, tt);
          bytes = table_more label_word_fields label_word_size label-word-sized b b' s.entries s.bytes n r counted same g;
        })

-- ---- the one place where the data grow

-- what the code's write takes is what its bytes are, and what it puts is what the definition's write has
module _ (t : List ℕ) (p : ℕ) (n : ℕ) where
  pub write-sized : (x : Write) → WriteFits t x → n ≡ write_size p (write_at t x) → TextSized x n
  write-sized (Number w v) f e = tt
  write-sized (Text q z) f e = e ∙ text-length t q f.0 z
  write-sized (Gap r) f e = tt
  write-sized (Address q) f e = tt

  written_is : (x : Write) → n ≡ write_size p (write_at t x) → written_bytes t n x ≡ write_bytes p (write_at t x)
  written_is (Number w v) e = ap (λ (i : ℕ). little_endian i (bits 64 v)) (e ∙ length-little_endian (width_bytes w) (bits 64 v))
  written_is (Text q z) e = refl
  written_is (Gap r) e = ap (λ (i : ℕ). replicate i 0) e
  written_is (Address q) e = ap (λ (i : ℕ). replicate i 0) e

-- the data with these bytes
abbrev data_then : List ℕ → List LabelWord → Stored
data_then bs ws = record { bytes = bs; label_words = ws }

-- where the data have p bytes
module _ (k : Room) (line : ℕ) (w : directive.Write) (σ : Stored) (p : ℕ) (e : p ≡ length σ.bytes) where
  data_over : k.bytes < p + write_size p w → data_write k line w σ ≡ Err 42
  unfolding data_write grow_data
  data_over h = rw (data_write, grow_data, lt-leb (length σ.bytes + write_size (length σ.bytes) w) k.bytes (rw e at h)) refl

  data_grows : p + write_size p w ≤ k.bytes
      → data_write k line w σ ≡ mapped (data_then (σ.bytes ++ write_bytes p w)) (add_label_word line p w σ.label_words)
  unfolding data_write grow_data
  data_grows h = rw (data_write, grow_data, le-leb (length σ.bytes + write_size (length σ.bytes) w) k.bytes (rw e at h), e) refl

-- steps of the data: m are the buffer's bytes, l the label words' records
abbrev pub StoredSteps : List ℕ → Room → DataCount → List ℕ → List ℕ → Result DataCount ℕ → List ℕ → List ℕ → (Stored → Result Stored ℕ) → Type 0
StoredSteps t k c m l r m' l' f = Steps (StoredStand t k) c (data_store m l) r (data_store m' l') f

module _ (t : List ℕ) (k : Room) (c : DataCount) (m l : List ℕ) (line : ℕ) (x : Write) (n : ℕ)
    (size : n ≡ write_size c.bytes (write_at t x)) where
  pub data_full : k.bytes < c.bytes + n → StoredSteps t k c m l (Err 42) m l (data_write k line (write_at t x))
  data_full h σ s = rw (data_over k line (write_at t x) σ c.bytes s.counted (omega (arith, h, size))) refl

  module _ (h : c.bytes + n ≤ k.bytes) (i : line < length t) (ys l' : List ℕ)
      (puts : ys ≡ written_bytes t n x ++ drop n (take (length m - c.bytes) (drop c.bytes m)))
      (r : Result ℕ ℕ) (added : Steps (LabelWordsStand t) c.label_words l r l' (add_label_word line c.bytes (write_at t x))) where
    abbrev m' : List ℕ
    m' = take c.bytes m ++ (ys ++ drop (length m - c.bytes) (drop c.bytes m))

    grown : (σ : Stored) → StoredStand t k c (data_store m l) σ
        → data_write k line (write_at t x) σ
        ≡ mapped (data_then (σ.bytes ++ written_bytes t n x)) (add_label_word line c.bytes (write_at t x) σ.label_words)
    grown σ s =
        data_grows k line (write_at t x) σ c.bytes s.counted (omega (arith, h, size))
        ∙ ap (λ (bs : List ℕ). mapped (data_then (σ.bytes ++ bs)) (add_label_word line c.bytes (write_at t x) σ.label_words))
        (sym (written_is t c.bytes n x size))

    pub data_stops : (q : ℕ) → r ≡ Err q → StoredSteps t k c m l (Err q) m' l' (data_write k line (write_at t x))
    data_stops q e σ s =
        rw (grown σ s)
        (lift_stop (λ d. LabelWordsStand t d l') (λ d. StoredStand t k d (data_store m' l')) r (add_label_word line c.bytes (write_at t x) σ.label_words) _ q e
        (added σ.label_words s.label_words))

    pub data_goes : (o : ℕ) → r ≡ Ok o
        → StoredSteps t k c m l (Ok (record { bytes = c.bytes + n; label_words = o })) m' l' (data_write k line (write_at t x))
    data_goes o e σ s =
        rw (grown σ s)
        (by (add_label_word line c.bytes (write_at t x) σ.label_words) (rw e at (added σ.label_words s.label_words))
        (rw (grown σ s) at (data_write_fits t k line i (write_at t x) σ s.fits)))
      where
        bs : List ℕ
        bs = written_bytes t n x

        long : length bs ≡ n
        long = ap length (written_is t c.bytes n x size) ∙ write-length c.bytes (write_at t x) ∙ sym size

        stored : m' ≡ put c.bytes bs m
        stored = put_lent c.bytes n bs m ys long (omega (arith, h, s.lent)) puts

        same : length m' ≡ length m
        same = ap length stored ∙ length-put c.bytes bs m (omega (arith, long, h, s.lent))

        by : (a : Result (List LabelWord) ℕ) → Agrees (λ d. LabelWordsStand t d l') (Ok o) a
            → Gives (StoredFits t k) (mapped (data_then (σ.bytes ++ bs)) a)
            → Agrees (λ d. StoredStand t k d (data_store m' l')) (Ok (record { bytes = c.bytes + n; label_words = o }))
            (mapped (data_then (σ.bytes ++ bs)) a)
        by (Ok ws) g f =
            record {
              counted = omega (arith, s.counted, length-append σ.bytes bs, long);
              fits = f;
              limit = s.limit;
              lent = omega (arith, s.lent, same);
              bytes = stored ∙ ap (put c.bytes bs) s.bytes ∙ put_pad (length m) c.bytes σ.bytes bs s.counted
                  ∙ ap (λ (j : ℕ). padded j (σ.bytes ++ bs)) (sym same);
              label_words = g;
            }
        by (Err q) g f = absurd g
