-- Label words: their records read back, and the addresses filled in one after the other.
use Prim.Native.Nat.{ℕ, ◌+◌, ◌*◌, ◌≤◌, ◌<◌}
use native.Mathlib.Numerals.{add-one}
use native.Mathlib.Omega.{arith}
use mathlib.Core.Path.{◌≡◌, refl, sym, ap, ◌∙◌}
use mathlib.Core.List.{List, ◌∷◌}
use Rattle.std.proofs.Common.{Option, None, Some}
use lib.ListN.{length, drop, get_or, length-map, drop_of_length-le, get_or-map}
use lib.Seq.{drop-cons}
use Rattle.std.proofs.Common.{Result, Ok, Err}
use Rattle.layout.specs.declared.limits.Room.{Room}
use Rattle.layout.specs.declared.labels.Labels.{Labels}
use Rattle.layout.specs.declared.records.LabelWordRecord.{LabelWordRecord}
use Rattle.layout.specs.declared.state.DataCount.{DataCount}
use Rattle.layout.specs.Bytes.{little_endian, put, padded}
use Rattle.layout.specs.Limits.{text_limit}
use Rattle.layout.specs.Refusals.{Refusal}
use Rattle.layout.specs.State.{LabelWord, Stored}
use Rattle.layout.specs.Addresses.{label_address, fill}
use Rattle.layout.specs.Code.Fits.{LabelWordFits}
use Rattle.layout.specs.Code.Tables.{label_word_size, label_word_fields, label_word_record_at}
use Rattle.layout.specs.Code.Stands.{label_word_of, DataStore, StoredStand}
use Rattle.layout.specs.Code.Steps.{Agrees}
use Rattle.layout.specs.Code.Placed.{WherePlaced, Unfilled, FillLeft, FillReady}
use Rattle.layout.proofs.Each.{each_at}
use Rattle.layout.proofs.ByteLaws.{length-little_endian, length-put, put_used}
use Rattle.layout.proofs.TableLaws.{read-row}
use Rattle.layout.proofs.DataLaws.{label-word-sized}

-- ---- the records read back

abbrev no_record : LabelWordRecord
no_record = record { at = 0; start = 0; len = 0; line = 0 }

module _ {t : List ℕ} {k : Room} {c : DataCount} {b : DataStore} {σ : Stored} (s : StoredStand t k c b σ) (short : length t ≤ text_limit)
    (i : ℕ) (more : i < c.label_words) where
  pub word-within : i * label_word_size + label_word_size ≤ length b.label_words
  word-within = omega (arith, s.label_words.counted, s.label_words.few, s.label_words.room)

  entry : LabelWordRecord
  entry = get_or s.label_words.entries i no_record

  entry_is : label_word_of t entry ≡ get_or σ.label_words i (label_word_of t no_record)
  unfolding entry
  entry_is =
      sym (get_or-map (label_word_of t) s.label_words.entries i no_record)
      ∙ ap (λ (ws : List LabelWord). get_or ws i (label_word_of t no_record)) s.label_words.mean

  entry_fits : LabelWordFits t (length σ.bytes) (label_word_of t entry)
  entry_fits =
      rw entry_is
      (each_at (LabelWordFits t (length σ.bytes)) σ.label_words (label_word_of t no_record) i s.fits.each (omega (arith, s.label_words.counted)))

  record_back : label_word_record_at b.label_words i ≡ entry
  unfolding entry
  record_back =
      let w = s.label_words in
      let below : i < length w.entries = omega (arith, w.counted, ap length w.mean, length-map w.entries (label_word_of t)) in
      let x = get_or w.entries i no_record in
      let within : x.start + x.len ≤ length t = each_at (λ r. r.start + r.len ≤ length t) w.entries no_record i w.within below in
      let fits = entry_fits in
      let r = read-row label_word_fields label_word_size label-word-sized b.label_words w.entries no_record i x.at x.start x.len x.line
      w.bytes below refl (omega (arith, fits.place, s.fits.room, s.limit)) (omega arith) (omega arith) (omega (arith, fits.line)) in
      λ j. record { at = r.0 j; start = r.1 j; len = r.2 j; line = r.3 j }

  module _ (r : LabelWordRecord) (e : r ≡ label_word_record_at b.label_words i) where
    pub word_back : label_word_of t r ≡ get_or σ.label_words i (label_word_of t no_record)
    word_back = ap (label_word_of t) (e ∙ record_back) ∙ entry_is

    pub word_fits : r.at + 4 ≤ length σ.bytes
    word_fits = rw (e ∙ record_back) entry_fits.place

-- ---- one after the other

-- what filling ws from the ith on gives of the bytes in d is what filling all gave of bytes₀
pub record Filling (look : List ℕ → Option ℕ) (ws : List LabelWord) (bytes₀ d : List ℕ) (i : ℕ) : Type 0 where
  pub bytes : List ℕ
  pub sized : length bytes ≡ length bytes₀
  pub stored : d ≡ padded (length d) bytes
  pub goes : fill look (drop i ws) bytes ≡ fill look ws bytes₀

module _ {look : List ℕ → Option ℕ} {ws : List LabelWord} {bytes₀ d : List ℕ} {i : ℕ} (m : Filling look ws bytes₀ d i) where
  module _ (x w : LabelWord) (e : w ≡ get_or ws i x) (below : i < length ws) where
    left : drop i ws ≡ w ∷ drop (i + 1) ws
    left = rw (e, add-one i) (drop-cons ws i x below)

    filling_stops : None ≡ look w.name → fill look ws bytes₀ ≡ Err (record { number = 13; line = w.line })
    unfolding fill
    filling_stops h = rw (← m.goes, left, fill, ← h) refl

    filling_goes : (a : ℕ) → Some a ≡ look w.name → w.at + 4 ≤ length bytes₀ → (d' : List ℕ) → length d' ≡ length d
        → d' ≡ put w.at (little_endian 4 a) d → Filling look ws bytes₀ d' (i + 1)
    unfolding fill
    filling_goes a h within d' size is =
        let room : w.at + length (little_endian 4 a) ≤ length m.bytes = omega (arith, length-little_endian 4 a, m.sized) in
        record {
          bytes = put w.at (little_endian 4 a) m.bytes;
          sized = length-put w.at (little_endian 4 a) m.bytes room ∙ m.sized;
          stored = is ∙ ap (put w.at (little_endian 4 a)) m.stored ∙ put_used (length d) w.at (little_endian 4 a) m.bytes room
              ∙ ap (λ (n : ℕ). padded n (put w.at (little_endian 4 a) m.bytes)) (sym size);
          goes = sym (rw (left, fill, ← h) refl) ∙ m.goes;
        }

  filling_ends : length ws ≤ i → fill look ws bytes₀ ≡ Ok m.bytes
  unfolding fill
  filling_ends h = rw (← m.goes, drop_of_length-le ws {i = i} h) refl

-- ---- in the code: d was d₀, whatever that and the records of label words and labels stood for

pub record Fixing (labels : Labels) (w : List ℕ) (words : ℕ) (d₀ d : List ℕ) (i : ℕ) : Type 0 where
  pub within : i ≤ words
  pub sized : length d ≡ length d₀
  pub filling : (u : FillReady labels w words d₀)
      → Filling (label_address u.base u.state) u.state.rest.own.stored.label_words u.state.rest.own.stored.bytes d i

-- what filling them comes to
abbrev filled : {t l n : List ℕ} {count : ℕ} {w : List ℕ} {words : ℕ} {d : List ℕ} → Unfilled t l n count w words d → Result (List ℕ) Refusal
filled u = fill (label_address u.base u.state) u.state.rest.own.stored.label_words u.state.rest.own.stored.bytes

module _ {labels : Labels} {w : List ℕ} {words : ℕ} {d₀ : List ℕ} where
  pub fixing_first : Fixing labels w words d₀ d₀ 0
  fixing_first =
      record {
        within = omega arith;
        sized = refl;
        filling = λ u. record { bytes = u.state.rest.own.stored.bytes; sized = refl; stored = u.stored.bytes; goes = refl };
      }

  module _ {d : List ℕ} {i : ℕ} (m : Fixing labels w words d₀ d i) where
    pub fixing_ends : words ≤ i → (u : FillReady labels w words d₀) → Agrees (FillLeft words d) (Ok words) (filled u)
    fixing_ends h u =
        rw (filling_ends (m.filling u) (omega (arith, u.stored.label_words.counted)))
        (record { counted = refl; stored = (m.filling u).stored })

    module _ (more : i < words) where
      pub fixing_within : FillReady labels w words d₀ → i * label_word_size + label_word_size ≤ length w
      fixing_within u = word-within u.stored u.labels.table.text i more

      module _ (r : LabelWordRecord) (e : r ≡ label_word_record_at w i) where
        word_of : (u : FillReady labels w words d₀)
            → label_word_of labels.text.now r ≡ get_or u.state.rest.own.stored.label_words i (label_word_of labels.text.now no_record)
        word_of u = word_back u.stored u.labels.table.text i more r e

        pub fixing_room : FillReady labels w words d₀ → r.at + 4 ≤ length d
        fixing_room u =
            omega (arith, word_fits u.stored u.labels.table.text i more r e, u.stored.fits.room, u.stored.lent, m.sized)

        module _ (name : List ℕ) (is : name ≡ (label_word_of labels.text.now r).name) where
          pub fixing_stops : WherePlaced labels (λ base σ. None ≡ label_address base σ name)
              → (u : FillReady labels w words d₀) → Agrees (FillLeft words d) (Err (record { number = 13; line = r.line })) (filled u)
          fixing_stops unknown u =
              rw (filling_stops (m.filling u) _ (label_word_of labels.text.now r) (word_of u) (omega (arith, u.stored.label_words.counted))
              (rw is at (unknown u.base u.state u.labels))) refl

          pub fixing_goes : (a : ℕ) → WherePlaced labels (λ base σ. Some a ≡ label_address base σ name)
              → (d' : List ℕ) → length d' ≡ length d → d' ≡ put r.at (little_endian 4 a) d → Fixing labels w words d₀ d' (i + 1)
          fixing_goes a known d' size written =
              record {
                within = omega arith;
                sized = size ∙ m.sized;
                filling = λ u. filling_goes (m.filling u) _ (label_word_of labels.text.now r) (word_of u) (omega (arith, u.stored.label_words.counted)) a
                    (rw is at (known u.base u.state u.labels)) (word_fits u.stored u.labels.table.text i more r e) d' size written;
              }
