-- What a caller holds after an accepted call is the layout: so demand 3 holds of the answer's counts and buffers, and of every answer.
use Prim.Native.Nat.{ℕ, zero, suc, ◌+◌, ◌*◌, ◌^◌, ◌<◌}
use mathlib.Core.Path.{◌≡◌, refl, sym, ◌∙◌, ap, ap₂, subst}
use mathlib.Core.Logic.{◌↔◌}
use mathlib.Core.List.{List, [], ◌∷◌, ◌++◌, map, append_assoc}
use mathlib.Core.Bool.{true}
use native.Mathlib.Nat.{suc-mul, mod-eq_of_lt}
use native.Mathlib.Omega.{arith}
use lib.IntN.{ℤ}
use lib.ListN.{length, take, drop}
use lib.Seq.{take_at, drop_at, drop-drop}
use Rattle.std.proofs.Common.{Result, Ok, Err}
use Rattle.numbers.specs.Ints.{in64, bits, signed_of}
use Rattle.layout.specs.Bytes.{little_endian, together}
use Rattle.layout.specs.Pieces.{Piece, piece}
use Rattle.layout.specs.Refusals.{Refusal}
use Rattle.layout.specs.Limits.{label_size, equate_size, item_size, Lent}
use Rattle.layout.specs.State.{State}
use Rattle.layout.specs.Addresses.{LabelAt}
use Rattle.layout.specs.Records.{RecordField, field_bytes, little_endian_value, label_record_at, equate_record_at, item_record_at}
use Rattle.layout.specs.Layouts.{EquateAt, ItemAt, Layout, layout_of, label_row, equate_row, item_row, counts_of, buffers_of, answer_of, call_of}
use Rattle.layout.specs.Chains.{Conditions, Chained}
use Rattle.layout.specs.Held.{piece_in, label_from, equate_from, item_from, counted, held_layout}
use Rattle.layout.specs.Demands.{BeforeRounds, Holds, Demanded}
use Rattle.layout.specs.Code.Fits.{Each, Inside}
use Rattle.layout.specs.Code.Orders.{LabelAtFits}
use Rattle.layout.proofs.ResultLaws.{value-refused, refused-same}
use Rattle.layout.proofs.ByteLaws.{little_endian_value_lem, little_endian_back}
use Rattle.layout.proofs.Fields.{bits_below, signed_back, EquateAtFits, ItemAtFits, LayoutFits, layout_fits}
use Rattle.layout.proofs.DemandLaws.{unresolved_line, unresolved_exactly, accepted_holds}
use Rattle.layout.proofs.AnswerLaws.{refusal_numbered}

-- ---- records one after the other

module _ {A : Type 0} (f : A → List RecordField) (size : ℕ) (sized : (x : A) → length (field_bytes (f x)) ≡ size) (at : List ℕ → ℕ → A)
    (behind : (b : List ℕ) (k : ℕ) → at b (suc k) ≡ at (drop size b) k) where
  counted_behind : (b : List ℕ) (k n : ℕ) → counted (at b) (suc k) n ≡ counted (at (drop size b)) k n
  unfolding counted
  counted_behind b k zero = refl
  counted_behind b k (suc n) = ap₂ ◌∷◌ (behind b k) (counted_behind b (suc k) n)

  -- they are read back, where each is from its own bytes
  table_back : (P : A → Type 0) → ((x : A) (rest : List ℕ) → P x → at (field_bytes (f x) ++ rest) 0 ≡ x) → (xs : List A) (rest : List ℕ) → Each P xs
      → counted (at (together (map (λ x. field_bytes (f x)) xs) ++ rest)) 0 (length xs) ≡ xs
  unfolding counted together
  table_back P back [] rest g = refl
  table_back P back (x ∷ xs) rest g =
      let later = together (map (λ x. field_bytes (f x)) xs) in
      let b = field_bytes (f x) ++ (later ++ rest) in
      let behind = drop_at (field_bytes (f x)) (later ++ rest) size (sized x) in
      ap (λ (b : List ℕ). at b 0 ∷ counted (at b) 1 (length xs)) (append_assoc (field_bytes (f x)) later rest)
      ∙ ap₂ ◌∷◌ (back x (later ++ rest) g.0)
      (counted_behind b 0 (length xs) ∙ ap (λ (b : List ℕ). counted (at b) 0 (length xs)) behind ∙ table_back P back xs rest g.1)

-- a field of the next record is one of what stands behind the first
behind_at : (w size at at' : ℕ) (b : List ℕ) → at' ≡ size + at → little_endian_value (take w (drop at' b)) ≡ little_endian_value (take w (drop at (drop size b)))
behind_at w size at at' b e =
    ap (λ (n : ℕ). little_endian_value (take w (drop n b))) e ∙ ap (λ (xs : List ℕ). little_endian_value (take w xs)) (sym (drop-drop at size b))

first_behind : (w size k : ℕ) (b : List ℕ) → little_endian_value (take w (drop (suc k * size) b)) ≡ little_endian_value (take w (drop (k * size) (drop size b)))
first_behind w size k b = behind_at w size (k * size) (suc k * size) b (rw (suc-mul k size) (omega arith))

field_behind : (w size k at : ℕ) (b : List ℕ) → little_endian_value (take w (drop (suc k * size + at) b)) ≡ little_endian_value (take w (drop (k * size + at) (drop size b)))
field_behind w size k at b = behind_at w size (k * size + at) (suc k * size + at) b (rw (suc-mul k size) (omega arith))

-- ---- numbers and pieces

value_back : (z : ℤ) → in64 z ≡ true → signed_of 64 (little_endian_value (little_endian 8 (bits 64 z))) ≡ z
value_back z e = ap (signed_of 64) (little_endian_value_lem 8 (bits 64 z) ∙ mod-eq_of_lt (bits_below z e)) ∙ signed_back z e

piece_back : (t : List ℕ) (p : Piece) (at n : ℕ) → Inside t p → at ≡ p.at → n ≡ length p.bytes → piece_in t at n ≡ p
piece_back t p at n i e q =
    ap₂ (λ (at n : ℕ). piece_in t at n) e q ∙ ap (λ (bs : List ℕ). piece p.at bs) i.is

-- ---- each kind of record

module _ (t : List ℕ) where
  abbrev label_held : List ℕ → ℕ → LabelAt
  label_held b k = label_from t (label_record_at b k)

  label_as : {p q : Piece} {a b m n : ℕ} → p ≡ q → a ≡ b → m ≡ n
      → ◌≡◌ {A = LabelAt} (record { name = p; address = a; line = m }) (record { name = q; address = b; line = n })
  label_as {p} {q} {a} {b} {m} {n} e f g =
      ap₂ (λ (p : Piece) (a : ℕ). record { name = p; address = a; line = m }) e f ∙ ap (λ (m : ℕ). record { name = q; address = b; line = m }) g

  label_behind : (b : List ℕ) (k : ℕ) → label_held b (suc k) ≡ label_held (drop label_size b) k
  label_behind b k =
      let four = field_behind 4 label_size k in
      label_as (ap₂ (piece_in t) (first_behind 4 label_size k b) (four 4 b)) (four 8 b) (four 12 b)

  abbrev equate_held : List ℕ → ℕ → EquateAt
  equate_held b k = equate_from t (equate_record_at b k)

  equate_as : {p q : Piece} {m n r s : ℕ} {y z : ℤ} → p ≡ q → m ≡ n → y ≡ z → r ≡ s
      → ◌≡◌ {A = EquateAt} (record { name = p; line = m; value = y; round = r }) (record { name = q; line = n; value = z; round = s })
  equate_as {p} {q} {m} {n} {r} {s} {y} {z} e f g h =
      ap₂ (λ (p : Piece) (m : ℕ). record { name = p; line = m; value = y; round = r }) e f
      ∙ ap₂ (λ (y : ℤ) (r : ℕ). record { name = q; line = n; value = y; round = r }) g h

  equate_behind : (b : List ℕ) (k : ℕ) → equate_held b (suc k) ≡ equate_held (drop equate_size b) k
  equate_behind b k =
      let four = field_behind 4 equate_size k in
      equate_as (ap₂ (piece_in t) (first_behind 4 equate_size k b) (four 4 b)) (four 8 b) (ap (signed_of 64) (field_behind 8 equate_size k 12 b)) (four 20 b)

  abbrev item_held : List ℕ → ℕ → ItemAt
  item_held b k = item_from t (item_record_at b k)

  item_as : {p q : Piece} {a b m n c d e f : ℕ} → a ≡ b → m ≡ n → c ≡ d → e ≡ f → p ≡ q
      → ◌≡◌ {A = ItemAt} (record { address = a; line = m; kind = c; first = e; source = p })
      (record { address = b; line = n; kind = d; first = f; source = q })
  item_as {p} {q} {a} {b} {m} {n} {c} {d} {e} {f} u v w x y =
      ap₂ (λ (a m : ℕ). record { address = a; line = m; kind = c; first = e; source = p }) u v
      ∙ ap₂ (λ (c e : ℕ). record { address = b; line = n; kind = c; first = e; source = p }) w x
      ∙ ap (λ (p : Piece). record { address = b; line = n; kind = d; first = f; source = p }) y

  item_behind : (b : List ℕ) (k : ℕ) → item_held b (suc k) ≡ item_held (drop item_size b) k
  item_behind b k =
      let four = field_behind 4 item_size k in
      item_as (first_behind 4 item_size k b) (four 4 b) (four 8 b) (four 12 b) (ap₂ (piece_in t) (four 16 b) (four 20 b))

  module _ (short : length t < 2 ^ 32) where
    -- a piece's start and length fit four bytes
    span_back : (p : Piece) → Inside t p → piece_in t (little_endian_value (little_endian 4 p.at)) (little_endian_value (little_endian 4 (length p.bytes))) ≡ p
    span_back p i = piece_back t p _ _ i (little_endian_back p.at (omega (arith, i.within))) (little_endian_back (length p.bytes) (omega (arith, i.within)))

    label_back : (l : LabelAt) (rest : List ℕ) → LabelAtFits t l → label_held (field_bytes (label_row l) ++ rest) 0 ≡ l
    unfolding little_endian field_bytes
    label_back l rest f = label_as (span_back l.name f.name) (little_endian_back l.address f.address) (little_endian_back l.line (omega (arith, f.line)))

    equate_back : (n : ℕ) → n < 2 ^ 32 → (e : EquateAt) (rest : List ℕ) → EquateAtFits t n e → equate_held (field_bytes (equate_row e) ++ rest) 0 ≡ e
    unfolding little_endian field_bytes
    equate_back n few e rest f =
        equate_as (span_back e.name f.name) (little_endian_back e.line (omega (arith, f.line))) (value_back e.value f.value)
        (little_endian_back e.round (omega (arith, f.to)))

    item_back : (n : ℕ) → n < 2 ^ 32 → (i : ItemAt) (rest : List ℕ) → ItemAtFits t n i → item_held (field_bytes (item_row i) ++ rest) 0 ≡ i
    unfolding little_endian field_bytes
    item_back n few i rest f =
        item_as (little_endian_back i.address f.address) (little_endian_back i.line (omega (arith, f.line))) (little_endian_back i.kind (omega (arith, f.kind)))
        (little_endian_back i.first (omega (arith, f.first))) (span_back i.source f.source)

-- ---- the whole layout

pub held_back : (t : List ℕ) (k : Lent) (l : Layout) → LayoutFits t k l → held_layout t (counts_of l) (buffers_of k l) ≡ l
unfolding little_endian field_bytes
held_back t k l f =
    made
    (take_at l.words _ (length l.words) refl)
    (take_at l.data_bytes _ (length l.data_bytes) refl)
    (table_back label_row label_size (λ x. refl) (label_held t) (label_behind t) (LabelAtFits t) (label_back t short) l.labels _ f.each_label)
    (table_back equate_row equate_size (λ x. refl) (equate_held t) (equate_behind t) (EquateAtFits t (length l.equates))
    (equate_back t short (length l.equates) (omega (arith, f.equates))) l.equates _ f.each_equate)
    (table_back item_row item_size (λ x. refl) (item_held t) (item_behind t) (ItemAtFits t (length l.words))
    (item_back t short (length l.words) (omega (arith, f.words))) l.items _ f.each_item)
  where
    short : length t < 2 ^ 32
    short = omega (arith, f.text)

    with : List ℕ → List ℕ → List LabelAt → List EquateAt → List ItemAt → Layout
    with ws bs ls es is =
        record {
          words = ws;
          data_bytes = bs;
          data_base = l.data_base;
          bss_size = l.bss_size;
          labels = ls;
          equates = es;
          items = is;
          evaluations = l.evaluations;
        }

    made : {ws bs : List ℕ} {ls : List LabelAt} {es : List EquateAt} {is : List ItemAt} → ws ≡ l.words → bs ≡ l.data_bytes → ls ≡ l.labels
        → es ≡ l.equates → is ≡ l.items → with ws bs ls es is ≡ l
    made {ws} {bs} {ls} {es} {is} p q r s u =
        ap₂ (λ (ws bs : List ℕ). with ws bs ls es is) p q
        ∙ ap₂ (λ (ls : List LabelAt) (es : List EquateAt). with l.words l.data_bytes ls es is) r s
        ∙ ap (λ (is : List ItemAt). with l.words l.data_bytes l.labels l.equates is) u

-- ---- every answer

-- "Once the layout call runs, demand 3 is owed, all of it"
pub demanded : (t : List ℕ) (base : ℕ) (k : Lent) → Demanded t base k (call_of t base k)
demanded t base k = by (layout_of t base k) refl
  where
    exactly : (n : ℕ) (σ : State) (bytes : List ℕ) → BeforeRounds t base k σ bytes → Conditions base σ
        → (n ≡ 17 → (r : Refusal) × (layout_of t base k ≡ Err r) × (r.number ≡ 17))
        → ((r : Refusal) × (layout_of t base k ≡ Err r) × (r.number ≡ 17) → n ≡ 17) → (n ≡ 17) ↔ Chained σ
    exactly n σ bytes b c to from =
        let x = unresolved_exactly t base k σ bytes b c in
        ((λ e. x.0 (to e)), (λ u. from (x.1 u)))

    by : (o : Result Layout Refusal) → layout_of t base k ≡ o → Demanded t base k (answer_of k o)
    by (Ok l) e =
        let fits : LayoutFits t k l = rw e at (layout_fits t base k) in
        record {
          accepted = λ _.
              let h = accepted_holds t base k l e in
              (h.0, h.1, h.2, subst (Holds base h.0) (sym (held_back t k l fits)) h.3);
          unresolved = λ n. absurd (omega (arith, n));
          exactly = λ σ bytes b c. exactly 0 σ bytes b c (λ n. absurd (omega (arith, n))) (λ x. absurd (value-refused (sym e ∙ x.1)));
        }
    by (Err r) e =
        record {
          accepted = λ n. absurd (omega (arith, n, refusal_numbered t base k r e));
          unresolved = λ n. unresolved_line t base k r e n;
          exactly = λ σ bytes b c. exactly r.number σ bytes b c (λ n. (r, e, n))
              (λ x. ap (λ (s : Refusal). s.number) (refused-same (sym e ∙ x.1)) ∙ x.2);
        }
