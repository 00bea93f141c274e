-- The equates of an accepted layout: what is looked up in the records is what the rounds and the lines found, and each equate's value, name
-- and round hold.
use Prim.Native.Nat.{ℕ}
use mathlib.Core.Path.{◌≡◌, refl, sym, ◌∙◌, ap, ap₂, subst}
use mathlib.Core.List.{List, [], ◌∷◌, ◌++◌, map, append_assoc}
use mathlib.Core.Bool.{Bool, true, false, ◌||◌, true≢false}
use Rattle.std.proofs.Common.{Option, None, Some}
use lib.IntN.{ℤ}
use Rattle.numbers.specs.Text.{same}
use Rattle.numbers.proofs.Bools.{none-some, or_left, or_right}
use Rattle.numbers.proofs.Prefixes.{same_equal, same_refl}
use Rattle.layout.specs.State.{Label, State}
use Rattle.layout.specs.Stage.{is_label}
use Rattle.layout.specs.Addresses.{LabelAt, placed, less_label, insert, ordered, address_at, address_in, label_address}
use Rattle.layout.specs.Rounds.{Found, Known, or_else, found_value, constant, as_number, look, turn}
use Rattle.layout.specs.Layouts.{EquateAt, Layout, cons_found, found_equates}
use Rattle.layout.specs.Chains.{Among, first, later}
use Rattle.layout.specs.Demands.{recorded_value, recorded_address, final_value, EquateHolds, OneByOne}
use Rattle.layout.specs.Code.Fits.{Each}
use Rattle.layout.specs.Code.Names.{known_name}
use Rattle.layout.proofs.SumLaws.{sum_more}
use Rattle.layout.proofs.StageOrder.{Apart}
use Rattle.layout.proofs.RoundHistory.{History, IsFound}
use Rattle.layout.proofs.RoundLaws.{equate_record_of, here_at, found_free, round_lawful, unshared, not_itself}
use Rattle.layout.proofs.ResolveLaws.{no_label_address, own_address_of, own_evaluator, sum_final}

-- ---- equates looked up

pub value-recorded : (ks : List Known) (n : List ℕ) → recorded_value (found_equates ks) n ≡ constant ks n
unfolding recorded_value found_equates constant
value-recorded [] n = refl
value-recorded (k ∷ ks) n = by k.found (same (known_name k) n) refl (value-recorded ks n)
  where
    here : Found → Bool → Option ℤ
    here f c = elim c [ true ↦ Some f.value | false ↦ recorded_value (found_equates ks) n ]

    by : (o : Option Found) (c : Bool) → same (known_name k) n ≡ c → recorded_value (found_equates ks) n ≡ constant ks n
        → recorded_value (cons_found k o (found_equates ks)) n ≡ elim c [ true ↦ or_else (found_value o) (constant ks n) | false ↦ constant ks n ]
    by None true e h = h
    by None false e h = h
    by (Some f) true e h = ap (here f) e
    by (Some f) false e h = ap (here f) e ∙ h

-- ---- labels looked up

abbrev Other : List ℕ → LabelAt → Type 0
Other n y = same y.name.bytes n ≡ false

insert-other : (n : List ℕ) (x : LabelAt) (ys : List LabelAt) → Other n x → Each (Other n) ys → Each (Other n) (insert x ys)
unfolding insert
insert-other n x [] h g = (h, tt)
insert-other n x (y ∷ ys) h g = by (less_label x y) (insert-other n x ys h g.1)
  where
    by : (c : Bool) → Each (Other n) (insert x ys) → Each (Other n) (elim c [ true ↦ x ∷ y ∷ ys | false ↦ y ∷ insert x ys ])
    by true m = (h, g)
    by false m = (g.0, m)

-- a label put in its order among others of other names is found as if it stood first
insert_address : (n : List ℕ) (x : LabelAt) (ys : List LabelAt) → Each (Other x.name.bytes) ys
    → recorded_address (insert x ys) n ≡ elim (same x.name.bytes n) [ true ↦ Some x.address | false ↦ recorded_address ys n ]
unfolding insert recorded_address
insert_address n x [] g = refl
insert_address n x (y ∷ ys) g =
    by (less_label x y) (same x.name.bytes n) refl (same y.name.bytes n) refl (insert_address n x ys g.1)
  where
    A : Option ℕ
    A = Some x.address

    B : Option ℕ
    B = Some y.address

    W : List LabelAt → Option ℕ
    W zs = recorded_address zs n

    pick : Bool → Option ℕ → Option ℕ → Option ℕ
    pick c a b = elim c [ true ↦ a | false ↦ b ]

    clash : same x.name.bytes n ≡ true → same y.name.bytes n ≡ true → ⊥
    clash p q = true≢false (sym q ∙ ap (same y.name.bytes) (sym (same_equal x.name.bytes n p)) ∙ g.0)

    behind : (c d : Bool) → same x.name.bytes n ≡ c → same y.name.bytes n ≡ d → W (insert x ys) ≡ pick c A (W ys)
        → pick d B (W (insert x ys)) ≡ pick c A (pick d B (W ys))
    behind true true p q h = absurd (clash p q)
    behind true false p q h = h
    behind false true p q h = refl
    behind false false p q h = h

    by : (l c : Bool) → same x.name.bytes n ≡ c → (d : Bool) → same y.name.bytes n ≡ d
        → W (insert x ys) ≡ pick (same x.name.bytes n) A (W ys)
        → W (elim l [ true ↦ x ∷ y ∷ ys | false ↦ y ∷ insert x ys ]) ≡ pick c A (pick d B (W ys))
    by true c p d q h = ap₂ (λ (c d : Bool). pick c A (pick d B (W ys))) p q
    by false c p d q h = ap (λ (d : Bool). pick d B (W (insert x ys))) q ∙ behind c d p q (h ∙ ap (λ (c : Bool). pick c A (W ys)) p)

among_label : {x : Label} {ls : List Label} → Among x ls → is_label x.name.bytes ls ≡ true
unfolding is_label
among_label {x = x} first = rw (is_label, same_refl x.name.bytes) refl
among_label {x = x} (later {y = y} {xs = ls} a) = by (same y.name.bytes x.name.bytes) (among_label a)
  where
    by : (c : Bool) → is_label x.name.bytes ls ≡ true → c || is_label x.name.bytes ls ≡ true
    by true e = refl
    by false e = e

module _ (base : ℕ) (σ : State) where
  others : (n : List ℕ) (ls : List Label) → is_label n ls ≡ false → Each (Other n) (ordered (map (placed base σ) ls))
  unfolding ordered is_label
  others n [] e = tt
  others n (l ∷ ls) e =
      insert-other n (placed base σ l) (ordered (map (placed base σ) ls)) (or_left (same l.name.bytes n) (is_label n ls) e)
      (others n ls (or_right (same l.name.bytes n) (is_label n ls) e))

  pub address_recorded : (n : List ℕ) (ls : List Label) → Apart ls → recorded_address (ordered (map (placed base σ) ls)) n ≡ address_in base σ ls n
  unfolding ordered recorded_address address_in
  address_recorded n [] g = refl
  address_recorded n (l ∷ ls) g =
      insert_address n (placed base σ l) (ordered (map (placed base σ) ls)) (others l.name.bytes ls g.0)
      ∙ ap (λ (o : Option ℕ). pick (same l.name.bytes n) (Some (address_at base σ l.place)) o) (address_recorded n ls g.1)
    where
      pick : Bool → Option ℕ → Option ℕ → Option ℕ
      pick c a b = elim c [ true ↦ a | false ↦ b ]

  -- a label of a name that no other has is found by it
  pub address_among : {x : Label} {ls : List Label} → Apart ls → Among x ls → address_in base σ ls x.name.bytes ≡ Some (address_at base σ x.place)
  unfolding address_in
  address_among {x = x} g first = rw (address_in, same_refl x.name.bytes) refl
  address_among {x = x} g (later {y = y} {xs = ls} a) = by (same y.name.bytes x.name.bytes) refl (address_among g.1 a)
    where
      by : (c : Bool) → same y.name.bytes x.name.bytes ≡ c → address_in base σ ls x.name.bytes ≡ Some (address_at base σ x.place)
          → elim c [ true ↦ Some (address_at base σ y.place) | false ↦ address_in base σ ls x.name.bytes ] ≡ Some (address_at base σ x.place)
      by true e h =
          absurd (true≢false (sym (among_label a) ∙ ap (λ (n : List ℕ). is_label n ls) (sym (same_equal y.name.bytes x.name.bytes e)) ∙ g.0))
      by false e h = h

-- ---- each equate

found_last : (done : List Known) (k : Known) (f : Found) → k.found ≡ Some f
    → found_equates (done ++ k ∷ []) ≡ found_equates done ++ equate_record_of k f ∷ []
unfolding found_equates
found_last [] k f e = rw e refl
found_last (d ∷ done) k f e = by d.found (found_last done k f e)
  where
    by : (o : Option Found) → found_equates (done ++ k ∷ []) ≡ found_equates done ++ equate_record_of k f ∷ []
        → cons_found d o (found_equates (done ++ k ∷ [])) ≡ cons_found d o (found_equates done) ++ equate_record_of k f ∷ []
    by None h = h
    by (Some g) h = ap (λ rs. equate_record_of d g ∷ rs) h

module _ (base : ℕ) (σ : State) (R : ℕ) (F : List Known) (H : History (turn base σ) R F) (all : Each IsFound F)
    (l : Layout) (equates : l.equates ≡ found_equates F) (labels : (n : List ℕ) → recorded_address l.labels n ≡ label_address base σ n) where
  final : (n : List ℕ) (v : ℤ) → look base σ F n ≡ Some v → final_value l n ≡ Some v
  final n v e =
      ap₂ or_else (ap (λ (rs : List EquateAt). recorded_value rs n) equates ∙ value-recorded F n) (ap as_number (labels n)) ∙ e

  equate-holds : (done : List Known) (k : Known) (ks : List Known) → F ≡ done ++ k ∷ ks → (f : Found) → k.found ≡ Some f
      → EquateHolds base σ l k.equate (found_equates done) (equate_record_of k f) (found_equates ks)
  equate-holds done k ks are f is =
      let E = own_evaluator base σ in
      let at = here_at σ (turn base σ) E R F H done k ks are f is in
      let s = sum_final base σ R F H f at is in
      record {
        name = refl;
        line = refl;
        terms = s.0;
        well_formed = s.1;
        value = sum_more (look base σ F) (final_value l) (own_address_of base σ k.equate) final s.0 f.value s.2;
        unshared = unshared σ (turn base σ) E R F H done k ks are f is;
        no_label = labels (known_name k) ∙ no_label_address base σ σ.labels (known_name k) (found_free σ (turn base σ) E R F H f at is).no_label;
        round = round_lawful σ (turn base σ) E R F H done k ks are f is;
        not_itself = not_itself σ (turn base σ) E R F H done k ks are f is;
      }

  in_order : (done ks : List Known) → F ≡ done ++ ks → Each IsFound ks
      → OneByOne (EquateHolds base σ l) (map (λ k. k.equate) ks) (found_equates done) (found_equates ks)
  unfolding found_equates
  in_order done [] are g = tt
  in_order done (k ∷ ks) are g = by k.found g.0.1 (in_order (done ++ k ∷ []) ks (are ∙ sym (append_assoc done (k ∷ []) ks)) g.1)
    where
      Rest : List EquateAt → Type 0
      Rest above = OneByOne (EquateHolds base σ l) (map (λ k. k.equate) ks) above (found_equates ks)

      by : (o : Option Found) → o ≡ Some g.0.0 → Rest (found_equates (done ++ k ∷ []))
          → OneByOne (EquateHolds base σ l) (k.equate ∷ map (λ k. k.equate) ks) (found_equates done) (cons_found k o (found_equates ks))
      by None p h = absurd (none-some p)
      by (Some f) p h =
          let q : f ≡ g.0.0 = cc in
          let e : k.found ≡ Some f = g.0.1 ∙ ap Some (sym q) in
          (equate-holds done k ks are f e, subst Rest (found_last done k f e) h)

  pub equates_hold : OneByOne (EquateHolds base σ l) (map (λ k. k.equate) F) [] l.equates
  unfolding found_equates
  equates_hold =
      subst (λ (rs : List EquateAt). OneByOne (EquateHolds base σ l) (map (λ k. k.equate) F) [] rs) (sym equates) (in_order [] F refl all)
