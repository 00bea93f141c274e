-- Demand 3 of the definitions' layouts: what holds of every accepted one, where 17 stands, and when it comes.
use Prim.Native.Nat.{ℕ, zero, suc, ◌+◌, ◌*◌, ◌≤◌}
use mathlib.Core.Path.{◌≡◌, refl, sym, ◌∙◌, ap, subst}
use mathlib.Core.Logic.{◌↔◌, ◌⊎◌, inl, inr}
use mathlib.Core.List.{List, [], map}
use mathlib.Core.Bool.{Bool, true, false, not}
use Rattle.std.proofs.Common.{Some}
use native.Mathlib.Nat.{suc-mul, mul-suc}
use native.Mathlib.Omega.{arith}
use lib.Dec.{ltb, eqb}
use lib.ListN.{length, take, drop}
use borrow.Author.Tests.{ltb-false, le-ltb}
use Rattle.std.proofs.Common.{Result, Ok, Err}
use Rattle.numbers.specs.Results.{and_then}
use Rattle.layout.specs.Pieces.{lines, line_pieces}
use Rattle.layout.specs.declared.state.Section.TheVariants as section
use Rattle.layout.specs.declared.state.Place.{Place}
use Rattle.layout.specs.Refusals.{Refusal, byte_numbers, line_numbers, label_word_numbers, turn_numbers, pseudo_numbers}
use Rattle.layout.specs.Limits.{base_limit, text_limit, Lent, room_of}
use Rattle.layout.specs.State.{Equate, LabelWord, State, start}
use Rattle.layout.specs.Stage.{line_stage}
use Rattle.layout.specs.Addresses.{address_at, placed, ordered, label_address, fill}
use Rattle.layout.specs.Rounds.{constant, turn, Turns}
use Rattle.layout.specs.Layouts.{Layout, Emitted, emit, found_equates, refuse_if, check_bytes}
use Rattle.layout.specs.Layouts.{resolve, layout, after_lines, layout_of}
use Rattle.layout.specs.Chains.{Among, NamesFirst, Conditions, Chained}
use Rattle.layout.specs.Demands.{recorded_address, word_from, EquateHolds, OneByOne, LabelWordHolds, BeforeRounds, Holds}
use Rattle.layout.specs.Code.Fits.{Consecutive, Fits}
use Rattle.layout.proofs.ResultLaws.{refused-value, value_same, refused-same}
use Rattle.layout.proofs.Gives.{Comes}
use Rattle.layout.proofs.Kept.{stage_fits}
use Rattle.layout.proofs.Fields.{InText, EmitsFit, emit_fits, LayoutFits, layout_fits}
use Rattle.layout.proofs.RefusalLaws.{in_all, all_of, Said}
use Rattle.layout.proofs.StageOrder.{Laid, StageLaid, stage_laid}
use Rattle.layout.proofs.AnswerLaws.{Says, check_says, fill-says, emit-says}
use Rattle.layout.proofs.RoundHistory.{triangle, AllFound, none_pending}
use Rattle.layout.proofs.RoundLaws.{spent_sum}
use Rattle.layout.proofs.ChainLaws.{among_each, stuck_names}
use Rattle.layout.proofs.ResolveLaws.{turn_numbered, own_evaluator, RoundsRefused, by_turn, by_end, RoundsCome, all_end}
use Rattle.layout.proofs.ConditionLaws.{chained_unresolved}
use Rattle.layout.proofs.EquatesHold.{value-recorded, address_recorded, address_among, equates_hold}
use Rattle.layout.proofs.FillLaws.{WordHolds, fill_holds, address_below}
use Rattle.layout.proofs.ItemsHold.{EmittedAs, emitted_as, items_hold}
use Rattle.layout.proofs.TextPlaces.{Reached, PlacesReached, stage_reached, words_above_lem, text_address}

-- ---- numbers

-- not 17, which the rounds alone say, at their end
abbrev is_early : ℕ → Bool
is_early n = not (eqb n 17)

abbrev EarlyAt : Refusal → Type 0
EarlyAt r = is_early r.number ≡ true

-- what a stage says whose numbers have no 17
early : (ns : List ℕ) → all_of is_early ns ≡ true → (m : ℕ) (r : Refusal) → Said ns m r → EarlyAt r
early ns h m r s = in_all is_early ns h r.number s.0

not_late : (n : ℕ) → n ≡ 17 → is_early n ≡ true → ⊥
not_late n q e = let h : is_early 17 ≡ true = ap is_early (sym q) ∙ e in let z : ◌≡◌ {A = ℕ} 0 1 = cc in omega arith

-- ---- the way to the rounds

abbrev after_rounds : ℕ → State → List ℕ → Result Turns Refusal → Result Layout Refusal
after_rounds base σ bytes rounds =
    and_then rounds (λ x.
    and_then (emit base (constant x.known) (label_address base σ) σ.rest.own.items.list [] []) (λ e. Ok (layout base σ bytes x e)))

abbrev own_rounds : ℕ → State → Result Turns Refusal
own_rounds base σ = resolve base σ σ.rest.equates

-- refused before the rounds, not by 17; or the rounds decide
data Way (t : List ℕ) (base : ℕ) (k : Lent) (o : Result Layout Refusal) : Type 0 where
  before : (r : Refusal) → EarlyAt r → o ≡ Err r → Way t base k o
  by_rounds : (σ : State) (bytes : List ℕ) → BeforeRounds t base k σ bytes → o ≡ after_rounds base σ bytes (own_rounds base σ) → Way t base k o

way : (t : List ℕ) (base : ℕ) (k : Lent) → Way t base k (layout_of t base k)
unfolding layout_of after_lines
way t base k = by (ltb base_limit base) refl (ltb text_limit (length t)) refl (check_bytes 0 t) refl (check_says t)
  where
    read : Result State Refusal
    read = line_stage (room_of k) 0 (line_pieces 0 (lines t)) start

    filled : State → Result (List ℕ) Refusal
    filled σ = fill (label_address base σ) σ.rest.own.stored.label_words σ.rest.own.stored.bytes

    -- the label words
    fills : (σ : State) → ((bytes : List ℕ) → filled σ ≡ Ok bytes → BeforeRounds t base k σ bytes) → (x : Result (List ℕ) Refusal) → filled σ ≡ x
        → Says label_word_numbers (length (lines t)) x → Way t base k (and_then x (λ bytes. after_rounds base σ bytes (own_rounds base σ)))
    fills σ b (Err r) q s = before r (early label_word_numbers refl (length (lines t)) r s) refl
    fills σ b (Ok bytes) q s = by_rounds σ bytes (b bytes q) refl

    -- the lines
    stages : base ≤ base_limit → length t ≤ text_limit → check_bytes 0 t ≡ Ok tt → (x : Result State Refusal) → read ≡ x
        → StageLaid (length (lines t)) x → Way t base k (and_then x (after_lines base))
    stages low short plain (Err r) q s = before r (early line_numbers refl (length (lines t)) r s) refl
    stages low short plain (Ok σ) q s =
        fills σ (λ bytes f. record { low = low; short = short; plain = plain; read = q; filled = f }) (filled σ) refl
        (fill-says (label_address base σ) (length (lines t)) σ.rest.own.stored.label_words σ.rest.own.stored.bytes s.rest.word_lines)

    by : (c : Bool) → ltb base_limit base ≡ c → (d : Bool) → ltb text_limit (length t) ≡ d → (x : Result Unit Refusal) → check_bytes 0 t ≡ x
        → Says byte_numbers (length (lines t)) x
        → Way t base k (and_then (refuse_if c 40 0) (λ _. and_then (refuse_if d 41 0) (λ _. and_then x (λ _. and_then read (after_lines base)))))
    by true p d q x r s = before _ refl refl
    by false p true q x r s = before _ refl refl
    by false p false q (Err r) e s = before r (early byte_numbers refl (length (lines t)) r s) refl
    by false p false q (Ok u) e s =
        stages (ltb-false base_limit base p) (ltb-false text_limit (length t) q) e read refl (stage_laid t (room_of k))

-- where nothing before the rounds refuses, the rounds decide
from-rounds : (t : List ℕ) (base : ℕ) (k : Lent) (σ : State) (bytes : List ℕ) → BeforeRounds t base k σ bytes
    → layout_of t base k ≡ after_rounds base σ bytes (own_rounds base σ)
unfolding layout_of after_lines
from-rounds t base k σ bytes b =
    ap (λ (c : Bool). and_then (refuse_if c 40 0) (λ _. short (ltb text_limit (length t)))) (le-ltb base_limit base b.low)
    ∙ ap short (le-ltb text_limit (length t) b.short)
    ∙ ap (λ (x : Result Unit Refusal). and_then x (λ _. whole)) b.plain
    ∙ ap (λ (x : Result State Refusal). and_then x (after_lines base)) b.read
    ∙ ap (λ (x : Result (List ℕ) Refusal). and_then x (λ bytes. after_rounds base σ bytes (own_rounds base σ))) b.filled
  where
    whole : Result Layout Refusal
    whole = and_then (line_stage (room_of k) 0 (line_pieces 0 (lines t)) start) (after_lines base)

    short : Bool → Result Layout Refusal
    short c = and_then (refuse_if c 41 0) (λ _. and_then (check_bytes 0 t) (λ _. whole))

-- ---- 17

-- what refuses after the rounds began: a turn or an item, not by 17; or the end of the rounds, by 17
abbrev LateRefusal : Result Turns Refusal → Refusal → Type 0
LateRefusal x r = EarlyAt r ⊎ ((r.number ≡ 17) × (x ≡ Err r))

after-refused : (base : ℕ) (σ : State) (bytes : List ℕ) (m : ℕ) → Laid m σ → (x : Result Turns Refusal) → RoundsCome base σ σ.rest.equates x
    → (r : Refusal) → after_rounds base σ bytes x ≡ Err r → LateRefusal x r
after-refused base σ bytes m laid (Err s) g r e = by g
  where
    p : s ≡ r
    p = refused-same e

    by : RoundsRefused base σ σ.rest.equates s → LateRefusal (Err s) r
    by (by_turn t) =
        inl (ap (λ (q : Refusal). is_early q.number) (sym p)
        ∙ in_all is_early turn_numbers refl s.number (turn_numbered base σ t.seen t.equate s.number t.refuses))
    by (by_end q w) = inr (ap (λ (q : Refusal). q.number) (sym p) ∙ q, ap Err p)
after-refused base σ bytes m laid (Ok x) g r e =
    by (emit base (constant x.known) (label_address base σ) σ.rest.own.items.list [] [])
    (emit-says base (constant x.known) (label_address base σ) m σ.rest.own.items.list [] [] laid.rest.item_lines) e
  where
    by : (y : Result Emitted Refusal) → Says pseudo_numbers m y → and_then y (λ e. Ok (layout base σ bytes x e)) ≡ Err r
        → LateRefusal (Ok x) r
    by (Err s) h e = inl (ap (λ (q : Refusal). is_early q.number) (sym (refused-same e)) ∙ early pseudo_numbers refl m s h)
    by (Ok y) h e = absurd (refused-value (sym e))

-- what the lines left
read_laid : (t : List ℕ) (base : ℕ) (k : Lent) (σ : State) (bytes : List ℕ) → BeforeRounds t base k σ bytes → Laid (length (lines t)) σ
read_laid t base k σ bytes b = rw b.read at (stage_laid t (room_of k))

read_fits : (t : List ℕ) (base : ℕ) (k : Lent) (σ : State) (bytes : List ℕ) → BeforeRounds t base k σ bytes → Fits t (room_of k) σ
read_fits t base k σ bytes b = rw b.read at (stage_fits t k)

-- for every text: where the answer is 17, its line is the first whose equate starts a chain of uses that comes back to a name in it or reaches
-- an undefined one
pub unresolved_line : (t : List ℕ) (base : ℕ) (k : Lent) (r : Refusal) → layout_of t base k ≡ Err r → r.number ≡ 17
    → (σ : State) × (bytes : List ℕ) × BeforeRounds t base k σ bytes × NamesFirst σ r.line
unresolved_line t base k r e n = by (way t base k)
  where
    names : (σ : State) (bytes : List ℕ) → BeforeRounds t base k σ bytes → own_rounds base σ ≡ Err r → NamesFirst σ r.line
    names σ bytes b q = last (rw q at (all_end base σ σ.rest.equates))
      where
        last : RoundsRefused base σ σ.rest.equates r → NamesFirst σ r.line
        last (by_turn x) =
            absurd (not_late r.number n
            (in_all is_early turn_numbers refl r.number (turn_numbered base σ x.seen x.equate r.number x.refuses)))
        last (by_end p s) =
            stuck_names σ (turn base σ) (own_evaluator base σ) (length (lines t)) (read_laid t base k σ bytes b).rest.equates r.line s

    rest : (σ : State) (bytes : List ℕ) → BeforeRounds t base k σ bytes → LateRefusal (own_rounds base σ) r
        → (σ : State) × (bytes : List ℕ) × BeforeRounds t base k σ bytes × NamesFirst σ r.line
    rest σ bytes b (inl h) = absurd (not_late r.number n h)
    rest σ bytes b (inr h) = (σ, bytes, b, names σ bytes b h.1)

    by : Way t base k (layout_of t base k) → (σ : State) × (bytes : List ℕ) × BeforeRounds t base k σ bytes × NamesFirst σ r.line
    by (before s h q) = absurd (not_late r.number n (ap (λ (x : Refusal). is_early x.number) (refused-same (sym e ∙ q)) ∙ h))
    by (by_rounds σ bytes b q) =
        rest σ bytes b (after-refused base σ bytes (length (lines t)) (read_laid t base k σ bytes b) (own_rounds base σ)
        (all_end base σ σ.rest.equates) r (sym q ∙ e))

-- under document 01's conditions 17 comes exactly when an equate starts such a chain
pub unresolved_exactly : (t : List ℕ) (base : ℕ) (k : Lent) (σ : State) (bytes : List ℕ) → BeforeRounds t base k σ bytes → Conditions base σ
    → ((r : Refusal) × (layout_of t base k ≡ Err r) × (r.number ≡ 17)) ↔ Chained σ
unresolved_exactly t base k σ bytes b c = (
  (λ x.
      let u = unresolved_line t base k x.0 x.1 x.2 in
      let s : u.0 ≡ σ = value_same (sym u.2.read ∙ b.read) in
      subst Chained s (u.3.equate, u.3.among, u.3.starts)),
  (λ x.
      let r = chained_unresolved base σ c x in
      (r.0, from-rounds t base k σ bytes b ∙ ap (after_rounds base σ bytes) r.1, r.2)),
)

-- ---- accepted layouts

triangle_is : (n : ℕ) → 2 * triangle n ≡ n * suc n
unfolding triangle
triangle_is zero = refl
triangle_is (suc n) = omega (arith, triangle_is n, suc-mul n (suc (suc n)), mul-suc n (suc n))

module _ (t : List ℕ) (base : ℕ) (k : Lent) (σ : State) (bytes : List ℕ) (b : BeforeRounds t base k σ bytes) where
  laid : Laid (length (lines t)) σ
  laid = read_laid t base k σ bytes b

  reached : PlacesReached (length (lines t)) σ
  reached = rw b.read at (stage_reached t k)

  fits : Fits t (room_of k) σ
  fits = read_fits t base k σ bytes b

  labels_hold : (n : List ℕ) → recorded_address (ordered (map (placed base σ) σ.labels)) n ≡ label_address base σ n
  labels_hold n = address_recorded base σ n σ.labels laid.labels

  words_hold : (l : Layout) → ((n : List ℕ) → recorded_address l.labels n ≡ label_address base σ n) → l.data_bytes ≡ bytes
      → (w : LabelWord) → Among w σ.rest.own.stored.label_words → LabelWordHolds l w
  words_hold l labels d w a =
      let own = σ.rest.own.stored in
      let h = among_each (WordHolds (label_address base σ) bytes)
      (fill_holds (label_address base σ) 0 own.label_words own.bytes bytes laid.rest.words b.filled) a in
      record {
        address = h.0;
        known = labels w.name ∙ h.1;
        small = address_below t base σ σ.labels w.name h.0 b.low (omega (arith, fits.rest.own.stored.room))
            fits.labels.each h.1;
        stands = ap (λ (xs : List ℕ). take 4 (drop w.at xs)) d ∙ h.2;
      }

  consecutive : Consecutive 0 σ.rest.own.items.list σ.rest.own.items.words
  consecutive = fits.rest.own.items.consecutive

  -- a place that the lines reached in the text section has the address of the first word at its line or below it
  word_holds : (x : Turns) (e : Emitted) → EmittedAs (constant x.known) (label_address base σ) base σ.rest.own.items.list [] [] e
      → length e.words ≡ σ.rest.own.items.words → (line : ℕ) (p : Place) → Reached (length (lines t)) σ.rest.own.items.list line p → p.section ≡ section.Text
      → address_at base σ p ≡ base + 4 * word_from line (layout base σ bytes x e) e.items
  word_holds x e m w line p r =
      let l = layout base σ bytes x e in
      text_address base σ (length (lines t)) line p (word_from line l e.items) r
      (words_above_lem (constant x.known) (label_address base σ) base l line σ.rest.own.items e w m consecutive)

  -- what the rounds and the items leave holds
  layout-holds : (x : Turns) → AllFound (turn base σ) σ.rest.equates x.known x.evaluations → (e : Emitted)
      → EmittedAs (constant x.known) (label_address base σ) base σ.rest.own.items.list [] [] e
      → length e.words ≡ σ.rest.own.items.words
      → 2 * x.evaluations ≤ length (found_equates x.known) * suc (length (found_equates x.known)) → Holds base σ (layout base σ bytes x e)
  layout-holds x a e m w few =
      let l = layout base σ bytes x e in
      let found = none_pending x.known a.found in
      record {
        labels = labels_hold;
        equates = subst (λ (es : List Equate). OneByOne (EquateHolds base σ l) es [] (found_equates x.known)) a.equates
            (equates_hold base σ a.last x.known a.history found l refl labels_hold);
        label_words = words_hold l labels_hold refl;
        items = items_hold (constant x.known) (label_address base σ) base l (value-recorded x.known) labels_hold
            σ.rest.own.items.list σ.rest.own.items.words e refl refl m consecutive;
        words = w;
        text_labels = λ y i q. labels_hold y.name.bytes ∙ address_among base σ laid.labels i
            ∙ ap Some (word_holds x e m w y.line y.place (among_each _ reached.labels i) q);
        text_dots = λ d i. word_holds x e m w d.line d.place (among_each _ reached.equates i);
        evaluations = a.evaluated ∙ spent_sum a.last x.known found;
        few = few;
      }

-- "In every accepted layout, whatever the text, base and buffers"
pub accepted_holds : (t : List ℕ) (base : ℕ) (k : Lent) (l : Layout) → layout_of t base k ≡ Ok l
    → (σ : State) × (bytes : List ℕ) × BeforeRounds t base k σ bytes × Holds base σ l
accepted_holds t base k l e = by (way t base k)
  where
    fits : LayoutFits t k l
    fits = rw e at (layout_fits t base k)

    bound : 2 * l.evaluations ≤ length l.equates * suc (length l.equates)
    bound = omega (arith, triangle_is (length l.equates), fits.evaluations)

    emits : (σ : State) (bytes : List ℕ) → BeforeRounds t base k σ bytes → (x : Turns)
        → AllFound (turn base σ) σ.rest.equates x.known x.evaluations → (y : Result Emitted Refusal)
        → Comes (EmittedAs (constant x.known) (label_address base σ) base σ.rest.own.items.list [] []) (λ _. Unit) y
        → Comes (EmitsFit t σ.rest.own.items.words σ.rest.own.items.list []) (InText t) y
        → and_then y (λ e. Ok (layout base σ bytes x e)) ≡ Ok l → Holds base σ l
    emits σ bytes b x a (Err r) m f p = absurd (refused-value p)
    emits σ bytes b x a (Ok y) m f p =
        let q = value_same p in
        let n : 2 * x.evaluations ≤ length (found_equates x.known) * suc (length (found_equates x.known)) = rw (← q) at bound in
        subst (Holds base σ) q (layout-holds t base k σ bytes b x a y m f.sized n)

    resolves : (σ : State) (bytes : List ℕ) → BeforeRounds t base k σ bytes → (x : Result Turns Refusal) → RoundsCome base σ σ.rest.equates x
        → after_rounds base σ bytes x ≡ Ok l → Holds base σ l
    resolves σ bytes b (Err r) a p = absurd (refused-value p)
    resolves σ bytes b (Ok x) a p =
        let items = σ.rest.own.items in
        let fit = (read_fits t base k σ bytes b).rest.own.items in
        emits σ bytes b x a (emit base (constant x.known) (label_address base σ) σ.rest.own.items.list [] [])
        (emitted_as (constant x.known) (label_address base σ) base σ.rest.own.items.list [] [])
        (emit_fits t base b.low (constant x.known) (label_address base σ) items.words items.list [] [] fit.consecutive fit.each tt tt) p

    by : Way t base k (layout_of t base k) → (σ : State) × (bytes : List ℕ) × BeforeRounds t base k σ bytes × Holds base σ l
    by (before r h q) = absurd (refused-value (sym q ∙ e))
    by (by_rounds σ bytes b q) = (σ, bytes, b, resolves σ bytes b (own_rounds base σ) (all_end base σ σ.rest.equates) (sym q ∙ e))
