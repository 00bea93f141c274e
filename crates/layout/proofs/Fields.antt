-- Every field of a record fits its bytes, every count its limit and what is lent, so that each buffer keeps the length that was lent.
use Prim.Native.Nat.{ℕ, suc, ◌+◌, ◌-◌, ◌^◌, min, ◌≤◌, ◌<◌}
use mathlib.Core.Path.{◌≡◌, refl, sym, ◌∙◌, ap}
use mathlib.Core.List.{List, [], ◌∷◌, ◌++◌, map, Permᴰ}
use mathlib.Core.Bool.{Bool, true, false, cond, not}
use Rattle.std.proofs.Common.{Option, None, Some}
use native.Mathlib.Nat.{zero-add}
use native.Mathlib.Omega.{arith}
use lib.Dec.{ltb, leb, eqb}
use lib.IntN.{ℤ, pos, negsuc, ◌+ℤ◌}
use lib.ListN.{length, length-append, length-replicate, length-map}
use borrow.Author.Tests.{lt-ltb, le-ltb, ltb-false, leb-true}
use Rattle.std.proofs.Common.{Result, Ok, Err}
use Rattle.numbers.specs.Results.{and_then}
use Rattle.numbers.specs.Ints.{in64, fit64, sign_times, bits, signed_of}
use Rattle.numbers.proofs.Bools.{and_left}
use Rattle.numbers.proofs.Readings.{fit_in64}
use Rattle.layout.specs.declared.state.Section.{Section}
use Rattle.layout.specs.declared.state.Section.TheVariants as section
use Rattle.layout.specs.declared.state.Place.{Place}
use Rattle.layout.specs.Bytes.{little_endian}
use Rattle.layout.specs.Pieces.{lines, line_pieces}
use Rattle.layout.specs.Refusals.{Refusal, at_line}
use Rattle.layout.specs.Limits.{base_limit, text_limit, bss_limit, data_limit, label_size, equate_size, item_size, Lent, room_of}
use Rattle.layout.specs.Statements.{expr_text}
use Rattle.layout.specs.State.{Label, Equate, ItemLine, LabelWord, State, start}
use Rattle.layout.specs.Stage.{is_label, line_stage}
use Rattle.layout.specs.Addresses.{placed, ordered, address_at, section_start, label_address, fill_one, fill}
use Rattle.layout.specs.Expressions.{Token, plus, minus, dot, number, name, unreadable, tokens, any_unreadable, Evaluated, positive, negative}
use Rattle.layout.specs.Expressions.{Wanted, term, joint, on_fit, add_term, on_name, sum_from, evaluate}
use Rattle.layout.specs.Rounds.{Found, Known, constant, look, is_some, turn, Turns}
use Rattle.layout.specs.Records.{RecordField, field_bytes}
use Rattle.layout.specs.Layouts.{EquateAt, ItemAt, Layout, emission, Emitted, item_at, emit, found_equates, refuse_if, check_bytes}
use Rattle.layout.specs.Layouts.{resolve, layout, after_lines, layout_of, label_row, equate_row, item_row, Counts, Buffers, Answer, answer_of, call_of}
use Rattle.layout.specs.Chains.{Among}
use Rattle.layout.specs.Code.Places.{section_limit, PlaceFits}
use Rattle.layout.specs.Code.Fits.{Each, Inside, LabelFits, EquateFits, ItemFits, LabelWordFits, Consecutive, Fits}
use Rattle.layout.specs.Code.Orders.{LabelAtFits}
use Rattle.layout.proofs.Each.{◌and◌, each_append, each_weaker, each_map, each_mapped}
use Rattle.layout.proofs.Gives.{Comes, comes_so, and_then_comes}
use Rattle.layout.proofs.ByteLaws.{length-little_endian, length-put, length-padded}
use Rattle.layout.proofs.TableLaws.{table_length}
use Rattle.layout.proofs.Emissions.{IsWord, WordsFit, PseudoRefusal, emission_fits}
use Rattle.layout.proofs.Kept.{consecutive_next, stage_fits}
use Rattle.layout.proofs.PseudoLaws.{kind_small, words_few}
use Rattle.layout.proofs.OrderLaws.{ordered_permutes, permuted_length, permuted_each}
use Rattle.layout.proofs.RoundHistory.{At, each_of, of_each, shown, triangle, ToldFound, AllFound, IsFound, none_pending}
use Rattle.layout.proofs.ChainLaws.{among_at, among_each, first_left}
use Rattle.layout.proofs.ResolveLaws.{RoundsRefused, by_turn, by_end, all_end}

-- ---- values

-- an expression's value is within 64 signed bits
abbrev pub ValueFits : Evaluated → Type 0
ValueFits (Ok (Some z)) = in64 z ≡ true
ValueFits (Ok None) = Unit
ValueFits (Err n) = Unit

on_fit_lem : (y : ℤ) (f : ℤ → Evaluated) → ((z : ℤ) → in64 z ≡ true → ValueFits (f z)) → ValueFits (on_fit (fit64 y) f)
on_fit_lem y f g = by (fit64 y) refl
  where
    by : (o : Option ℤ) → fit64 y ≡ o → ValueFits (on_fit o f)
    by None e = tt
    by (Some z) e = g z (fit_in64 y z e)

add_term_lem : (sum : ℤ) (joining own : Bool) (y : ℤ) (f : ℤ → Evaluated) → ((z : ℤ) → in64 z ≡ true → ValueFits (f z))
    → ValueFits (add_term sum joining own y f)
add_term_lem sum joining own y f g = on_fit_lem (sign_times own y) _ (λ p h. on_fit_lem (sign_times joining p) _ (λ q i. on_fit_lem (sum +ℤ q) f g))

sum_fits : (look : List ℕ → Option ℤ) (here sum : ℤ) (w : Wanted) (ts : List Token) → in64 sum ≡ true → ValueFits (sum_from look here sum w ts)
unfolding sum_from
sum_fits look here sum (term joining own) [] h = tt
sum_fits look here sum joint [] h = h
sum_fits look here sum (term joining own) (plus ∷ ts) h = sum_fits look here sum (term joining own) ts h
sum_fits look here sum (term joining own) (minus ∷ ts) h = sum_fits look here sum (term joining (not own)) ts h
sum_fits look here sum (term joining own) (dot ∷ ts) h = add_term_lem sum joining own here _ (λ z. sum_fits look here z joint ts)
sum_fits look here sum (term joining own) (number v ∷ ts) h = add_term_lem sum joining own v _ (λ z. sum_fits look here z joint ts)
sum_fits look here sum (term joining own) (name n ∷ ts) h = by (look n) (λ z. sum_fits look here z joint ts)
  where
    by : (o : Option ℤ) → ((z : ℤ) → in64 z ≡ true → ValueFits (sum_from look here z joint ts))
        → ValueFits (on_name o (λ v. add_term sum joining own v (λ z. sum_from look here z joint ts)))
    by None g = tt
    by (Some v) g = add_term_lem sum joining own v _ g
sum_fits look here sum (term joining own) (unreadable ∷ ts) h = tt
sum_fits look here sum joint (plus ∷ ts) h = sum_fits look here sum (term positive positive) ts h
sum_fits look here sum joint (minus ∷ ts) h = sum_fits look here sum (term negative positive) ts h
sum_fits look here sum joint (dot ∷ ts) h = tt
sum_fits look here sum joint (number v ∷ ts) h = tt
sum_fits look here sum joint (name n ∷ ts) h = tt
sum_fits look here sum joint (unreadable ∷ ts) h = tt

pub evaluate_fits : (look : List ℕ → Option ℤ) (here : ℤ) (s : List ℕ) → ValueFits (evaluate look here s)
unfolding evaluate
evaluate_fits look here s = by (any_unreadable (tokens s))
  where
    by : (c : Bool) → ValueFits (cond c (Err 16) (sum_from look here (pos 0) (term positive positive) (tokens s)))
    by true = tt
    by false = sum_fits look here (pos 0) (term positive positive) (tokens s) refl

pub turn_fits : (base : ℕ) (σ : State) (ks : List Known) (e : Equate) → ValueFits (turn base σ ks e)
unfolding turn
turn_fits base σ ks e = by (is_label e.name.bytes σ.labels) (is_some (constant ks e.name.bytes))
  where
    v : Evaluated
    v = evaluate (look base σ ks) (pos (address_at base σ e.place)) (expr_text e.expr)

    by : (a b : Bool) → ValueFits (elim a [ true ↦ Err 14 | false ↦ elim b [ true ↦ Err 15 | false ↦ v ] ])
    by true b = tt
    by false true = tt
    by false false = evaluate_fits (look base σ ks) (pos (address_at base σ e.place)) (expr_text e.expr)

-- ---- records

-- of an equate among n
pub record EquateAtFits (t : List ℕ) (n : ℕ) (e : EquateAt) : Type 0 where
  pub name : Inside t e.name
  pub line : e.line < length t
  pub value : in64 e.value ≡ true
  pub from : 1 ≤ e.round
  pub to : e.round ≤ n

-- of an item whose first word is among n
pub record ItemAtFits (t : List ℕ) (n : ℕ) (i : ItemAt) : Type 0 where
  pub address : i.address < 2 ^ 32
  pub line : i.line < length t
  pub kind : i.kind ≤ 9
  pub first : i.first < n
  pub source : Inside t i.source

module _ (t : List ℕ) where
  -- a refusal at a line of the text
  abbrev pub InText : Refusal → Type 0
  InText r = r.line < length t

  -- filling in the label words leaves the data's length
  pub fill_fits : (look : List ℕ → Option ℕ) (ws : List LabelWord) (n : ℕ) (bytes : List ℕ) → length bytes ≡ n → Each (LabelWordFits t n) ws
      → Comes (λ bs. length bs ≡ n) InText (fill look ws bytes)
  unfolding fill
  fill_fits look [] n bytes e g = e
  fill_fits look (w ∷ ws) n bytes e g =
      and_then_comes (λ bs. length bs ≡ n) (λ bs. length bs ≡ n) InText (at_line w.line (fill_one (look w.name) w bytes)) (fill look ws)
      (by (look w.name)) (λ bs i. fill_fits look ws n bs i g.1)
    where
      by : (o : Option ℕ) → Comes (λ bs. length bs ≡ n) InText (at_line w.line (fill_one o w bytes))
      by None = g.0.line
      by (Some a) = length-put w.at (little_endian 4 a) bytes (omega (arith, length-little_endian 4 a, e, g.0.place)) ∙ e

  -- m words, and the items' records, where is were there before
  pub record EmitsFit (m : ℕ) (xs : List ItemLine) (is : List ItemAt) (x : Emitted) : Type 0 where
    pub sized : length x.words ≡ m
    pub words : Each IsWord x.words
    pub count : length x.items ≡ length is + length xs
    pub items : Each (ItemAtFits t (length x.words)) x.items

  module _ (base : ℕ) (low : base ≤ base_limit) (const : List ℕ → Option ℤ) (label : List ℕ → Option ℕ) where
    pub emit_fits : (m : ℕ) (xs : List ItemLine) (ws : List ℕ) (is : List ItemAt) → Consecutive (length ws) xs m → Each (ItemFits t) xs
        → Each IsWord ws → Each (ItemAtFits t (length ws)) is → Comes (EmitsFit m xs is) InText (emit base const label xs ws is)
    unfolding emit
    emit_fits m [] ws is c g h i = record { sized = c; words = h; count = omega arith; items = i }
    emit_fits m (x ∷ xs) ws is c g h i =
        and_then_comes (WordsFit x.item s) (EmitsFit m (x ∷ xs) is) InText (at_line x.line (emission const label x.item s))
        (λ vs. emit base const label xs (ws ++ vs) is')
        (line_fits (emission const label x.item s) (emission_fits const label x.item s))
        (λ vs f. comes_so (EmitsFit m xs is') (EmitsFit m (x ∷ xs) is) InText InText more (λ r q. q) (emit base const label xs (ws ++ vs) is')
        (emit_fits m xs (ws ++ vs) is' (consecutive_next (length ws) (length (ws ++ vs)) x xs m (omega (arith, length-append ws vs, f.0)) c) g.1
        (each_append IsWord ws vs h f.1) (each vs f)))
      where
        s : List ℕ
        s = x.source.bytes

        y : ItemAt
        y = item_at base x (length ws)

        is' : List ItemAt
        is' = is ++ y ∷ []

        line_fits : (e : Result (List ℕ) ℕ) → Comes (WordsFit x.item s) PseudoRefusal e
            → Comes (WordsFit x.item s) InText (at_line x.line e)
        line_fits (Ok vs) f = f
        line_fits (Err n) f = g.0.line

        each : (vs : List ℕ) → WordsFit x.item s vs → Each (ItemAtFits t (length (ws ++ vs))) is'
        each vs f =
            let longer : length (ws ++ vs) ≡ length ws + length vs = length-append ws vs in
            let old = each_weaker (ItemAtFits t (length ws)) (ItemAtFits t (length (ws ++ vs)))
            (λ j q. record {
              address = q.address;
              line = q.line;
              kind = q.kind;
              first = rw longer (omega (arith, q.first));
              source = q.source;
            }) is i in
            each_append (ItemAtFits t (length (ws ++ vs))) is (y ∷ []) old (
              record {
                address = omega (arith, low, g.0.place);
                line = g.0.line;
                kind = kind_small x.item;
                first = rw longer (omega (arith, f.0, (words_few x.item s).0));
                source = g.0.source;
              },
              tt,
            )

        more : (z : Emitted) → EmitsFit m xs is' z → EmitsFit m (x ∷ xs) is z
        more z q = record { sized = q.sized; words = q.words; count = omega (arith, q.count, length-append is (y ∷ [])); items = q.items }

-- every address is below 2^32
pub place_below : (base : ℕ) (σ : State) (p : Place) → base ≤ base_limit → length σ.rest.own.stored.bytes ≤ data_limit → PlaceFits p
    → address_at base σ p < 2 ^ 32
place_below base σ p low short h = by p.section h
  where
    by : (s : Section) → p.offset ≤ section_limit s → section_start base σ s + p.offset < 2 ^ 32
    by section.Text h = omega arith
    by section.Data h = omega arith
    by section.Bss h = omega arith

-- so each label fits its record with its address too
pub placed_fit : (t : List ℕ) (base : ℕ) (σ : State) → base ≤ base_limit → length σ.rest.own.stored.bytes ≤ data_limit
    → (l : Label) → LabelFits t l → LabelAtFits t (placed base σ l)
placed_fit t base σ low short l g = record { name = g.name; address = place_below base σ l.place low short g.place; line = g.line }

-- ---- the equates' records

pub found_length : (ks : List Known) → Each IsFound ks → length (found_equates ks) ≡ length ks
unfolding found_equates
found_length [] r = refl
found_length (k ∷ ks) r = rw r.0.1 (ap suc (found_length ks r.1))

module _ (t : List ℕ) (base : ℕ) (σ : State) (n : ℕ) where
  -- a value of 64 signed bits, found in a round from 1 to n
  record ValueIn (k : Known) : Type 0 where
    found : Found
    is : k.found ≡ Some found
    from : 1 ≤ found.round
    to : found.round ≤ n
    value : in64 found.value ≡ true

  values_in : (es : List Equate) (x : Turns) → length es ≤ n → AllFound (turn base σ) es x.known x.evaluations → Each ValueIn x.known
  values_in es x h a =
      each_of ValueIn x.known (λ i k p. by i k p (of_each IsFound (none_pending x.known a.found) p))
    where
      by : (i : ℕ) (k : Known) → At x.known i k → IsFound k → ValueIn k
      by i k p f =
          let d : ToldFound (turn base σ) a.last x.known i k.equate f.0 = rw f.1 at (a.history i k p) in
          record {
            found = f.0;
            is = f.1;
            from = d.from;
            to = omega (arith, d.to, a.few);
            value = rw d.gave at (turn_fits base σ (shown f.0.round i 0 x.known) k.equate);
          }

  found_fits : (ks : List Known) → Each (λ k. EquateFits t k.equate) ks → Each ValueIn ks → Each (EquateAtFits t n) (found_equates ks)
  unfolding found_equates
  found_fits [] g r = tt
  found_fits (k ∷ ks) g r =
      rw r.0.is (
        record { name = g.0.name; line = g.0.line; value = r.0.value; from = r.0.from; to = r.0.to },
        found_fits ks g.1 r.1,
      )

-- ---- the whole layout

-- an accepted layout fits what is lent, and each of its fields its bytes
pub record LayoutFits (t : List ℕ) (k : Lent) (l : Layout) : Type 0 where
  pub text : length t ≤ text_limit
  pub words : length l.words ≤ (room_of k).words
  pub each_word : Each IsWord l.words
  pub data_bytes : length l.data_bytes ≤ (room_of k).bytes
  pub bss_size : l.bss_size ≤ bss_limit
  pub memory : l.data_base + length l.data_bytes + l.bss_size < 2 ^ 32
  pub labels : length l.labels ≤ (room_of k).labels
  pub each_label : Each (LabelAtFits t) l.labels
  pub equates : length l.equates ≤ (room_of k).equates
  pub each_equate : Each (EquateAtFits t (length l.equates)) l.equates
  pub items : length l.items ≤ (room_of k).items
  pub each_item : Each (ItemAtFits t (length l.words)) l.items
  pub evaluations : l.evaluations ≤ triangle (length l.equates)

-- and a refusal's line is at most the text's length, and at most 65,536
abbrev pub LineFits : List ℕ → Refusal → Type 0
LineFits t r = r.line ≤ min text_limit (length t)

module _ (t : List ℕ) (short : length t ≤ text_limit) (base : ℕ) (low : base ≤ base_limit) (k : Lent) where
  module _ (σ : State) (f : Fits t (room_of k) σ) where
    labels_fit : Each (LabelAtFits t) (map (placed base σ) σ.labels)
    labels_fit =
        each_map (LabelFits t) (LabelAtFits t) (placed base σ) (placed_fit t base σ low (omega (arith, f.rest.own.stored.room))) σ.labels
        f.labels.each

    accepted_fits : (bytes : List ℕ) → length bytes ≡ length σ.rest.own.stored.bytes
        → (x : Turns) → AllFound (turn base σ) σ.rest.equates x.known x.evaluations
        → (e : Emitted) → EmitsFit t σ.rest.own.items.words σ.rest.own.items.list [] e → LayoutFits t k (layout base σ bytes x e)
    accepted_fits bytes b x d e g =
        record {
          text = short;
          words = rw g.sized f.rest.own.items.room;
          each_word = g.words;
          data_bytes = rw b f.rest.own.stored.room;
          bss_size = f.rest.own.bss;
          memory = rw b (omega (arith, low, f.rest.own.stored.room, f.rest.own.bss));
          labels = rw (permuted_length permuted, length-map σ.labels (placed base σ)) f.labels.few;
          each_label = permuted_each (LabelAtFits t) permuted labels_fit;
          equates = rw count f.rest.equates.few;
          each_equate = rw count (found_fits t base σ (length es) x.known each (values_in t base σ (length es) es x (omega arith) d));
          items = omega (arith, g.count, f.rest.own.items.few);
          each_item = g.items;
          evaluations = rw count d.bound;
        }
      where
        es : List Equate
        es = σ.rest.equates

        permuted : Permᴰ (ordered (map (placed base σ) σ.labels)) (map (placed base σ) σ.labels)
        permuted = ordered_permutes (map (placed base σ) σ.labels)

        each : Each (λ y. EquateFits t y.equate) x.known
        each = each_mapped (EquateFits t) (λ y. y.equate) x.known (rw d.equates f.rest.equates.each)

        count : length (found_equates x.known) ≡ length es
        count =
            found_length x.known (none_pending x.known d.found) ∙ sym (length-map x.known (λ y. y.equate)) ∙ ap length d.equates

    -- a refusal of the rounds stands at an equate's line
    rounds_line : (r : Refusal) → RoundsRefused base σ σ.rest.equates r → InText t r
    rounds_line r (by_turn x) = omega (arith, x.line, (among_each (EquateFits t) f.rest.equates.each x.among).line)
    rounds_line r (by_end n s) =
        let p = first_left s.left s.pending in
        let m : Among p.1.equate σ.rest.equates = rw s.equates at (among_at p.2) in
        omega (arith, s.is, p.4, (among_each (EquateFits t) f.rest.equates.each m).line)

    pub after_lines_fits : Comes (LayoutFits t k) (InText t) (after_lines base σ)
    unfolding after_lines
    after_lines_fits =
        let own = σ.rest.own in
        let es = σ.rest.equates in
        let label = label_address base σ in
        let n = length own.stored.bytes in
        let all : List ℕ → Turns → Emitted → Layout = layout base σ in
        let found_all : Turns → Type 0 = λ x. AllFound (turn base σ) es x.known x.evaluations in
        let emitting : Turns → Result Emitted Refusal = λ x. emit base (constant x.known) label own.items.list [] [] in
        and_then_comes (λ bs. length bs ≡ n) (LayoutFits t k) (InText t) (fill label own.stored.label_words own.stored.bytes)
        (λ bytes. and_then (resolve base σ es) (λ x. and_then (emitting x) (λ e. Ok (all bytes x e))))
        (fill_fits t label own.stored.label_words n own.stored.bytes refl f.rest.own.stored.each) (λ bytes b.
        and_then_comes found_all (LayoutFits t k) (InText t) (resolve base σ es) (λ x. and_then (emitting x) (λ e. Ok (all bytes x e)))
        (comes_so found_all found_all (RoundsRefused base σ es) (InText t) (λ x d. d) rounds_line (resolve base σ es) (all_end base σ es)) (λ x d.
        and_then_comes (EmitsFit t own.items.words own.items.list []) (LayoutFits t k) (InText t) (emitting x) (λ e. Ok (all bytes x e))
        (emit_fits t base low (constant x.known) label own.items.words own.items.list [] [] f.rest.own.items.consecutive
        f.rest.own.items.each tt tt)
        (accepted_fits bytes b x d)))

-- a byte above 127 stands in a line of the text
check_bytes_lem : (line : ℕ) (bs : List ℕ) → Comes (λ _. Unit) (λ r. r.line < line + length bs) (check_bytes line bs)
unfolding check_bytes
check_bytes_lem line [] = tt
check_bytes_lem line (b ∷ bs) = by (ltb 127 b) (eqb b 10) (λ l. check_bytes_lem l bs)
  where
    Below : ℕ → Refusal → Type 0
    Below n r = r.line < n

    by : (c d : Bool) → ((l : ℕ) → Comes (λ _. Unit) (Below (l + length bs)) (check_bytes l bs))
        → Comes {A = Unit} (λ _. Unit) (Below (line + suc (length bs)))
        (elim c [ true ↦ Err (record { number = 1; line = line }) | false ↦ check_bytes (cond d (suc line) line) bs ])
    by true d more = omega arith
    by false d more =
        let l = cond d (suc line) line in
        comes_so (λ _. Unit) (λ _. Unit) (Below (l + length bs)) (Below (line + suc (length bs))) (λ a u. u) (λ r q. omega (arith, q, next d))
        (check_bytes l bs) (more l)
      where
        next : (d : Bool) → cond d (suc line) line ≤ suc line
        next true = omega arith
        next false = omega arith

refuse_if_lem : (Q : Refusal → Type 0) (c : Bool) (n line : ℕ) → Q (record { number = n; line = line }) → Comes (λ _. c ≡ false) Q (refuse_if c n line)
refuse_if_lem Q true n line q = q
refuse_if_lem Q false n line q = refl

-- every layout does
pub layout_fits : (t : List ℕ) (base : ℕ) (k : Lent) → Comes (LayoutFits t k) (LineFits t) (layout_of t base k)
unfolding layout_of
layout_fits t base k =
    and_then_comes (λ _. ltb base_limit base ≡ false) (LayoutFits t k) (LineFits t) (refuse_if (ltb base_limit base) 40 0)
    (λ _. and_then (refuse_if (ltb text_limit (length t)) 41 0) (λ _. reading))
    (refuse_if_lem (LineFits t) (ltb base_limit base) 40 0 (omega arith)) (λ _ low.
    and_then_comes (λ _. ltb text_limit (length t) ≡ false) (LayoutFits t k) (LineFits t) (refuse_if (ltb text_limit (length t)) 41 0) (λ _. reading)
    (refuse_if_lem (LineFits t) (ltb text_limit (length t)) 41 0 (omega arith)) (λ _ short.
    comes_so (LayoutFits t k) (LayoutFits t k) (InText t) (LineFits t) (λ l q. q)
    (λ r q. omega (arith, q, ltb-false text_limit (length t) short)) reading
    (and_then_comes (λ _. Unit) (LayoutFits t k) (InText t) (check_bytes 0 t) (λ _. staged) (rw (zero-add (length t)) at (check_bytes_lem 0 t)) (λ _ u.
    and_then_comes (Fits t (room_of k)) (LayoutFits t k) (InText t) (line_stage (room_of k) 0 (line_pieces 0 (lines t)) start) (after_lines base)
    (stage_fits t k) (λ σ f. after_lines_fits t (ltb-false text_limit (length t) short) base (ltb-false base_limit base low) k σ f)))))
  where
    staged : Result Layout Refusal
    staged = and_then (line_stage (room_of k) 0 (line_pieces 0 (lines t)) start) (after_lines base)

    reading : Result Layout Refusal
    reading = and_then (check_bytes 0 t) (λ _. staged)

-- ---- the records' fields

-- a field's number fits its bytes
abbrev pub FieldsFit : List RecordField → Type 0
FieldsFit fs = Each (λ f. f.number < 256 ^ f.width) fs

-- a value of 64 signed bits fits eight bytes
pub bits_below : (z : ℤ) → in64 z ≡ true → bits 64 z < 256 ^ 8
bits_below (pos n) e = let h : n ≤ 2 ^ 63 - 1 = leb-true n _ e in omega arith
bits_below (negsuc n) e = omega arith

-- and is read back from its bits
pub signed_back : (z : ℤ) → in64 z ≡ true → signed_of 64 (bits 64 z) ≡ z
signed_back (pos n) e =
    let h = leb-true n 9223372036854775807 e in
    rw (lt-ltb n (2 ^ 63) (omega arith)) refl
signed_back (negsuc n) e =
    let h = leb-true n 9223372036854775807 (and_left (leb n 9223372036854775807) true e) in
    rw (le-ltb (18446744073709551616 - suc n) (2 ^ 63) (omega arith)) (ap negsuc (omega arith))

-- of every record
pub record RecordsFit (l : Layout) : Type 0 where
  pub labels : Each (λ x. FieldsFit (label_row x)) l.labels
  pub equates : Each (λ x. FieldsFit (equate_row x)) l.equates
  pub items : Each (λ x. FieldsFit (item_row x)) l.items

pub records_fit : (t : List ℕ) (k : Lent) (l : Layout) → LayoutFits t k l → RecordsFit l
records_fit t k l f =
    record {
      labels = each_weaker (LabelAtFits t) _ (λ x g.
          omega (arith, f.text, g.name.within) and omega (arith, f.text, g.name.within) and omega (arith, g.address)
          and omega (arith, f.text, g.line) and tt) l.labels f.each_label;
      equates = each_weaker (EquateAtFits t (length l.equates)) _ (λ x g.
          omega (arith, f.text, g.name.within) and omega (arith, f.text, g.name.within) and omega (arith, f.text, g.line)
          and bits_below x.value g.value and omega (arith, f.equates, g.to) and tt) l.equates f.each_equate;
      items = each_weaker (ItemAtFits t (length l.words)) _ (λ x g.
          omega (arith, g.address) and omega (arith, f.text, g.line) and omega (arith, g.kind) and omega (arith, f.words, g.first)
          and omega (arith, f.text, g.source.within) and omega (arith, f.text, g.source.within) and tt) l.items f.each_item;
    }

-- ---- the whole answer

-- every count within its room, and what is in memory below 2^32
pub record CountsFit (k : Lent) (c : Counts) : Type 0 where
  pub words : c.words ≤ (room_of k).words
  pub data_bytes : c.data_bytes ≤ (room_of k).bytes
  pub bss_size : c.bss_size ≤ bss_limit
  pub memory : c.data_base + c.data_bytes + c.bss_size < 2 ^ 32
  pub labels : c.labels ≤ (room_of k).labels
  pub equates : c.equates ≤ (room_of k).equates
  pub items : c.items ≤ (room_of k).items
  pub evaluations : c.evaluations ≤ triangle c.equates

-- every buffer as long as it was lent
pub record BuffersFit (k : Lent) (b : Buffers) : Type 0 where
  pub words : length b.words ≡ k.words
  pub data_bytes : length b.data_bytes ≡ k.data_bytes
  pub labels : length b.labels ≡ k.label_bytes
  pub equates : length b.equates ≡ k.equate_bytes
  pub items : length b.items ≡ k.item_bytes

pub record AnswerFits (t : List ℕ) (k : Lent) (a : Answer) : Type 0 where
  pub line : a.line ≤ min text_limit (length t)
  pub counts : CountsFit k a.counts
  pub buffers : BuffersFit k a.buffers

-- of every call
pub answer_fits : (t : List ℕ) (base : ℕ) (k : Lent) → AnswerFits t k (call_of t base k)
unfolding little_endian field_bytes
answer_fits t base k = by (layout_of t base k) (layout_fits t base k)
  where
    by : (o : Result Layout Refusal) → Comes (LayoutFits t k) (LineFits t) o → AnswerFits t k (answer_of k o)
    by (Ok l) f =
        record {
          line = omega arith;
          counts = record {
            words = f.words;
            data_bytes = f.data_bytes;
            bss_size = f.bss_size;
            memory = f.memory;
            labels = f.labels;
            equates = f.equates;
            items = f.items;
            evaluations = f.evaluations;
          };
          buffers = record {
            words = length-padded k.words l.words (omega (arith, f.words));
            data_bytes = length-padded k.data_bytes l.data_bytes (omega (arith, f.data_bytes));
            labels = table_length label_row label_size (λ x. refl) k.label_bytes l.labels (omega (arith, f.labels));
            equates = table_length equate_row equate_size (λ x. refl) k.equate_bytes l.equates (omega (arith, f.equates));
            items = table_length item_row item_size (λ x. refl) k.item_bytes l.items (omega (arith, f.items));
          };
        }
    by (Err r) f =
        record {
          line = f;
          counts = record {
            words = omega arith;
            data_bytes = omega arith;
            bss_size = omega arith;
            memory = omega arith;
            labels = omega arith;
            equates = omega arith;
            items = omega arith;
            evaluations = omega arith;
          };
          buffers = record {
            words = length-replicate k.words 0;
            data_bytes = length-replicate k.data_bytes 0;
            labels = length-replicate k.label_bytes 0;
            equates = length-replicate k.equate_bytes 0;
            items = length-replicate k.item_bytes 0;
          };
        }

-- each lent buffer keeps its length: what is written never goes beyond it
pub buffers_fit : (t : List ℕ) (base : ℕ) (k : Lent) → BuffersFit k (call_of t base k).buffers
buffers_fit t base k = (answer_fits t base k).buffers
