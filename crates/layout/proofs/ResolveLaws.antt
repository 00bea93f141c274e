-- The layout's own rounds: what an equate's turn says, that the rounds leave a history, and that a value is the signed sum at the end.
use Prim.Native.Nat.{ℕ, zero, suc, ◌+◌, ◌≤◌, ◌<◌}
use mathlib.Core.Path.{◌≡◌, refl, sym, ◌∙◌, ap}
use mathlib.Core.Logic.{◌⊎◌, inl, inr}
use mathlib.Core.List.{List, [], ◌∷◌, ◌++◌, map, append-nil, append_assoc}
use mathlib.Core.Bool.{Bool, true, false, ◌||◌, true≢false}
use Rattle.std.proofs.Common.{Option, None, Some}
use native.Mathlib.Omega.{arith}
use lib.Dec.{eqb}
use lib.IntN.{ℤ, pos}
use lib.ListN.{length}
use borrow.Author.Tests.{eqb-true, eqb-false}
use Rattle.std.proofs.Common.{Result, Ok, Err}
use Rattle.numbers.specs.Results.{and_then}
use Rattle.numbers.specs.Text.{same}
use Rattle.numbers.proofs.Bools.{none-some}
use Rattle.layout.specs.Refusals.{Refusal, at_line, is_in, turn_numbers}
use Rattle.layout.specs.Statements.{expr_text}
use Rattle.layout.specs.Expressions.{Evaluated, evaluate, positive, term, tokens}
use Rattle.layout.specs.State.{Label, Equate, State}
use Rattle.layout.specs.Stage.{is_label}
use Rattle.layout.specs.Addresses.{address_at, address_in, label_address}
use Rattle.layout.specs.Rounds.{Found, Known, pending_equate, or_else, constant, as_number, look, is_some, turn, Turns, turns, after_turn, pass_one}
use Rattle.layout.specs.Rounds.{pass, pending_count, unresolved, rounds}
use Rattle.layout.specs.Layouts.{resolve}
use Rattle.layout.specs.Terms.{Term, terms_of, signed_sum}
use Rattle.layout.specs.Chains.{Among, first, later, name_of}
use Rattle.layout.proofs.ResultLaws.{value-refused, refused-same}
use Rattle.layout.proofs.Gives.{Comes, comes_so, and_then_comes}
use Rattle.layout.proofs.SumLaws.{SaidOf, Summed, Waits, evaluated_says, summed_whole, sum_more}
use Rattle.layout.proofs.RoundHistory.{At, shown, pending_all, equates_all, triangle, triangle_more, given, spent, start_spent, RoundTurns, no_more, kept, gained, waiting, steps_equates}
use Rattle.layout.proofs.RoundHistory.{steps_fewer, steps_spent, steps_still, History, history_low, history_start, history_next, AllFound, Stuck}
use Rattle.layout.proofs.RoundLaws.{none-all, some_one, seen_some, Free, Has, Evaluator, told, found_free, same_one}

-- ---- labels by address

pub no_label_address : (base : ℕ) (σ : State) (ls : List Label) (n : List ℕ) → is_label n ls ≡ false → address_in base σ ls n ≡ None
unfolding address_in is_label
no_label_address base σ [] n e = refl
no_label_address base σ (l ∷ ls) n e = by (same l.name.bytes n) e (no_label_address base σ ls n)
  where
    by : (c : Bool) → c || is_label n ls ≡ false → (is_label n ls ≡ false → address_in base σ ls n ≡ None)
        → ◌≡◌ {A = Option ℕ} (elim c [ true ↦ Some (address_at base σ l.place) | false ↦ address_in base σ ls n ]) None
    by true e more = absurd (true≢false e)
    by false e more = more e

an_address : (base : ℕ) (σ : State) (ls : List Label) (n : List ℕ) → is_label n ls ≡ true → address_in base σ ls n ≡ None → ⊥
unfolding address_in is_label
an_address base σ [] n e q = true≢false (sym e)
an_address base σ (l ∷ ls) n e q = by (same l.name.bytes n) e q (an_address base σ ls n)
  where
    by : (c : Bool) → c || is_label n ls ≡ true
        → ◌≡◌ {A = Option ℕ} (elim c [ true ↦ Some (address_at base σ l.place) | false ↦ address_in base σ ls n ]) None
        → (is_label n ls ≡ true → address_in base σ ls n ≡ None → ⊥) → ⊥
    by true e q more = none-some (sym q)
    by false e q more = more e q

-- a name with an address is a label, one without is none
pub label_is : (base : ℕ) (σ : State) (n : List ℕ) (a : ℕ) → label_address base σ n ≡ Some a → is_label n σ.labels ≡ true
label_is base σ n a e = by (is_label n σ.labels) refl
  where
    by : (c : Bool) → is_label n σ.labels ≡ c → is_label n σ.labels ≡ true
    by true q = q
    by false q = absurd (none-some (sym (no_label_address base σ σ.labels n q) ∙ e))

label-not : (base : ℕ) (σ : State) (n : List ℕ) → label_address base σ n ≡ None → is_label n σ.labels ≡ false
label-not base σ n e = by (is_label n σ.labels) refl
  where
    by : (c : Bool) → is_label n σ.labels ≡ c → is_label n σ.labels ≡ false
    by true q = absurd (an_address base σ σ.labels n q e)
    by false q = q

-- ---- a turn

module _ (base : ℕ) (σ : State) where
  abbrev pub own_address_of : Equate → ℤ
  own_address_of e = pos (address_at base σ e.place)

  -- its evaluation, where the name is no label and has no value yet
  pub record Tried (S : List Known) (e : Equate) (v : Evaluated) : Type 0 where
    pub free : Free σ S e
    pub evaluated : evaluate (look base σ S) (own_address_of e) (expr_text e.expr) ≡ v

  -- or 14 or 15
  pub data TurnSays (S : List Known) (e : Equate) (v : Evaluated) : Type 0 where
    named-label : v ≡ Err 14 → is_label (name_of e) σ.labels ≡ true → TurnSays S e v
    named_again : v ≡ Err 15 → (constant S (name_of e) ≡ None → ⊥) → TurnSays S e v
    tries : Tried S e v → TurnSays S e v

  pub turn-says : (S : List Known) (e : Equate) (v : Evaluated) → turn base σ S e ≡ v → TurnSays S e v
  unfolding turn
  turn-says S e v q = by (is_label (name_of e) σ.labels) refl (constant S (name_of e)) refl q
    where
      x : Evaluated
      x = evaluate (look base σ S) (own_address_of e) (expr_text e.expr)

      by : (c : Bool) → is_label (name_of e) σ.labels ≡ c → (o : Option ℤ) → constant S (name_of e) ≡ o
          → elim c [ true ↦ Err 14 | false ↦ elim (is_some o) [ true ↦ Err 15 | false ↦ x ] ] ≡ v → TurnSays S e v
      by true p o r q = named-label (sym q) p
      by false p None r q = tries (record { free = record { no_label = p; fresh = r }; evaluated = q })
      by false p (Some z) r q = named_again (sym q) (λ n. none-some (sym n ∙ r))

  -- a turn that gives a value or waits is an evaluation
  pub tried : (S : List Known) (e : Equate) (o : Option ℤ) → turn base σ S e ≡ Ok o → Tried S e (Ok o)
  tried S e o q = by (turn-says S e (Ok o) q)
    where
      by : TurnSays S e (Ok o) → Tried S e (Ok o)
      by (named-label p l) = absurd (value-refused p)
      by (named_again p l) = absurd (value-refused p)
      by (tries t) = t

  -- what the evaluation of an expression says
  abbrev TurnSaid : List Known → Equate → Evaluated → Type 0
  TurnSaid S e v = SaidOf (look base σ S) (own_address_of e) (pos 0) (term positive positive) (tokens (expr_text e.expr)) v

  -- of a value
  abbrev pub Sums : List Known → Equate → ℤ → Type 0
  Sums S e z = Summed (look base σ S) (own_address_of e) (pos 0) (term positive positive) (tokens (expr_text e.expr)) z

  pub turn_said : (S : List Known) (e : Equate) (v : Evaluated) → Tried S e v → TurnSaid S e v
  turn_said S e v t = rw t.evaluated at (evaluated_says (look base σ S) (own_address_of e) (expr_text e.expr))

  -- a turn's refusal is one of its own
  pub turn_numbered : (S : List Known) (e : Equate) (m : ℕ) → turn base σ S e ≡ Err m → is_in turn_numbers m ≡ true
  turn_numbered S e m q = by (turn-says S e (Err m) q)
    where
      by : TurnSays S e (Err m) → is_in turn_numbers m ≡ true
      by (named-label p l) = ap (is_in turn_numbers) (refused-same p)
      by (named_again p l) = ap (is_in turn_numbers) (refused-same p)
      by (tries t) = last (turn_said S e (Err m) t)
        where
          last : TurnSaid S e (Err m) → is_in turn_numbers m ≡ true
          last (inl p) = ap (is_in turn_numbers) p.0
          last (inr p) = ap (is_in turn_numbers) p

  -- what is looked up has a value
  looked : (S : List Known) (n : List ℕ) (z : ℤ) → look base σ S n ≡ Some z
      → (constant S n ≡ Some z) ⊎ ((a : ℕ) × (label_address base σ n ≡ Some a) × (pos a ≡ z))
  looked S n z e = by (constant S n) refl (label_address base σ n) refl e
    where
      by : (o : Option ℤ) → constant S n ≡ o → (p : Option ℕ) → label_address base σ n ≡ p → or_else o (as_number p) ≡ Some z
          → (constant S n ≡ Some z) ⊎ ((a : ℕ) × (label_address base σ n ≡ Some a) × (pos a ≡ z))
      by (Some y) u p w e = inl (u ∙ e)
      by None u None w e = absurd (none-some e)
      by None u (Some a) w e = inr (a, w, cc)

  looked_has : (S : List Known) (n : List ℕ) (z : ℤ) → look base σ S n ≡ Some z → Has σ S n
  looked_has S n z e = by (looked S n z e)
    where
      by : (constant S n ≡ Some z) ⊎ ((a : ℕ) × (label_address base σ n ≡ Some a) × (pos a ≡ z)) → Has σ S n
      by (inl u) = inl (z, u)
      by (inr l) = inr (label_is base σ n l.0 l.1)

  looked_none : (S : List Known) (n : List ℕ) → look base σ S n ≡ None → (constant S n ≡ None) × (is_label n σ.labels ≡ false)
  looked_none S n e = by (constant S n) refl (label_address base σ n) refl e
    where
      by : (o : Option ℤ) → constant S n ≡ o → (p : Option ℕ) → label_address base σ n ≡ p → or_else o (as_number p) ≡ None
          → (constant S n ≡ None) × (is_label n σ.labels ≡ false)
      by None u None w e = (u, label-not base σ n w)
      by None u (Some a) w e = absurd (none-some (sym e))
      by (Some z) u p w e = absurd (none-some (sym e))

  -- the layout's evaluator is one of those that RoundLaws.antt speaks of
  pub own_evaluator : Evaluator σ (turn base σ)
  own_evaluator =
      record {
        value_free = λ S e z q. (tried S e (Some z) q).free;
        value_has = λ S e z q n u.
            let s : Sums S e z =
            turn_said S e (Ok (Some z)) (tried S e (Some z) q) in
            let v = s.known n u in
            looked_has S n v.0 v.1;
        wait_free = λ S e q. (tried S e None q).free;
        wait_lacks = λ S e q.
            let s : Waits (look base σ S) (own_address_of e) (tokens (expr_text e.expr)) = turn_said S e (Ok None) (tried S e None q) in
            let b = looked_none S s.lacked s.unknown in
            record { lacked = s.lacked; used = s.used; no_label = b.1; unfound = b.0 };
      }

  -- ---- a round

  -- a refused turn, of one of these equates
  pub record TurnRefused (es : List Equate) (r : Refusal) : Type 0 where
    pub equate : Equate
    pub among : Among equate es
    pub line : equate.line ≡ r.line
    pub seen : List Known
    pub refuses : turn base σ seen equate ≡ Err r.number

  -- what a round leaves, where `done` stands before
  pub record PassIs (r : ℕ) (done ks : List Known) (n : ℕ) (x : Turns) : Type 0 where
    pub after : List Known
    pub are : x.known ≡ done ++ after
    pub steps : RoundTurns (turn base σ) r done ks after
    pub evaluated : x.evaluations ≡ n + pending_count ks

  -- of the first of them
  record FirstIs (r : ℕ) (done : List Known) (k : Known) (ks : List Known) (n : ℕ) (x : Turns) : Type 0 where
    now : Known
    are : x.known ≡ done ++ now ∷ []
    steps : (ls : List Known) → RoundTurns (turn base σ) r (done ++ now ∷ []) ks ls → RoundTurns (turn base σ) r done (k ∷ ks) (now ∷ ls)
    evaluated : x.evaluations + pending_count ks ≡ n + pending_count (k ∷ ks)

  first-is : (r : ℕ) (done : List Known) (k : Known) (ks : List Known) (n : ℕ)
      → Comes (FirstIs r done k ks n) (TurnRefused (map (λ k. k.equate) (k ∷ ks))) (pass_one base σ r done k ks n k.found)
  unfolding pending_count
  first-is r done k ks n = by k.found refl
    where
      es : List Equate
      es = map (λ k. k.equate) (k ∷ ks)

      late : (v : Evaluated) → turn base σ (done ++ k ∷ ks) k.equate ≡ v → k.found ≡ None
          → Comes (FirstIs r done k ks n) (TurnRefused es) (at_line k.equate.line (after_turn r done k.equate n v))
      late (Ok (Some z)) q e = record { now = given k z r; are = refl; steps = λ ls s. gained z e q s; evaluated = rw e (omega arith) }
      late (Ok None) q e = record { now = pending_equate k.equate; are = refl; steps = λ ls s. waiting e q s; evaluated = rw e (omega arith) }
      late (Err m) q e = record { equate = k.equate; among = first; line = refl; seen = done ++ k ∷ ks; refuses = q }

      by : (o : Option Found) → k.found ≡ o → Comes (FirstIs r done k ks n) (TurnRefused es) (pass_one base σ r done k ks n o)
      by (Some f) e = record { now = k; are = refl; steps = λ ls s. kept f e s; evaluated = rw e (omega arith) }
      by None e = late (turn base σ (done ++ k ∷ ks) k.equate) refl e

  later-refused : (e : Equate) (es : List Equate) (r : Refusal) → TurnRefused es r → TurnRefused (e ∷ es) r
  later-refused e es r t = record { equate = t.equate; among = later t.among; line = t.line; seen = t.seen; refuses = t.refuses }

  pub pass-is : (r : ℕ) (done ks : List Known) (n : ℕ) → Comes (PassIs r done ks n) (TurnRefused (map (λ k. k.equate) ks)) (pass base σ r done ks n)
  unfolding pass pending_count
  pass-is r done [] n = record { after = []; are = sym (append-nil done); steps = no_more; evaluated = omega arith }
  pass-is r done (k ∷ ks) n =
      let es = map (λ k. k.equate) ks in
      and_then_comes (FirstIs r done k ks n) (PassIs r done (k ∷ ks) n) (TurnRefused (k.equate ∷ es)) (pass_one base σ r done k ks n k.found)
      (λ x. pass base σ r x.known ks x.evaluations) (first-is r done k ks n) (λ x f.
      comes_so (PassIs r x.known ks x.evaluations) (PassIs r done (k ∷ ks) n) (TurnRefused es) (TurnRefused (k.equate ∷ es))
      (λ y p. record {
        after = f.now ∷ p.after;
        are = p.are ∙ ap (λ ds. ds ++ p.after) f.are ∙ append_assoc done (f.now ∷ []) p.after;
        steps = f.steps p.after (rw f.are at p.steps);
        evaluated = p.evaluated ∙ f.evaluated;
      })
      (later-refused k.equate es) (pass base σ r x.known ks x.evaluations) (pass-is r x.known ks x.evaluations))

  -- ---- the rounds

  -- a refused turn, or a last round that found nothing
  pub data RoundsRefused (es : List Equate) (r : Refusal) : Type 0 where
    by_turn : TurnRefused es r → RoundsRefused es r
    by_end : r.number ≡ 17 → Stuck (turn base σ) es r.line → RoundsRefused es r

  -- or every equate found
  abbrev pub RoundsCome : List Equate → Result Turns Refusal → Type 0
  RoundsCome es x = Comes (λ y. AllFound (turn base σ) es y.known y.evaluations) (RoundsRefused es) x

  pub rounds_end : (es : List Equate) (fuel R : ℕ) (ks : List Known) (n : ℕ) → pending_count ks < fuel → History (turn base σ) R ks
      → map (λ k. k.equate) ks ≡ es → n ≡ spent R ks → R + pending_count ks ≤ length es → n + triangle (pending_count ks) ≤ triangle (length es)
      → RoundsCome es (rounds base σ fuel (suc R) ks n)
  unfolding rounds
  rounds_end es zero R ks n h H m s i j = absurd (omega arith)
  rounds_end es (suc fuel) R ks n h H m s i j =
      by (eqb (pending_count ks) 0) refl (pass base σ (suc R) [] ks n) (pass-is (suc R) [] ks n) (rounds_end es fuel (suc R))
    where
      More : Type 0
      More = (ls : List Known) (m : ℕ) → pending_count ls < fuel → History (turn base σ) (suc R) ls → map (λ k. k.equate) ls ≡ es
          → m ≡ spent (suc R) ls → suc R + pending_count ls ≤ length es → m + triangle (pending_count ls) ≤ triangle (length es)
          → RoundsCome es (rounds base σ fuel (suc (suc R)) ls m)

      next : (x : Turns) (c : Bool) → eqb (pending_count x.known) (pending_count ks) ≡ c → (pending_count ks ≡ 0 → ⊥)
          → RoundTurns (turn base σ) (suc R) [] ks x.known → x.evaluations ≡ n + pending_count ks → More
          → RoundsCome es (elim c [ true ↦ Err (unresolved x.known) | false ↦ rounds base σ fuel (suc (suc R)) x.known x.evaluations ])
      next x true q z st c more =
          let u = eqb-true (pending_count x.known) (pending_count ks) q in
          by_end refl (record {
            left = x.known;
            last = R;
            history = history_next (turn base σ) R ks x.known H st;
            low = steps_still (turn base σ) st u (history_low (turn base σ) R ks H);
            pending = omega (arith, z);
            equates = steps_equates (turn base σ) st ∙ m;
            is = refl;
          })
      next x false q z st c more =
          let fewer : pending_count x.known < pending_count ks =
          omega (arith, eqb-false (pending_count x.known) (pending_count ks) q, steps_fewer (turn base σ) st) in
          more x.known x.evaluations (omega arith) (history_next (turn base σ) R ks x.known H st)
          (steps_equates (turn base σ) st ∙ m) (omega (arith, c, s, steps_spent (turn base σ) st)) (omega arith)
          (omega (arith, c, triangle_more (pending_count x.known) (pending_count ks) fewer))

      by : (c : Bool) → eqb (pending_count ks) 0 ≡ c → (x : Result Turns Refusal)
          → Comes (PassIs (suc R) [] ks n) (TurnRefused (map (λ k. k.equate) ks)) x → More
          → RoundsCome es (elim c [
            | true ↦ Ok (turns ks n)
            | false ↦ and_then x (λ y.
                elim (eqb (pending_count y.known) (pending_count ks)) [
                  | true ↦ Err (unresolved y.known)
                  | false ↦ rounds base σ fuel (suc (suc R)) y.known y.evaluations
                ])
          ])
      by true e x g more =
          record {
            last = R;
            history = H;
            found = eqb-true (pending_count ks) 0 e;
            equates = m;
            evaluated = s;
            few = omega arith;
            bound = omega arith;
          }
      by false e (Err r) g more = by_turn (rw m at g)
      by false e (Ok x) g more =
          next x (eqb (pending_count x.known) (pending_count ks)) refl (eqb-false (pending_count ks) 0 e) (rw (← g.are) at g.steps)
          g.evaluated more

  pub all_end : (es : List Equate) → RoundsCome es (resolve base σ es)
  all_end es =
      let p = pending_all es in
      rounds_end es (suc (length es)) 0 (map pending_equate es) 0 (omega (arith, p)) (history_start (turn base σ) es) (equates_all es)
      (start_spent es) (omega (arith, p)) (rw p (omega arith))

  -- ---- a value at the end

  module _ (R : ℕ) (F : List Known) (H : History (turn base σ) R F) where
    -- what a turn saw is so at the end
    seen_final : (q i : ℕ) (n : List ℕ) (z : ℤ) → look base σ (shown q i 0 F) n ≡ Some z → look base σ F n ≡ Some z
    seen_final q i n z e = by (looked (shown q i 0 F) n z e) (constant F n) refl
      where
        by : (constant (shown q i 0 F) n ≡ Some z) ⊎ ((a : ℕ) × (label_address base σ n ≡ Some a) × (pos a ≡ z)) → (o : Option ℤ) → constant F n ≡ o
            → or_else o (as_number (label_address base σ n)) ≡ Some z
        by (inl c) None p = let b = seen_some F q i n z c in absurd (none-some (sym (none-all F n p b.at b.is) ∙ b.has))
        by (inl c) (Some y) p =
            let b = seen_some F q i n z c in
            let v = some_one F n y p in
            let s = same_one σ (turn base σ) own_evaluator R F H b.found v.found b.at b.has v.at v.has (b.is ∙ sym v.is) in
            ap Some (sym v.value ∙ ap (λ (f : Found). f.value) (sym s.1) ∙ b.value)
        by (inr l) None p = rw l.1 (ap Some l.2)
        by (inr l) (Some y) p =
            let v = some_one F n y p in
            let t = found_free σ (turn base σ) own_evaluator R F H v.found v.at v.has in
            absurd (true≢false (sym (label_is base σ n l.0 l.1) ∙ ap (λ (m : List ℕ). is_label m σ.labels) (sym v.is) ∙ t.no_label))

    -- an equate's value is its signed sum under what is known then
    pub sum_final : {i : ℕ} {k : Known} (f : Found) → At F i k → k.found ≡ Some f
        → (ts : List Term) × (terms_of k.equate ≡ Some ts) × (signed_sum (look base σ F) (own_address_of k.equate) ts ≡ Some f.value)
    sum_final {i} {k} f a e =
        let S = shown f.round i 0 F in
        let q = (told σ (turn base σ) own_evaluator R F H f a e).gave in
        let s : Sums S k.equate f.value =
        turn_said S k.equate (Ok (Some f.value)) (tried S k.equate (Some f.value) q) in (
          s.terms,
          s.are,
          sum_more (look base σ S) (look base σ F) (own_address_of k.equate) (seen_final f.round i) s.terms f.value
              (summed_whole (look base σ S) (own_address_of k.equate) (term positive positive) (tokens (expr_text k.equate.expr)) f.value s),
        )
