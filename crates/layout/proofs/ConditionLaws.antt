-- Under document 01's conditions no equate's turn is refused: so the rounds say 17 where an equate starts a chain that comes back to a name
-- in it or reaches an undefined one.
use Prim.Native.Nat.{ℕ, zero, suc}
use mathlib.Core.Path.{◌≡◌, refl, sym, ◌∙◌, ap}
use mathlib.Core.List.{List, [], ◌∷◌, ◌++◌, map, map-append, append-nil, append_assoc}
use mathlib.Core.Bool.{Bool, true, false, not, true≢false}
use Rattle.std.proofs.Common.{Option, None, Some}
use lib.Dec.{eqb}
use lib.IntN.{ℤ, pos}
use lib.ListN.{length}
use Rattle.std.proofs.Common.{Result, Ok, Err}
use Rattle.numbers.specs.Results.{and_then}
use Rattle.numbers.proofs.Bools.{none-some, and_left, and_right}
use Rattle.layout.specs.Bytes.{is_one_of}
use Rattle.layout.specs.Refusals.{Refusal, at_line}
use Rattle.layout.specs.Statements.{expr_text}
use Rattle.layout.specs.Expressions.{Evaluated, positive, term, tokens}
use Rattle.layout.specs.State.{Equate, State}
use Rattle.layout.specs.Addresses.{label_address}
use Rattle.layout.specs.Rounds.{Found, Known, pending_equate, or_else, constant, as_number, look, turn, Turns, turns, after_turn, pass_one, pass}
use Rattle.layout.specs.Rounds.{pending_count, unresolved, rounds}
use Rattle.layout.specs.Layouts.{resolve}
use Rattle.layout.specs.Chains.{Among, name_of, Worth, of_label, of_equate, are_distinct, Conditions, Chained}
use Rattle.layout.specs.Code.Fits.{Each}
use Rattle.layout.specs.Code.Names.{known_name}
use Rattle.layout.proofs.Each.{each_append}
use Rattle.layout.proofs.Gives.{Comes, and_then_comes}
use Rattle.layout.proofs.SumLaws.{never_refused, summed_whole}
use Rattle.layout.proofs.RoundHistory.{At, here, there, at_same, of_each, equates_all, given}
use Rattle.layout.proofs.RoundLaws.{some_one, at_middle}
use Rattle.layout.proofs.ChainLaws.{among_at, named_none, none_chained}
use Rattle.layout.proofs.ResolveLaws.{own_address_of, TurnSays, named-label, named_again, tries, turn-says, tried, Sums, turn_said}
use Rattle.layout.proofs.ResolveLaws.{own_evaluator, RoundsCome, all_end}

-- ---- distinct names

not-true : (c : Bool) → not c ≡ true → c ≡ false
not-true true e = sym e
not-true false e = refl

alone : (n : List ℕ) (ns : List (List ℕ)) → are_distinct (n ∷ ns) ≡ true → is_one_of ns n ≡ false
alone n ns d = not-true (is_one_of ns n) (and_left (not (is_one_of ns n)) (are_distinct ns) d)

distinct_at : {t u : ℕ} {k l : Known} (ks : List Known) → are_distinct (map name_of (map (λ k. k.equate) ks)) ≡ true → At ks t k → At ks u l
    → known_name k ≡ known_name l → t ≡ u
distinct_at (x ∷ xs) d here here q = refl
distinct_at (x ∷ xs) d here (there b) q = absurd (named_none (known_name x) (among_at b) (alone (known_name x) (map name_of (map (λ k. k.equate) xs)) d) (sym q))
distinct_at (x ∷ xs) d (there a) here q = absurd (named_none (known_name x) (among_at a) (alone (known_name x) (map name_of (map (λ k. k.equate) xs)) d) q)
distinct_at (x ∷ xs) d (there a) (there b) q =
    let ns = map name_of (map (λ k. k.equate) xs) in
    ap suc (distinct_at xs (and_right (not (is_one_of ns (known_name x))) (are_distinct ns) d) a b q)
distinct_at {t = t} {u = u} {k = k} {l = l} [] d never _ q = elim never [ ]

worth_as : (base : ℕ) (σ : State) (n n' : List ℕ) (z z' : ℤ) → n ≡ n' → z ≡ z' → Worth base σ n z → Worth base σ n' z'
worth_as base σ n n' z z' p q h = rw (p, q) at h

module _ (base : ℕ) (σ : State) (C : Conditions base σ) where
  -- its value, if it has one, is what it can be evaluated to
  abbrev Grounded : Known → Type 0
  Grounded k = (f : Found) → k.found ≡ Some f → Worth base σ (known_name k) f.value

  -- ---- a turn

  -- it is not refused, and a value that it gives is what the equate can be evaluated to
  abbrev SafeTurn : Equate → Evaluated → Type 0
  SafeTurn e (Ok (Some z)) = Worth base σ (name_of e) z
  SafeTurn e (Ok None) = Unit
  SafeTurn e (Err m) = ⊥

  module _ (S : List Known) (i : ℕ) (k : Known) (at : At S i k) (pend : k.found ≡ None) (eq : map (λ k. k.equate) S ≡ σ.rest.equates)
      (G : Each Grounded S) where
    grounded : (n : List ℕ) (z : ℤ) → look base σ S n ≡ Some z → Worth base σ n z
    grounded n z e = by (constant S n) refl (label_address base σ n) refl e
      where
        by : (o : Option ℤ) → constant S n ≡ o → (p : Option ℕ) → label_address base σ n ≡ p → or_else o (as_number p) ≡ Some z → Worth base σ n z
        by (Some y) u p w e =
            let v = some_one S n z (u ∙ e) in
            worth_as base σ (known_name v.known) n v.found.value z v.is v.value (of_each Grounded G v.at v.found v.has)
        by None u None w e = absurd (none-some e)
        by None u (Some a) w e = let q : pos a ≡ z = cc in rw (← q) (of_label n a w)

    unnamed : constant S (known_name k) ≡ None
    unnamed = by (constant S (known_name k)) refl
      where
        by : (o : Option ℤ) → constant S (known_name k) ≡ o → constant S (known_name k) ≡ None
        by None e = e
        by (Some z) e =
            let v = some_one S (known_name k) z e in
            let d : are_distinct (map name_of (map (λ k. k.equate) S)) ≡ true = rw eq C.distinct in
            let q = distinct_at S d v.at at v.is in
            let s : v.known ≡ k = at_same v.at (rw (← q) at at) in
            absurd (none-some (sym pend ∙ ap (λ (x : Known). x.found) (sym s) ∙ v.has))

    among : Among k.equate σ.rest.equates
    among = rw eq at (among_at at)

    safe_turn : SafeTurn k.equate (turn base σ S k.equate)
    safe_turn = by (turn base σ S k.equate) refl
      where
        never : (m : ℕ) → TurnSays base σ S k.equate (Err m) → ⊥
        never m (named-label p l) = true≢false (sym l ∙ C.no_label k.equate among)
        never m (named_again p l) = l unnamed
        never m (tries t) =
            let w = C.well_formed k.equate among in
            never_refused (look base σ S) (own_address_of base σ k.equate) (expr_text k.equate.expr) w.0 m w.1
            (C.never_beyond k.equate among (look base σ S) grounded w.0 w.1) t.evaluated

        by : (v : Evaluated) → turn base σ S k.equate ≡ v → SafeTurn k.equate v
        by (Ok (Some z)) q =
            let ts = tokens (expr_text k.equate.expr) in
            let s : Sums base σ S k.equate z =
            turn_said base σ S k.equate (Ok (Some z)) (tried base σ S k.equate (Some z) q) in
            of_equate k.equate among (look base σ S) grounded s.terms s.are z
            (summed_whole (look base σ S) (own_address_of base σ k.equate) (term positive positive) ts z s)
        by (Ok None) q = tt
        by (Err m) q = never m (turn-says base σ S k.equate (Err m) q)

  -- ---- a round

  -- the equates, each with what it can be evaluated to
  pub record Safe (ks : List Known) : Type 0 where
    pub equates : map (λ k. k.equate) ks ≡ σ.rest.equates
    pub each : Each Grounded ks

  moved : (done ks : List Known) (k l : Known) → k.equate ≡ l.equate → map (λ k. k.equate) (done ++ k ∷ ks) ≡ σ.rest.equates
      → map (λ k. k.equate) ((done ++ l ∷ []) ++ ks) ≡ σ.rest.equates
  moved done ks k l q e =
      ap (map (λ k. k.equate)) (append_assoc done (l ∷ []) ks) ∙ map-append (λ k. k.equate) done (l ∷ ks)
      ∙ ap (λ (x : Equate). map (λ k. k.equate) done ++ x ∷ map (λ k. k.equate) ks) (sym q) ∙ sym (map-append (λ k. k.equate) done (k ∷ ks)) ∙ e

  -- with the turn of k done
  abbrev SafeFirst : List Known → Turns → Type 0
  SafeFirst ks x = (map (λ k. k.equate) (x.known ++ ks) ≡ σ.rest.equates) × Each Grounded x.known

  first_safe : (r : ℕ) (done : List Known) (k : Known) (ks : List Known) (n : ℕ) → map (λ k. k.equate) (done ++ k ∷ ks) ≡ σ.rest.equates
      → Each Grounded done → Each Grounded (k ∷ ks) → Comes (SafeFirst ks) (λ _. ⊥) (pass_one base σ r done k ks n k.found)
  first_safe r done k ks n q g h = by k.found refl
    where
      one_more : (l : Known) → k.equate ≡ l.equate → Grounded l → SafeFirst ks (turns (done ++ l ∷ []) n)
      one_more l p w = (moved done ks k l p q, each_append Grounded done (l ∷ []) g (w, tt))

      late : (v : Evaluated) → SafeTurn k.equate v → Comes (SafeFirst ks) (λ _. ⊥) (at_line k.equate.line (after_turn r done k.equate n v))
      late (Ok (Some z)) w = one_more (given k z r) refl (λ f p. let u : record { value = z; round = r } ≡ f = cc in rw (← u) w)
      late (Ok None) w = one_more (pending_equate k.equate) refl (λ f p. absurd (none-some p))
      late (Err m) w = w

      by : (o : Option Found) → k.found ≡ o → Comes (SafeFirst ks) (λ _. ⊥) (pass_one base σ r done k ks n o)
      by (Some f) e = one_more k refl h.0
      by None e =
          late (turn base σ (done ++ k ∷ ks) k.equate)
          (safe_turn (done ++ k ∷ ks) (length done) k (at_middle done k ks) e q (each_append Grounded done (k ∷ ks) g h))

  pass_safe : (r : ℕ) (done ks : List Known) (n : ℕ) → map (λ k. k.equate) (done ++ ks) ≡ σ.rest.equates → Each Grounded done → Each Grounded ks
      → Comes (λ x. Safe x.known) (λ _. ⊥) (pass base σ r done ks n)
  unfolding pass
  pass_safe r done [] n q g h = record { equates = sym (ap (map (λ k. k.equate)) (append-nil done)) ∙ q; each = g }
  pass_safe r done (k ∷ ks) n q g h =
      and_then_comes (SafeFirst ks) (λ x. Safe x.known) (λ _. ⊥) (pass_one base σ r done k ks n k.found)
      (λ x. pass base σ r x.known ks x.evaluations) (first_safe r done k ks n q g h)
      (λ x s. pass_safe r x.known ks x.evaluations s.0 s.1 h.1)

  -- ---- the rounds

  abbrev SafeRounds : Result Turns Refusal → Type 0
  SafeRounds x = Comes (λ _. Unit) (λ (r : Refusal). r.number ≡ 17) x

  rounds_safe : (fuel r : ℕ) (ks : List Known) (n : ℕ) → Safe ks → SafeRounds (rounds base σ fuel r ks n)
  unfolding rounds
  rounds_safe zero r ks n s = refl
  rounds_safe (suc fuel) r ks n s =
      by (eqb (pending_count ks) 0) (pass base σ r [] ks n) (pass_safe r [] ks n s.equates tt s.each) (rounds_safe fuel (suc r))
    where
      last : (x : Turns) (c : Bool) → SafeRounds (rounds base σ fuel (suc r) x.known x.evaluations)
          → SafeRounds (elim c [ true ↦ Err (unresolved x.known) | false ↦ rounds base σ fuel (suc r) x.known x.evaluations ])
      last x true h = refl
      last x false h = h

      by : (c : Bool) (x : Result Turns Refusal) → Comes (λ y. Safe y.known) (λ _. ⊥) x
          → ((ls : List Known) (m : ℕ) → Safe ls → SafeRounds (rounds base σ fuel (suc r) ls m))
          → SafeRounds (elim c [
            | true ↦ Ok (turns ks n)
            | false ↦ and_then x (λ y.
                elim (eqb (pending_count y.known) (pending_count ks)) [
                  | true ↦ Err (unresolved y.known)
                  | false ↦ rounds base σ fuel (suc r) y.known y.evaluations
                ])
          ])
      by true x h more = tt
      by false (Err m) h more = absurd h
      by false (Ok x) h more = last x (eqb (pending_count x.known) (pending_count ks)) (more x.known x.evaluations h)

  start_safe : (es : List Equate) → Each Grounded (map pending_equate es)
  start_safe [] = tt
  start_safe (e ∷ es) = ((λ f p. absurd (none-some p)), start_safe es)

  -- where an equate starts such a chain, the rounds say 17
  pub chained_unresolved : Chained σ → (r : Refusal) × (resolve base σ σ.rest.equates ≡ Err r) × (r.number ≡ 17)
  chained_unresolved u =
      let s : Safe (map pending_equate es) = record { equates = equates_all es; each = start_safe es } in
      by (resolve base σ es) refl (rounds_safe (suc (length es)) 1 (map pending_equate es) 0 s) (all_end base σ es)
    where
      es : List Equate
      es = σ.rest.equates

      by : (x : Result Turns Refusal) → resolve base σ es ≡ x → SafeRounds x → RoundsCome base σ es x
          → (r : Refusal) × (resolve base σ es ≡ Err r) × (r.number ≡ 17)
      by (Ok x) q s a = absurd (none_chained σ (turn base σ) (own_evaluator base σ) x.known x.evaluations a u)
      by (Err r) q s a = (r, q, s)
