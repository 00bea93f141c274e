-- The rounds over any evaluator: what each equate's turns saw, told of the equates as they are at the end. An equate waited in every
-- round before its own, and its value is what its turn gave, against the equates at the end with every later value blanked.
use Prim.Native.Nat.{ℕ, zero, suc, ◌+◌, ◌≤◌, ◌<◌}
use mathlib.Core.Path.{◌≡◌, refl, sym, ◌∙◌, ap, ap₂}
use mathlib.Core.Logic.{◌⊎◌, inl, inr}
use mathlib.Core.List.{List, [], ◌∷◌, ◌++◌, map, append_assoc}
use mathlib.Core.Bool.{Bool, true, false, cond}
use Rattle.std.proofs.Common.{Option, None, Some}
use native.Mathlib.Omega.{arith}
use native.Mathlib.Decide.{dec_lt}
use lib.Dec.{ltb}
use lib.IntN.{ℤ}
use lib.ListN.{length, length-append}
use borrow.Author.Tests.{ltb-true, lt-ltb, le-ltb}
use Rattle.std.proofs.Common.{Ok}
use Rattle.numbers.proofs.Bools.{none-some}
use Rattle.layout.specs.Expressions.{Evaluated}
use Rattle.layout.specs.State.{Equate}
use Rattle.layout.specs.Rounds.{Found, Known, pending_equate, pending_count, first_pending}
use Rattle.layout.specs.Code.Fits.{Each}
use Rattle.layout.proofs.Each.{each_append}

-- ---- places in a list

-- the ith of a list
pub data At {A : Type 0} : List A → ℕ → A → Type 0 where
  here : {x : A} {xs : List A} → At (x ∷ xs) 0 x
  there : {x y : A} {xs : List A} {i : ℕ} → At xs i x → At (y ∷ xs) (suc i) x

pub at_same : {A : Type 0} {xs : List A} {i : ℕ} {x y : A} → At xs i x → At xs i y → x ≡ y
at_same here here = refl
at_same (there a) (there b) = at_same a b

-- a property of every element, place by place
pub each_of : {A : Type 0} (P : A → Type 0) (xs : List A) → ((i : ℕ) (x : A) → At xs i x → P x) → Each P xs
each_of P [] f = tt
each_of P (x ∷ xs) f = (f 0 x here, each_of P xs (λ i y h. f (suc i) y (there h)))

pub of_each : {A : Type 0} {xs : List A} {i : ℕ} {x : A} (P : A → Type 0) → Each P xs → At xs i x → P x
of_each P g here = g.0
of_each P g (there h) = of_each P g.1 h

-- ---- earlier turns

-- a value found in round r at place j is there when the turn of place i in round q comes
abbrev pub Earlier : ℕ → ℕ → ℕ → ℕ → Type 0
Earlier r j q i = (r < q) ⊎ ((r ≡ q) × (j < i))

abbrev pub is_earlier : ℕ → ℕ → ℕ → ℕ → Bool
is_earlier r j q i = ltb r (cond (ltb j i) (suc q) q)

pub earlier_true : (r j q i : ℕ) → is_earlier r j q i ≡ true → Earlier r j q i
earlier_true r j q i e = by (ltb j i) refl e
  where
    near : Dec (r < q) → r < suc q → j < i → Earlier r j q i
    near (yes h) g k = inl h
    near (no h) g k = inr (omega arith, k)

    by : (c : Bool) → ltb j i ≡ c → ltb r (cond c (suc q) q) ≡ true → Earlier r j q i
    by true p e = near (dec_lt r q) (ltb-true r (suc q) e) (ltb-true j i p)
    by false p e = inl (ltb-true r q e)

pub is_earlier_lem : (r j q i : ℕ) → Earlier r j q i → is_earlier r j q i ≡ true
is_earlier_lem r j q i (inr h) = rw (lt-ltb j i h.1) (lt-ltb r (suc q) (omega arith))
is_earlier_lem r j q i (inl h) = by (ltb j i)
  where
    by : (c : Bool) → ltb r (cond c (suc q) q) ≡ true
    by true = lt-ltb r (suc q) (omega arith)
    by false = lt-ltb r q h

not_earlier : (r j q i : ℕ) → q ≤ r → (r ≡ q → i ≤ j) → is_earlier r j q i ≡ false
not_earlier r j q i h g = by (ltb j i) refl
  where
    late : j < i → Dec (q < r) → suc q ≤ r
    late k (yes d) = d
    late k (no d) = absurd (omega (arith, g (omega arith), k))

    by : (c : Bool) → ltb j i ≡ c → ltb r (cond c (suc q) q) ≡ false
    by true p = le-ltb r (suc q) (late (ltb-true j i p) (dec_lt q r))
    by false p = le-ltb r q h

-- ---- what a turn sees

-- one of the equates as the turn of place i in round q sees it, of the equates at the end; it stands at j
abbrev pub shown_one : ℕ → ℕ → ℕ → Known → Option Found → Known
shown_one q i j k None = pending_equate k.equate
shown_one q i j k (Some f) = cond (is_earlier f.round j q i) k (pending_equate k.equate)

-- the first of ks stands at j
unfoldable pub shown : ℕ → ℕ → ℕ → List Known → List Known
shown q i j [] = []
shown q i j (k ∷ ks) = shown_one q i j k k.found ∷ shown q i (suc j) ks

one_there : (q i j : ℕ) (k : Known) (f : Found) → Earlier f.round j q i → shown_one q i j k (Some f) ≡ k
one_there q i j k f h = ap (λ (c : Bool). cond c k (pending_equate k.equate)) (is_earlier_lem f.round j q i h)

one_not : (q i j : ℕ) (k : Known) (f : Found) → q ≤ f.round → (f.round ≡ q → i ≤ j) → shown_one q i j k (Some f) ≡ pending_equate k.equate
one_not q i j k f h g = ap (λ (c : Bool). cond c k (pending_equate k.equate)) (not_earlier f.round j q i h g)

one_pending : (q i j : ℕ) (k : Known) → k.found ≡ None → shown_one q i j k k.found ≡ pending_equate k.equate
one_pending q i j k e = ap (shown_one q i j k) e

pending_is : (k : Known) → k.found ≡ None → pending_equate k.equate ≡ k
pending_is k e = ap (λ (o : Option Found). record { equate = k.equate; found = o }) (sym e)

-- no value from a round after R
abbrev pub Low : ℕ → Known → Type 0
Low R k = (f : Found) → k.found ≡ Some f → f.round ≤ R

shown_append : (q i j : ℕ) (xs ys : List Known) → shown q i j (xs ++ ys) ≡ shown q i j xs ++ shown q i (j + length xs) ys
unfolding shown
shown_append q i j [] ys = ap (λ n. shown q i n ys) (omega arith)
shown_append q i j (x ∷ xs) ys =
    let e : suc j + length xs ≡ j + suc (length xs) = omega arith in
    ap (λ r. shown_one q i j x x.found ∷ r) (shown_append q i (suc j) xs ys ∙ ap (λ n. shown q i (suc j) xs ++ shown q i n ys) e)

-- places before i, found up to round q, are all there
shown_all : (q i j : ℕ) (xs : List Known) → Each (Low q) xs → j + length xs ≤ i → shown q i j xs ≡ xs
unfolding shown
shown_all q i j [] g h = refl
shown_all q i j (x ∷ xs) g h = ap₂ ◌∷◌ (by x.found refl) (shown_all q i (suc j) xs g.1 (omega arith))
  where
    near : (f : Found) → f.round ≤ q → Dec (f.round < q) → Earlier f.round j q i
    near f l (yes d) = inl d
    near f l (no d) = inr (omega arith, omega arith)

    by : (o : Option Found) → x.found ≡ o → shown_one q i j x o ≡ x
    by None e = pending_is x e
    by (Some f) e = one_there q i j x f (near f (g.0 f e) (dec_lt f.round q))

-- in a round after all that were found, everything is there
pub shown_whole : (R i j : ℕ) (xs : List Known) → Each (Low R) xs → shown (suc R) i j xs ≡ xs
unfolding shown
shown_whole R i j [] g = refl
shown_whole R i j (x ∷ xs) g = ap₂ ◌∷◌ (by x.found refl) (shown_whole R i (suc j) xs g.1)
  where
    by : (o : Option Found) → x.found ≡ o → shown_one (suc R) i j x o ≡ x
    by None e = pending_is x e
    by (Some f) e = one_there (suc R) i j x f (inl (omega (arith, g.0 f e)))

-- ---- a round

abbrev pub given : Known → ℤ → ℕ → Known
given k z r = record { equate = k.equate; found = Some (record { value = z; round = r }) }

-- at the start every equate is pending
pub pending_all : (es : List Equate) → pending_count (map pending_equate es) ≡ length es
unfolding pending_count
pending_all [] = refl
pending_all (e ∷ es) = ap suc (pending_all es)

pub equates_all : (es : List Equate) → map (λ k. k.equate) (map pending_equate es) ≡ es
equates_all [] = refl
equates_all (e ∷ es) = ap (λ r. e ∷ r) (equates_all es)

-- the sum of the numbers to n
unfoldable pub triangle : ℕ → ℕ
triangle zero = 0
triangle (suc n) = suc n + triangle n

triangle_grows : (m n : ℕ) → m ≤ n → triangle m ≤ triangle n
unfolding triangle
triangle_grows zero n h = omega arith
triangle_grows (suc m) zero h = absurd (omega arith)
triangle_grows (suc m) (suc n) h = omega (arith, triangle_grows m n (omega arith))

pub triangle_more : (m n : ℕ) → m < n → n + triangle m ≤ triangle n
unfolding triangle
triangle_more m zero h = absurd (omega arith)
triangle_more m (suc n) h = omega (arith, triangle_grows m n (omega arith))

-- how often: a pending equate has been evaluated in each of R rounds, one that is found in its own and those before
unfoldable pub spent : ℕ → List Known → ℕ
spent R [] = 0
spent R (k ∷ ks) = elim k.found [ None ↦ R + spent R ks | Some f ↦ f.round + spent R ks ]

module _ (turn : List Known → Equate → Evaluated) where
  -- round r, equate by equate: those done, those to come before their turns and after
  pub data RoundTurns (r : ℕ) : List Known → List Known → List Known → Type 0 where
    no_more : {done : List Known} → RoundTurns r done [] []
    kept : {done ks ls : List Known} {k : Known} (f : Found) → k.found ≡ Some f → RoundTurns r (done ++ k ∷ []) ks ls → RoundTurns r done (k ∷ ks) (k ∷ ls)
    gained : {done ks ls : List Known} {k : Known} (z : ℤ) → k.found ≡ None → turn (done ++ k ∷ ks) k.equate ≡ Ok (Some z)
        → RoundTurns r (done ++ given k z r ∷ []) ks ls → RoundTurns r done (k ∷ ks) (given k z r ∷ ls)
    waiting : {done ks ls : List Known} {k : Known} → k.found ≡ None → turn (done ++ k ∷ ks) k.equate ≡ Ok None
        → RoundTurns r (done ++ pending_equate k.equate ∷ []) ks ls → RoundTurns r done (k ∷ ks) (pending_equate k.equate ∷ ls)

  -- it leaves the same equates, no more pending, and each that was pending evaluated once more
  pub steps_equates : {r : ℕ} {done ks ls : List Known} → RoundTurns r done ks ls → map (λ k. k.equate) ls ≡ map (λ k. k.equate) ks
  steps_equates no_more = refl
  steps_equates (kept {k = k} f e s) = ap (λ es. k.equate ∷ es) (steps_equates s)
  steps_equates (gained {k = k} z e t s) = ap (λ es. k.equate ∷ es) (steps_equates s)
  steps_equates (waiting {k = k} e t s) = ap (λ es. k.equate ∷ es) (steps_equates s)

  pub steps_fewer : {r : ℕ} {done ks ls : List Known} → RoundTurns r done ks ls → pending_count ls ≤ pending_count ks
  unfolding pending_count
  steps_fewer no_more = omega arith
  steps_fewer (kept f e s) = rw e (steps_fewer s)
  steps_fewer (gained z e t s) = rw e (omega (arith, steps_fewer s))
  steps_fewer (waiting e t s) = rw e (omega (arith, steps_fewer s))

  pub steps_spent : {R : ℕ} {done ks ls : List Known} → RoundTurns (suc R) done ks ls → spent (suc R) ls ≡ spent R ks + pending_count ks
  unfolding pending_count spent
  steps_spent no_more = refl
  steps_spent (kept f e s) = rw e (omega (arith, steps_spent s))
  steps_spent (gained z e t s) = rw e (omega (arith, steps_spent s))
  steps_spent (waiting e t s) = rw e (omega (arith, steps_spent s))

  -- one that leaves as many pending found nothing
  pub steps_still : {R : ℕ} {done ks ls : List Known} → RoundTurns (suc R) done ks ls → pending_count ls ≡ pending_count ks → Each (Low R) ks
      → Each (Low R) ls
  unfolding pending_count
  steps_still no_more q g = tt
  steps_still (kept f e s) q g = (g.0, steps_still s (rw e at q) g.1)
  steps_still (gained z e t s) q g = absurd (omega (arith, rw e at q, steps_fewer s))
  steps_still (waiting e t s) q g = ((λ f p. absurd (none-some p)), steps_still s (omega (arith, rw e at q)) g.1)

  -- ---- what its turns saw

  -- what an earlier turn saw is not changed by the round
  stable : {R : ℕ} {done ks ls : List Known} (q i j : ℕ) → q ≤ R → RoundTurns (suc R) done ks ls → shown q i j ls ≡ shown q i j ks
  unfolding shown
  stable q i j h no_more = refl
  stable q i j h (kept {k = k} f e s) = ap (λ r. shown_one q i j k k.found ∷ r) (stable q i (suc j) h s)
  stable {R} q i j h (gained {k = k} z e t s) =
      let blank = one_not q i j (given k z (suc R)) (record { value = z; round = suc R }) (omega arith) (λ p. absurd (omega arith)) in
      ap₂ ◌∷◌ (blank ∙ sym (one_pending q i j k e)) (stable q i (suc j) h s)
  stable q i j h (waiting {k = k} e t s) = ap₂ ◌∷◌ (sym (one_pending q i j k e)) (stable q i (suc j) h s)

  -- places from i on are seen as they were before the round
  to_come : {R : ℕ} {done ks ls : List Known} (i j : ℕ) → i ≤ j → Each (Low R) ks → RoundTurns (suc R) done ks ls → shown (suc R) i j ls ≡ ks
  unfolding shown
  to_come i j h g no_more = refl
  to_come {R} i j h g (kept {k = k} f e s) =
      ap₂ ◌∷◌ (ap (shown_one (suc R) i j k) e ∙ one_there (suc R) i j k f (inl (omega (arith, g.0 f e)))) (to_come i (suc j) (omega arith) g.1 s)
  to_come {R} i j h g (gained {k = k} z e t s) =
      ap₂ ◌∷◌ (one_not (suc R) i j (given k z (suc R)) (record { value = z; round = suc R }) (omega arith) (λ p. h) ∙ pending_is k e)
      (to_come i (suc j) (omega arith) g.1 s)
  to_come i j h g (waiting {k = k} e t s) = ap₂ ◌∷◌ (pending_is k e) (to_come i (suc j) (omega arith) g.1 s)

  seen_is : {R : ℕ} {done ks ls : List Known} → Each (Low (suc R)) done → Each (Low R) ks → RoundTurns (suc R) done ks ls
      → done ++ ks ≡ shown (suc R) (length done + 0) 0 (done ++ ls)
  seen_is {R} {done} {ks} {ls} d g s =
      sym (shown_append (suc R) (length done + 0) 0 done ls
      ∙ ap₂ ◌++◌ (shown_all (suc R) (length done + 0) 0 done d (omega arith)) (to_come (length done + 0) (0 + length done) (omega arith) g s))

  -- a turn of round r that saw S: before it k, after it l
  data Turn (r : ℕ) (S : List Known) (k l : Known) : Type 0 where
    stays : (f : Found) → k.found ≡ Some f → k ≡ l → Turn r S k l
    gets : (z : ℤ) → k.found ≡ None → turn S k.equate ≡ Ok (Some z) → given k z r ≡ l → Turn r S k l
    pends : k.found ≡ None → turn S k.equate ≡ Ok None → pending_equate k.equate ≡ l → Turn r S k l

  module _ (R : ℕ) where
    one_more : (done : List Known) (k : Known) → Each (Low (suc R)) done → Low (suc R) k → Each (Low (suc R)) (done ++ k ∷ [])
    one_more done k d g = each_append (Low (suc R)) done (k ∷ []) d (g, tt)

    moved : (done ls : List Known) (l : Known) (i : ℕ)
        → shown (suc R) (length (done ++ l ∷ []) + i) 0 ((done ++ l ∷ []) ++ ls) ≡ shown (suc R) (length done + suc i) 0 (done ++ l ∷ ls)
    moved done ls l i =
        ap₂ (λ (n : ℕ) (xs : List Known). shown (suc R) n 0 xs) (omega (arith, length-append done (l ∷ []))) (append_assoc done (l ∷ []) ls)

    steps_at : {done ks ls : List Known} {i : ℕ} {l : Known} → Each (Low (suc R)) done → Each (Low R) ks → RoundTurns (suc R) done ks ls → At ls i l
        → (k : Known) × At ks i k × Turn (suc R) (shown (suc R) (length done + i) 0 (done ++ ls)) k l
    steps_at d g (kept {k = k} f e s) here = (k, here, stays f e refl)
    steps_at d g (gained {k = k} z e t s) here = (k, here, gets z e (rw (← seen_is d g (gained z e t s)) t) refl)
    steps_at d g (waiting {k = k} e t s) here = (k, here, pends e (rw (← seen_is d g (waiting e t s)) t) refl)
    steps_at {done} {i = suc i} d g (kept {ls = ls} {k = k} f e s) (there h) =
        let r = steps_at (one_more done k d (λ f e. omega (arith, g.0 f e))) g.1 s h in
        (r.0, there r.1, rw (moved done ls k i) at r.2)
    steps_at {done} {i = suc i} d g (gained {ls = ls} {k = k} z e t s) (there h) =
        let low : Low (suc R) (given k z (suc R)) = λ f p. let q : record { value = z; round = suc R } ≡ f = cc in rw (← q) (omega arith) in
        let r = steps_at (one_more done (given k z (suc R)) d low) g.1 s h in
        (r.0, there r.1, rw (moved done ls (given k z (suc R)) i) at r.2)
    steps_at {done} {i = suc i} d g (waiting {ls = ls} {k = k} e t s) (there h) =
        let r = steps_at (one_more done (pending_equate k.equate) d (λ f p. absurd (none-some p))) g.1 s h in
        (r.0, there r.1, rw (moved done ls (pending_equate k.equate) i) at r.2)
    steps_at {i = i} {l = l} d g (no_more {done = done}) never = elim never [ ]

  -- ---- the history of R rounds

  -- an equate of place i waits in every round before it is found, and is found by its turn in its round
  pub record ToldFound (R : ℕ) (F : List Known) (i : ℕ) (e : Equate) (f : Found) : Type 0 where
    pub from : 1 ≤ f.round
    pub to : f.round ≤ R
    pub gave : turn (shown f.round i 0 F) e ≡ Ok (Some f.value)
    pub waited : (q : ℕ) → 1 ≤ q → q < f.round → turn (shown q i 0 F) e ≡ Ok None

  -- or it waits in every round
  abbrev pub ToldBy : ℕ → List Known → ℕ → Equate → Option Found → Type 0
  ToldBy R F i e None = (q : ℕ) → 1 ≤ q → q ≤ R → turn (shown q i 0 F) e ≡ Ok None
  ToldBy R F i e (Some f) = ToldFound R F i e f

  abbrev pub History : ℕ → List Known → Type 0
  History R F = (i : ℕ) (k : Known) → At F i k → ToldBy R F i k.equate k.found

  pub history_low : (R : ℕ) (F : List Known) → History R F → Each (Low R) F
  history_low R F H = each_of (Low R) F (λ i k a f e. (rw e at (H i k a)).to)

  all_none : (es : List Equate) → Each (λ k. k.found ≡ None) (map pending_equate es)
  all_none [] = tt
  all_none (e ∷ es) = (refl, all_none es)

  -- before the first round
  pub history_start : (es : List Equate) → History 0 (map pending_equate es)
  history_start es i k a = rw (of_each (λ (k : Known). k.found ≡ None) (all_none es) a) (λ q h g. absurd (omega arith))

  -- after one round more
  pub history_next : (R : ℕ) (F F' : List Known) → History R F → RoundTurns (suc R) [] F F' → History (suc R) F'
  history_next R F F' H s i l a = let r = steps_at R tt (history_low R F H) s a in by r.0 r.1 (rw zero-plus at r.2)
    where
      zero-plus : 0 + i ≡ i
      zero-plus = omega arith

      same : (q : ℕ) → q ≤ R → shown q i 0 F ≡ shown q i 0 F'
      same q h = sym (stable q i 0 h s)

      late : (k : Known) (q : ℕ) → 1 ≤ q → q ≤ suc R → ((q : ℕ) → 1 ≤ q → q ≤ R → turn (shown q i 0 F) k.equate ≡ Ok None)
          → turn (shown (suc R) i 0 F') k.equate ≡ Ok None → Dec (q < suc R) → turn (shown q i 0 F') k.equate ≡ Ok None
      late k q h g w t (yes d) = rw (← same q (omega arith)) (w q h (omega arith))
      late k q h g w t (no d) = let e : q ≡ suc R = omega arith in rw e t

      by : (k : Known) → At F i k → Turn (suc R) (shown (suc R) i 0 F') k l → ToldBy (suc R) F' i l.equate l.found
      by k b (stays f e p) =
          let t = rw e at (H i k b) in
          rw (← p, e) (record {
            from = t.from;
            to = omega (arith, t.to);
            gave = rw (← same f.round t.to) t.gave;
            waited = λ q h g. rw (← same q (omega (arith, t.to))) (t.waited q h g);
          })
      by k b (gets z e t p) =
          let w = rw e at (H i k b) in
          rw (← p) (record {
            from = omega arith;
            to = omega arith;
            gave = t;
            waited = λ q h g. rw (← same q (omega arith)) (w q h (omega arith));
          })
      by k b (pends e t p) = let w = rw e at (H i k b) in rw (← p) (λ q h g. late k q h g w t (dec_lt q (suc R)))

  -- ---- the ends

  -- every equate of es found, in so many rounds at most as there are equates, and by no more evaluations than if each round had found one
  pub record AllFound (es : List Equate) (F : List Known) (evaluations : ℕ) : Type 0 where
    pub last : ℕ
    pub history : History last F
    pub found : pending_count F ≡ 0
    pub equates : map (λ k. k.equate) F ≡ es
    pub evaluated : evaluations ≡ spent last F
    pub few : last ≤ length es
    pub bound : evaluations ≤ triangle (length es)

  -- a last round that found nothing, with the first pending equate at a line
  pub record Stuck (es : List Equate) (line : ℕ) : Type 0 where
    pub left : List Known
    pub last : ℕ
    pub history : History (suc last) left
    pub low : Each (Low last) left
    pub pending : 0 < pending_count left
    pub equates : map (λ k. k.equate) left ≡ es
    pub is : line ≡ first_pending left

pub start_spent : (es : List Equate) → 0 ≡ spent 0 (map pending_equate es)
unfolding spent
start_spent [] = refl
start_spent (e ∷ es) = omega (arith, start_spent es)

-- an equate that is found
abbrev pub IsFound : Known → Type 0
IsFound k = (f : Found) × (k.found ≡ Some f)

pub none_pending : (ks : List Known) → pending_count ks ≡ 0 → Each IsFound ks
unfolding pending_count
none_pending [] e = tt
none_pending (k ∷ ks) e = by k.found refl e (none_pending ks)
  where
    by : (o : Option Found) → k.found ≡ o → ◌≡◌ {A = ℕ} (elim o [ None ↦ suc (pending_count ks) | Some f ↦ pending_count ks ]) 0
        → (pending_count ks ≡ 0 → Each IsFound ks) → Each IsFound (k ∷ ks)
    by None q e more = absurd (omega arith)
    by (Some f) q e more = ((f, q), more e)
