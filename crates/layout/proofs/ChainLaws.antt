-- Chains of uses and the rounds, over any evaluator of RoundLaws.antt: an equate that is found starts no chain that comes back to a name in
-- it or reaches an undefined one; one that is left over does. So the first line that is left over is the first whose equate starts one.
use Prim.Native.Nat.{ℕ, zero, suc, ◌≤◌, ◌<◌}
use mathlib.Core.Path.{◌≡◌, refl, sym, ◌∙◌, ap}
use mathlib.Core.Logic.{◌⊎◌, inl, inr}
use mathlib.Core.List.{List, [], ◌∷◌, map}
use mathlib.Core.Bool.{Bool, true, false, cond, ◌||◌, true≢false, false≢true}
use Rattle.std.proofs.Common.{Option, None, Some}
use native.Mathlib.Omega.{arith}
use lib.IntN.{ℤ}
use Rattle.std.proofs.Common.{Ok}
use Rattle.numbers.specs.Text.{same}
use Rattle.numbers.proofs.Bools.{none-some}
use Rattle.numbers.proofs.Prefixes.{same_equal, same_refl}
use Rattle.layout.specs.Bytes.{is_one_of}
use Rattle.layout.specs.Expressions.{Evaluated}
use Rattle.layout.specs.State.{Equate, State}
use Rattle.layout.specs.Stage.{is_label}
use Rattle.layout.specs.Rounds.{Found, Known, pending_count, first_pending}
use Rattle.layout.specs.Terms.{is_used}
use Rattle.layout.specs.Chains.{Among, first, later, name_of, Reaches, uses, onto, Unresolved, undefined, circular, NamesFirst, Chained}
use Rattle.layout.specs.Code.Fits.{Each}
use Rattle.layout.specs.Code.Names.{known_name}
use Rattle.layout.proofs.StageOrder.{Rising}
use Rattle.layout.proofs.RoundHistory.{At, here, there, at_same, of_each, Earlier, shown_whole, History, AllFound, Stuck}
use Rattle.layout.proofs.RoundHistory.{none_pending, IsFound}
use Rattle.layout.proofs.RoundLaws.{none-all, Before, Free, Lacks, Evaluator, never_earlier, found_free, same_one, used_before}

-- ---- members and places

pub among_at : {F : List Known} {j : ℕ} {l : Known} → At F j l → Among l.equate (map (λ k. k.equate) F)
among_at here = first
among_at (there a) = later (among_at a)

pub at_among : {d : Equate} (F : List Known) → Among d (map (λ k. k.equate) F) → (j : ℕ) × (l : Known) × At F j l × (l.equate ≡ d)
at_among (k ∷ F) first = (0, k, here, refl)
at_among (k ∷ F) (later a) = let r = at_among F a in (suc r.0, r.1, there r.2, r.3)
at_among {d = d} [] never = elim never [ ]

pub among_each : {A : Type 0} {x : A} {xs : List A} (P : A → Type 0) → Each P xs → Among x xs → P x
among_each P g first = g.0
among_each P g (later a) = among_each P g.1 a

-- a name that is none of the equates'
pub named_none : {d : Equate} {es : List Equate} (n : List ℕ) → Among d es → is_one_of (map name_of es) n ≡ false → name_of d ≡ n → ⊥
named_none {d} n (first {xs = es}) e q = by (same (name_of d) n) (ap (λ (m : List ℕ). same m n) q ∙ same_refl n) e
  where
    by : (c : Bool) → c ≡ true → c || is_one_of (map name_of es) n ≡ false → ⊥
    by true p e = true≢false e
    by false p e = false≢true p
named_none n (later {y = y} {xs = es} a) e q = by (same (name_of y) n) e (λ h. named_none n a h q)
  where
    by : (c : Bool) → c || is_one_of (map name_of es) n ≡ false → (is_one_of (map name_of es) n ≡ false → ⊥) → ⊥
    by true e more = true≢false e
    by false e more = more e

-- or the name of one
named_one : (es : List Equate) (n : List ℕ) → ((d : Equate) × Among d es × (name_of d ≡ n)) ⊎ (is_one_of (map name_of es) n ≡ false)
named_one [] n = inr refl
named_one (e ∷ es) n = by (same (name_of e) n) refl (named_one es n)
  where
    by : (c : Bool) → same (name_of e) n ≡ c → ((d : Equate) × Among d es × (name_of d ≡ n)) ⊎ (is_one_of (map name_of es) n ≡ false)
        → ((d : Equate) × Among d (e ∷ es) × (name_of d ≡ n)) ⊎ (c || is_one_of (map name_of es) n ≡ false)
    by true q x = inl (e, first, same_equal (name_of e) n q)
    by false q (inl r) = inl (r.0, later r.1, r.2)
    by false q (inr g) = inr g

-- ---- chains

pub earlier_trans : (a i b j c k : ℕ) → Earlier a i b j → Earlier b j c k → Earlier a i c k
earlier_trans a i b j c k (inl x) (inl y) = inl (omega arith)
earlier_trans a i b j c k (inl x) (inr y) = inl (omega arith)
earlier_trans a i b j c k (inr x) (inl y) = inl (omega arith)
earlier_trans a i b j c k (inr x) (inr y) = inr (omega arith, omega arith)

-- a chain that reaches e's name, and then what e uses
reaches_last : {es : List Equate} {d e : Equate} {n : List ℕ} → Reaches es d (name_of e) → Among e es → is_used e n ≡ true → Reaches es d n
reaches_last (uses u) a v = onto _ a u (uses v)
reaches_last (onto x b u r) a v = onto x b u (reaches_last r a v)

-- a use before a chain
before_use : (σ : State) (e d : Equate) → Among d σ.rest.equates → is_used e (name_of d) ≡ true → Unresolved σ d → Unresolved σ e
before_use σ e d a u (undefined n r x) = undefined n (onto d a u r) x
before_use σ e d a u (circular c b r s) = circular c b (onto d a u r) s

module _ (σ : State) (turn : List Known → Equate → Evaluated) (E : Evaluator σ turn) where
  -- ---- a found equate starts none
  module _ (R : ℕ) (F : List Known) (H : History turn R F) (eq : map (λ k. k.equate) F ≡ σ.rest.equates)
      (pending-free : (i : ℕ) (k : Known) → At F i k → k.found ≡ None → Free σ F k.equate) where
    no_label : {j : ℕ} {l : Known} → At F j l → is_label (known_name l) σ.labels ≡ false
    no_label {j} {l} a = by l.found refl
      where
        by : (o : Option Found) → l.found ≡ o → is_label (known_name l) σ.labels ≡ false
        by None e = (pending-free j l a e).no_label
        by (Some f) e = (found_free σ turn E R F H f a e).no_label

    -- the name of an equate is no label
    not_both : (d : Equate) → Among d σ.rest.equates → is_label (name_of d) σ.labels ≡ true → ⊥
    not_both d m e =
        let r = at_among F (rw (← eq) at m) in
        true≢false (sym e ∙ ap (λ (x : Equate). is_label (name_of x) σ.labels) (sym r.3) ∙ no_label r.2)

    -- an equate whose name a found one has is that one
    is_that : (d : Equate) → Among d σ.rest.equates → {j : ℕ} {l : Known} (g : Found) → At F j l → l.found ≡ Some g → known_name l ≡ name_of d
        → l.equate ≡ d
    is_that d m {j} {l} g a e p = by (at_among F (rw (← eq) at m))
      where
        by : (i : ℕ) × (k : Known) × At F i k × (k.equate ≡ d) → l.equate ≡ d
        by r = last r.1.found refl
          where
            q : known_name r.1 ≡ name_of d
            q = ap name_of r.3

            last : (o : Option Found) → r.1.found ≡ o → l.equate ≡ d
            last None u =
                absurd (none-some (sym (none-all F (known_name r.1) (pending-free r.0 r.1 r.2 u).fresh a (p ∙ sym q)) ∙ e))
            last (Some f) u =
                let s = same_one σ turn E R F H g f a e r.2 u (p ∙ sym q) in
                ap (λ (x : Known). x.equate) (at_same a (rw (← s.0) at r.2)) ∙ r.3

    -- what a chain from a found equate reaches: a label, or an equate that was found earlier
    abbrev Fine : ℕ → Found → List ℕ → Type 0
    Fine i f n = ((z : ℤ) × Before F f.round i n z) ⊎ (is_label n σ.labels ≡ true)

    fine : {e : Equate} {n : List ℕ} (i : ℕ) (k : Known) (f : Found) → At F i k → k.found ≡ Some f → k.equate ≡ e → Reaches σ.rest.equates e n
        → Fine i f n
    fine {n = n} i k f a e q (uses u) = used_before σ turn E R F H f a e n (rw q u)
    fine {n = n} i k f a e q (onto d m u r) =
        by (used_before σ turn E R F H f a e (name_of d) (rw q u)) (λ j l g b h p. fine j l g b h p r)
      where
        by : Fine i f (name_of d) → ((j : ℕ) (l : Known) (g : Found) → At F j l → l.found ≡ Some g → l.equate ≡ d → Fine j g n) → Fine i f n
        by (inr x) more = absurd (not_both d m x)
        by (inl x) more =
            let b = x.1 in
            last b (more b.place b.known b.found b.at b.has (is_that d m b.found b.at b.has b.is))
          where
            last : (b : Before F f.round i (name_of d) x.0) → Fine b.place b.found n → Fine i f n
            last b (inr y) = inr y
            last b (inl y) =
                let c = y.1 in
                inl (
                  y.0,
                  record {
                    place = c.place;
                    known = c.known;
                    at = c.at;
                    is = c.is;
                    found = c.found;
                    has = c.has;
                    value = c.value;
                    earlier = earlier_trans c.found.round c.place b.found.round b.place f.round i c.earlier b.earlier;
                  },
                )

    pub found_fine : (i : ℕ) (k : Known) (f : Found) → At F i k → k.found ≡ Some f → Unresolved σ k.equate → ⊥
    found_fine i k f a e (undefined n r x) = by (fine i k f a e refl r)
      where
        by : Fine i f n → ⊥
        by (inr l) = true≢false (sym l ∙ x.no_label)
        by (inl y) = named_none n (rw eq at (among_at y.1.at)) x.no_equate y.1.is
    found_fine i k f a e (circular d m r c) = by (fine i k f a e refl r)
      where
        by : Fine i f (name_of d) → ⊥
        by (inr l) = not_both d m l
        by (inl x) =
            let b = x.1 in
            last b (fine b.place b.known b.found b.at b.has (is_that d m b.found b.at b.has b.is) c)
          where
            last : (b : Before F f.round i (name_of d) x.0) → Fine b.place b.found (name_of d) → ⊥
            last b (inr l) = not_both d m l
            last b (inl y) =
                let w = y.1 in
                let s = same_one σ turn E R F H w.found b.found w.at w.has b.at b.has (w.is ∙ sym b.is) in
                never_earlier w.found.round w.place b.found.round b.place (ap (λ (g : Found). g.round) s.1) s.0 w.earlier

  -- where every equate is found, none starts such a chain
  pub none_chained : (F : List Known) (n : ℕ) → AllFound turn σ.rest.equates F n → Chained σ → ⊥
  none_chained F n a c =
      let r = at_among F (rw (← a.equates) at c.1) in
      let f = of_each IsFound all r.2 in
      found_fine a.last F a.history a.equates (λ i k b q. absurd (none-some (sym q ∙ (of_each IsFound all b).1)))
      r.0 r.1 f.0 r.2 f.1 (rw r.3 c.2)
    where
      all : Each IsFound F
      all = none_pending F a.found

-- ---- names that are left

-- how many equates have a name that is not among these
unfoldable free : List (List ℕ) → List Equate → ℕ
free ns [] = 0
free ns (e ∷ es) = cond (is_one_of ns (name_of e)) (free ns es) (suc (free ns es))

free_fewer : (n : List ℕ) (ns : List (List ℕ)) (es : List Equate) → free (n ∷ ns) es ≤ free ns es
unfolding free
free_fewer n ns [] = omega arith
free_fewer n ns (e ∷ es) = by (same n (name_of e)) (is_one_of ns (name_of e)) (free_fewer n ns es)
  where
    by : (a b : Bool) → free (n ∷ ns) es ≤ free ns es
        → cond (a || b) (free (n ∷ ns) es) (suc (free (n ∷ ns) es)) ≤ cond b (free ns es) (suc (free ns es))
    by true true h = h
    by true false h = omega arith
    by false true h = h
    by false false h = omega arith

free_less : {d : Equate} {es : List Equate} (ns : List (List ℕ)) → Among d es → is_one_of ns (name_of d) ≡ false → free (name_of d ∷ ns) es < free ns es
unfolding free
free_less {d} ns (first {xs = es}) e = rw (e, same_refl (name_of d)) (omega (arith, free_fewer (name_of d) ns es))
free_less {d} ns (later {y = x} {xs = es} a) e = by (same (name_of d) (name_of x)) (is_one_of ns (name_of x)) (free_less ns a e)
  where
    n : List ℕ
    n = name_of d

    by : (a b : Bool) → free (n ∷ ns) es < free ns es
        → cond (a || b) (free (n ∷ ns) es) (suc (free (n ∷ ns) es)) < cond b (free ns es) (suc (free ns es))
    by true true h = h
    by true false h = omega arith
    by false true h = h
    by false false h = omega arith

-- ---- a pending equate, where nothing more is found, starts one
module _ (σ : State) (F : List Known) (eq : map (λ k. k.equate) F ≡ σ.rest.equates)
    (lacks : (i : ℕ) (k : Known) → At F i k → k.found ≡ None → Lacks σ F k.equate) where
  -- passed: e itself, or an equate from which a chain has come to e's name
  abbrev Passed : Equate → Equate → Type 0
  Passed e p = Among p σ.rest.equates × ((p ≡ e) ⊎ Reaches σ.rest.equates p (name_of e))

  meets : (e : Equate) (n : List ℕ) (ps : List Equate) → Each (Passed e) ps → is_one_of (map name_of ps) n ≡ true
      → (p : Equate) × Passed e p × (name_of p ≡ n)
  meets e n [] g u = absurd (false≢true u)
  meets e n (p ∷ ps) g u = by (same (name_of p) n) refl u (meets e n ps g.1)
    where
      by : (c : Bool) → same (name_of p) n ≡ c → c || is_one_of (map name_of ps) n ≡ true
          → (is_one_of (map name_of ps) n ≡ true → (p : Equate) × Passed e p × (name_of p ≡ n)) → (p : Equate) × Passed e p × (name_of p ≡ n)
      by true q u more = (p, g.0, same_equal (name_of p) n q)
      by false q u more = more u

  onward : (e d : Equate) (n : List ℕ) → Among e σ.rest.equates → is_used e n ≡ true → name_of d ≡ n → (ps : List Equate) → Each (Passed e) ps
      → Each (Passed d) ps
  onward e d n m u q [] g = tt
  onward e d n m u q (p ∷ ps) g = ((g.0.0, inr (rw q (by g.0.1))), onward e d n m u q ps g.1)
    where
      by : (p ≡ e) ⊎ Reaches σ.rest.equates p (name_of e) → Reaches σ.rest.equates p n
      by (inl x) = uses {e = p} {n = n} (ap (λ (y : Equate). is_used y n) x ∙ u)
      by (inr r) = reaches_last r m u

  -- from a pending equate onward, with fewer names left
  abbrev Next : ℕ → Type 0
  Next b = (j : ℕ) (l : Known) (qs : List Equate) → At F j l → l.found ≡ None → free (map name_of qs) σ.rest.equates < b
      → Each (Passed l.equate) qs → Unresolved σ l.equate

  step : (i : ℕ) (k : Known) (ps : List Equate) → At F i k → k.found ≡ None → Each (Passed k.equate) ps
      → Next (free (map name_of ps) σ.rest.equates) → Unresolved σ k.equate
  step i k ps a e g more = which (named_one σ.rest.equates w.lacked)
    where
      es : List Equate
      es = σ.rest.equates

      w : Lacks σ F k.equate
      w = lacks i k a e

      m : Among k.equate σ.rest.equates
      m = rw eq at (among_at a)

      circle : (p : Equate) × Passed k.equate p × (name_of p ≡ w.lacked) → Unresolved σ k.equate
      circle r = circular r.0 r.1.0 (uses own) (back r.1.1)
        where
          own : is_used k.equate (name_of r.0) ≡ true
          own = ap (λ (z : List ℕ). is_used k.equate z) r.2 ∙ w.used

          back : (r.0 ≡ k.equate) ⊎ Reaches es r.0 (name_of k.equate) → Reaches es r.0 (name_of r.0)
          back (inl x) = uses (ap (λ (y : Equate). is_used y (name_of r.0)) x ∙ own)
          back (inr y) = reaches_last y m own

      -- an equate of the name that k lacks, which is pending too
      on : (d : Equate) → Among d σ.rest.equates → name_of d ≡ w.lacked → (b : Bool) → is_one_of (map name_of ps) w.lacked ≡ b
          → Unresolved σ k.equate
      on d x q true p = circle (meets k.equate w.lacked ps g p)
      on d x q false p = last (at_among F (rw (← eq) at x))
        where
          last : (j : ℕ) × (l : Known) × At F j l × (l.equate ≡ d) → Unresolved σ k.equate
          last r =
              let l = r.1.equate in
              let named : name_of r.1.equate ≡ w.lacked = ap name_of r.3 ∙ q in
              let among : Among r.1.equate σ.rest.equates = rw eq at (among_at r.2) in
              before_use σ k.equate l among (ap (λ (z : List ℕ). is_used k.equate z) named ∙ w.used)
              (more r.0 r.1 (l ∷ ps) r.2 (none-all F w.lacked w.unfound r.2 named)
              (free_less (map name_of ps) among (ap (λ (z : List ℕ). is_one_of (map name_of ps) z) named ∙ p))
              ((among, inl refl), onward k.equate l w.lacked m w.used named ps g))

      which : ((d : Equate) × Among d es × (name_of d ≡ w.lacked)) ⊎ (is_one_of (map name_of es) w.lacked ≡ false) → Unresolved σ k.equate
      which (inr x) = undefined w.lacked (uses w.used) (record { no_equate = x; no_label = w.no_label })
      which (inl r) = on r.0 r.1 r.2 (is_one_of (map name_of ps) w.lacked) refl

  follow : (c : ℕ) (i : ℕ) (k : Known) (ps : List Equate) → At F i k → k.found ≡ None → free (map name_of ps) σ.rest.equates ≤ c
      → Each (Passed k.equate) ps → Unresolved σ k.equate
  follow zero i k ps a e h g = step i k ps a e g (λ j l qs b d p w. absurd (omega arith))
  follow (suc c) i k ps a e h g = step i k ps a e g (λ j l qs b d p w. follow c j l qs b d (omega arith) w)

  pub left_over : (i : ℕ) (k : Known) → At F i k → k.found ≡ None → Unresolved σ k.equate
  left_over i k a e =
      follow (free (map name_of (k.equate ∷ [])) σ.rest.equates) i k (k.equate ∷ []) a e (omega arith) ((rw eq at (among_at a), inl refl), tt)

-- ---- the first line that is left over

-- a pending equate at a line
abbrev pub PendingAt : List Known → ℕ → Type 0
PendingAt F line = (j : ℕ) × (k : Known) × At F j k × (k.found ≡ None) × (k.equate.line ≡ line)

-- there is one
pub first_left : (F : List Known) → 0 < pending_count F → PendingAt F (first_pending F)
unfolding pending_count first_pending
first_left [] h = absurd (omega arith)
first_left (k ∷ ks) h = by k.found refl (first_left ks) h
  where
    by : (o : Option Found) → k.found ≡ o → (0 < pending_count ks → PendingAt ks (first_pending ks))
        → 0 < elim o [ None ↦ suc (pending_count ks) | Some f ↦ pending_count ks ]
        → PendingAt (k ∷ ks) (elim o [ None ↦ k.equate.line | Some f ↦ first_pending ks ])
    by None e more h = (0, k, here, e, refl)
    by (Some f) e more h = let r = more h in (suc r.0, r.1, there r.2, r.3, r.4)

rising_from : {j : ℕ} {k : Known} (n m : ℕ) (F : List Known) → Rising n (map (λ k. k.equate) F) m → At F j k → n ≤ k.equate.line
rising_from n m (x ∷ xs) g here = g.0
rising_from n m (x ∷ xs) g (there a) = omega (arith, g.0, rising_from (suc x.equate.line) m xs g.1 a)
rising_from {j = j} {k = k} n m [] g never = elim never [ ]

-- and none stands before it
first_least : {j : ℕ} {k : Known} (n m : ℕ) (F : List Known) → Rising n (map (λ k. k.equate) F) m → At F j k → k.found ≡ None
    → first_pending F ≤ k.equate.line
unfolding first_pending
first_least n m (x ∷ xs) g here e = rw e (omega arith)
first_least {k = k} n m (x ∷ xs) g (there a) e = by x.found (first_least (suc x.equate.line) m xs g.1 a e)
  where
    by : (o : Option Found) → first_pending xs ≤ k.equate.line → elim o [ None ↦ x.equate.line | Some f ↦ first_pending xs ] ≤ k.equate.line
    by None h = omega (arith, rising_from (suc x.equate.line) m xs g.1 a)
    by (Some f) h = h
first_least {j = j} {k = k} n m [] g never e = elim never [ ]

-- where a last round finds nothing, the first line that is left over is the first whose equate starts such a chain
pub stuck_names : (σ : State) (turn : List Known → Equate → Evaluated) → Evaluator σ turn → (m : ℕ) → Rising 0 σ.rest.equates m
    → (line : ℕ) → Stuck turn σ.rest.equates line → NamesFirst σ line
stuck_names σ turn E m up line s =
    record {
      equate = r.1.equate;
      among = rw s.equates at (among_at r.2);
      at = r.4 ∙ sym s.is;
      starts = left_over σ F s.equates lacks r.0 r.1 r.2 r.3;
      none_before = λ d a h u. before d (at_among F (rw (← s.equates) at a)) h u;
    }
  where
    F : List Known
    F = s.left

    r : PendingAt F (first_pending F)
    r = first_left F s.pending

    waits : (i : ℕ) (k : Known) → At F i k → k.found ≡ None → turn F k.equate ≡ Ok None
    waits i k a e = rw (shown_whole s.last i 0 F s.low) at ((rw e at (s.history i k a)) (suc s.last) (omega arith) (omega arith))

    lacks : (i : ℕ) (k : Known) → At F i k → k.found ≡ None → Lacks σ F k.equate
    lacks i k a e = E.wait_lacks F k.equate (waits i k a e)

    before : (d : Equate) → (j : ℕ) × (l : Known) × At F j l × (l.equate ≡ d) → d.line < line → Unresolved σ d → ⊥
    before d q h u = by q.1.found refl
      where
        by : (o : Option Found) → q.1.found ≡ o → ⊥
        by None e =
            omega (arith, h, s.is, ap (λ (x : Equate). x.line) q.3, first_least 0 m F (rw s.equates up) q.2 e)
        by (Some f) e =
            found_fine σ turn E (suc s.last) F s.history s.equates (λ i k a p. E.wait_free F k.equate (waits i k a p))
            q.0 q.1 f q.2 e (rw q.3 u)
