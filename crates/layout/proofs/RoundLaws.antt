-- What a history of the rounds tells, over any evaluator of which it is known what a value and what a wait say of the names that are
-- used: one found equate to a name, what each used was found before it, and the round that this makes.
use Prim.Native.Nat.{ℕ, zero, suc, ◌+◌, ◌≤◌, ◌<◌, max}
use mathlib.Core.Path.{◌≡◌, refl, sym, ◌∙◌, ap, subst}
use mathlib.Core.Logic.{◌⊎◌, inl, inr}
use mathlib.Core.List.{List, [], ◌∷◌, ◌++◌}
use mathlib.Core.Bool.{Bool, true, false, cond, true≢false, false≢true}
use Rattle.std.proofs.Common.{Option, None, Some}
use native.Mathlib.Omega.{arith}
use native.Mathlib.Decide.{dec_lt}
use lib.IntN.{ℤ}
use lib.ListN.{length}
use Rattle.std.proofs.Common.{Ok}
use Rattle.numbers.specs.Text.{same}
use Rattle.numbers.proofs.Bools.{none-some}
use Rattle.numbers.proofs.Prefixes.{same_equal, same_refl}
use Rattle.layout.specs.Expressions.{Evaluated}
use Rattle.layout.specs.State.{Equate, State}
use Rattle.layout.specs.Stage.{is_label}
use Rattle.layout.specs.Rounds.{Found, Known, pending_equate, or_else, found_value, constant}
use Rattle.layout.specs.Layouts.{EquateAt, cons_found, found_equates}
use Rattle.layout.specs.Terms.{is_used}
use Rattle.layout.specs.Chains.{name_of}
use Rattle.layout.specs.Demands.{recorded_value, largest, lawful_round, sum_of_rounds}
use Rattle.layout.specs.Code.Fits.{Each}
use Rattle.layout.specs.Code.Names.{known_name}
use Rattle.layout.proofs.Each.{each_append}
use Rattle.layout.proofs.RoundHistory.{At, here, there, at_same, Earlier, is_earlier, earlier_true, is_earlier_lem, shown_one, shown, spent}
use Rattle.layout.proofs.RoundHistory.{ToldFound, History, IsFound}

-- ---- a name's value among equates

-- a name that has none: every equate of it is pending
pub none-all : {t : ℕ} {k : Known} (ks : List Known) (n : List ℕ) → constant ks n ≡ None → At ks t k → known_name k ≡ n → k.found ≡ None
unfolding constant
none-all (x ∷ xs) n e here q = by (same (known_name x) n) (ap (λ (m : List ℕ). same m n) q ∙ same_refl n) x.found refl e
  where
    by : (c : Bool) → c ≡ true → (o : Option Found) → x.found ≡ o
        → ◌≡◌ {A = Option ℤ} (elim c [ true ↦ or_else (found_value o) (constant xs n) | false ↦ constant xs n ]) None → x.found ≡ None
    by true u None p e = p
    by true u (Some f) p e = absurd (none-some (sym e))
    by false u o p e = absurd (false≢true u)
none-all (x ∷ xs) n e (there a) q = none-all xs n (by (same (known_name x) n) x.found e) a q
  where
    by : (c : Bool) (o : Option Found) → ◌≡◌ {A = Option ℤ} (elim c [ true ↦ or_else (found_value o) (constant xs n) | false ↦ constant xs n ]) None
        → constant xs n ≡ None
    by true None e = e
    by true (Some f) e = absurd (none-some (sym e))
    by false o e = e
none-all {t = t} {k = k} [] n e never q = elim never [ ]

-- one that has one: it is a found equate's
pub record Valued (ks : List Known) (n : List ℕ) (z : ℤ) : Type 0 where
  pub place : ℕ
  pub known : Known
  pub at : At ks place known
  pub is : known_name known ≡ n
  pub found : Found
  pub has : known.found ≡ Some found
  pub value : found.value ≡ z

pub some_one : (ks : List Known) (n : List ℕ) (z : ℤ) → constant ks n ≡ Some z → Valued ks n z
unfolding constant
some_one [] n z e = absurd (none-some e)
some_one (k ∷ ks) n z e = by (same (known_name k) n) refl k.found refl e (some_one ks n z)
  where
    after : Valued ks n z → Valued (k ∷ ks) n z
    after v = record { place = suc v.place; known = v.known; at = there v.at; is = v.is; found = v.found; has = v.has; value = v.value }

    by : (c : Bool) → same (known_name k) n ≡ c → (o : Option Found) → k.found ≡ o
        → elim c [ true ↦ or_else (found_value o) (constant ks n) | false ↦ constant ks n ] ≡ Some z → (constant ks n ≡ Some z → Valued ks n z)
        → Valued (k ∷ ks) n z
    by true p None q e more = after (more e)
    by true p (Some f) q e more = record { place = 0; known = k; at = here; is = same_equal (known_name k) n p; found = f; has = q; value = cc }
    by false p o q e more = after (more e)

-- ---- what a turn sees, place by place

at_shown : {t : ℕ} {h : Known} (q i j : ℕ) (ks : List Known) → At (shown q i j ks) t h
    → (k : Known) × At ks t k × (h ≡ shown_one q i (j + t) k k.found)
unfolding shown
at_shown q i j [] never = elim never [ ]
at_shown {t = t} {h = h} q i j (k ∷ ks) a = by j h t a (λ u b. at_shown {t = u} {h = h} q i (suc j) ks b)
  where
    by : (j : ℕ) (h : Known) (t : ℕ) → At (shown_one q i j k k.found ∷ shown q i (suc j) ks) t h
        → ((u : ℕ) → At (shown q i (suc j) ks) u h → (m : Known) × At ks u m × (h ≡ shown_one q i (suc j + u) m m.found))
        → (m : Known) × At (k ∷ ks) t m × (h ≡ shown_one q i (j + t) m m.found)
    by j h zero here rec = (k, here, ap (λ n. shown_one q i n k k.found) (omega arith))
    by j h (suc t) (there b) rec =
        let r = rec t b in
        (r.0, there r.1, r.2 ∙ ap (λ n. shown_one q i n r.0 r.0.found) (omega arith))

shown_at : {t : ℕ} {k : Known} (q i j : ℕ) (ks : List Known) → At ks t k → At (shown q i j ks) t (shown_one q i (j + t) k k.found)
unfolding shown
shown_at q i j (k ∷ ks) here = let e : j + 0 ≡ j = omega arith in rw e here
shown_at {t = suc t} q i j (k ∷ ks) (there a) = let e : j + suc t ≡ suc j + t = omega arith in rw e (there (shown_at q i (suc j) ks a))
shown_at {t = t} {k = k} q i j [] never = elim never [ ]

one_name : (q i j : ℕ) (k : Known) (o : Option Found) → known_name (shown_one q i j k o) ≡ known_name k
one_name q i j k None = refl
one_name q i j k (Some f) = by (is_earlier f.round j q i)
  where
    by : (c : Bool) → known_name (cond c k (pending_equate k.equate)) ≡ known_name k
    by true = refl
    by false = refl

one_found : (q i j : ℕ) (k : Known) (f : Found) → (shown_one q i j k k.found).found ≡ Some f → (k.found ≡ Some f) × Earlier f.round j q i
one_found q i j k f e = by k.found refl e
  where
    last : (g : Found) → k.found ≡ Some g → (c : Bool) → is_earlier g.round j q i ≡ c → (cond c k (pending_equate k.equate)).found ≡ Some f
        → (k.found ≡ Some f) × Earlier f.round j q i
    last g p true u e = let s : g ≡ f = cc in (e, rw (← s) (earlier_true g.round j q i u))
    last g p false u e = absurd (none-some e)

    by : (o : Option Found) → k.found ≡ o → (shown_one q i j k o).found ≡ Some f → (k.found ≡ Some f) × Earlier f.round j q i
    by None p e = absurd (none-some e)
    by (Some g) p e = last g p (is_earlier g.round j q i) refl e

found_one : (q i j : ℕ) (k : Known) (f : Found) → k.found ≡ Some f → Earlier f.round j q i → (shown_one q i j k k.found).found ≡ Some f
found_one q i j k f e h =
    ap (λ (o : Option Found). (shown_one q i j k o).found) e
    ∙ ap (λ (c : Bool). (cond c k (pending_equate k.equate)).found) (is_earlier_lem f.round j q i h) ∙ e

-- a name's value as a turn sees it: of an equate that was found earlier
pub record Before (F : List Known) (q i : ℕ) (n : List ℕ) (z : ℤ) : Type 0 where
  pub place : ℕ
  pub known : Known
  pub at : At F place known
  pub is : known_name known ≡ n
  pub found : Found
  pub has : known.found ≡ Some found
  pub value : found.value ≡ z
  pub earlier : Earlier found.round place q i

pub seen_some : (F : List Known) (q i : ℕ) (n : List ℕ) (z : ℤ) → constant (shown q i 0 F) n ≡ Some z → Before F q i n z
seen_some F q i n z e =
    let v = some_one (shown q i 0 F) n z e in
    let r = at_shown q i 0 F v.at in
    let s = one_found q i (0 + v.place) r.0 v.found (ap (λ (x : Known). x.found) (sym r.2) ∙ v.has) in
    let p : 0 + v.place ≡ v.place = omega arith in
    record {
      place = v.place;
      known = r.0;
      at = r.1;
      is = sym (one_name q i (0 + v.place) r.0 r.0.found) ∙ ap known_name (sym r.2) ∙ v.is;
      found = v.found;
      has = s.0;
      value = v.value;
      earlier = rw p at s.1;
    }

-- a name that a turn sees without a value: no equate of it was found earlier
pub seen_none : {t : ℕ} {k : Known} (F : List Known) (q i : ℕ) (n : List ℕ) (f : Found) → constant (shown q i 0 F) n ≡ None → At F t k
    → known_name k ≡ n → k.found ≡ Some f → Earlier f.round t q i → ⊥
seen_none {t} {k} F q i n f e a p h b =
    let z : 0 + t ≡ t = omega arith in
    let o = none-all (shown q i 0 F) n e (shown_at q i 0 F a) (one_name q i (0 + t) k k.found ∙ p) in
    none-some (sym o ∙ found_one q i (0 + t) k f h (rw z b))

-- ---- what is known of an evaluator

module _ (σ : State) where
  -- an equate's name is no label, and has no value yet
  pub record Free (S : List Known) (e : Equate) : Type 0 where
    pub no_label : is_label (name_of e) σ.labels ≡ false
    pub fresh : constant S (name_of e) ≡ None

  -- a name has a value: an equate's, or it is a label
  abbrev pub Has : List Known → List ℕ → Type 0
  Has S n = ((z : ℤ) × (constant S n ≡ Some z)) ⊎ (is_label n σ.labels ≡ true)

  -- a name that an equate uses has none
  pub record Lacks (S : List Known) (e : Equate) : Type 0 where
    pub lacked : List ℕ
    pub used : is_used e lacked ≡ true
    pub no_label : is_label lacked σ.labels ≡ false
    pub unfound : constant S lacked ≡ None

  -- what a value and what a wait say
  pub record Evaluator (turn : List Known → Equate → Evaluated) : Type 0 where
    pub value_free : (S : List Known) (e : Equate) (z : ℤ) → turn S e ≡ Ok (Some z) → Free S e
    pub value_has : (S : List Known) (e : Equate) (z : ℤ) → turn S e ≡ Ok (Some z) → (n : List ℕ) → is_used e n ≡ true → Has S n
    pub wait_free : (S : List Known) (e : Equate) → turn S e ≡ Ok None → Free S e
    pub wait_lacks : (S : List Known) (e : Equate) → turn S e ≡ Ok None → Lacks S e

-- ---- records of found equates

abbrev pub equate_record_of : Known → Found → EquateAt
equate_record_of k f = record { name = k.equate.name; line = k.equate.line; value = f.value; round = f.round }

each_found : (P : EquateAt → Type 0) (ks : List Known) → ((j : ℕ) (k : Known) (f : Found) → At ks j k → k.found ≡ Some f → P (equate_record_of k f))
    → Each P (found_equates ks)
unfolding found_equates
each_found P [] h = tt
each_found P (k ∷ ks) h = by k.found refl (each_found P ks (λ j l f a. h (suc j) l f (there a)))
  where
    by : (o : Option Found) → k.found ≡ o → Each P (found_equates ks) → Each P (cons_found k o (found_equates ks))
    by None e g = g
    by (Some f) e g = (h 0 k f here e, g)

not-recorded : (n : List ℕ) (rs : List EquateAt) → Each (λ r. same r.name.bytes n ≡ false) rs → recorded_value rs n ≡ None
unfolding recorded_value
not-recorded n [] g = refl
not-recorded n (r ∷ rs) g = by (same r.name.bytes n) g.0 (not-recorded n rs g.1)
  where
    by : (c : Bool) → c ≡ false → recorded_value rs n ≡ None
        → ◌≡◌ {A = Option ℤ} (elim c [ true ↦ Some r.value | false ↦ recorded_value rs n ]) None
    by true e h = absurd (true≢false e)
    by false e h = h

-- "Its evaluations are the sum of the n equates' rounds"
pub spent_sum : (R : ℕ) (ks : List Known) → Each IsFound ks → spent R ks ≡ sum_of_rounds (found_equates ks)
unfolding spent sum_of_rounds found_equates
spent_sum R [] g = refl
spent_sum R (k ∷ ks) g = rw g.0.1 (ap (λ n. g.0.0.round + n) (spent_sum R ks g.1))

-- ---- the largest

largest_le : (used : List ℕ → Bool) (more most : ℕ) (rs : List EquateAt) → Each (λ r. used r.name.bytes ≡ true → r.round + more ≤ most) rs
    → largest used more rs ≤ most
unfolding largest
largest_le used more most [] g = omega arith
largest_le used more most (r ∷ rs) g = by (used r.name.bytes) refl (largest_le used more most rs g.1)
  where
    by : (c : Bool) → used r.name.bytes ≡ c → largest used more rs ≤ most → max (cond c (r.round + more) 0) (largest used more rs) ≤ most
    by true e h = omega (arith, g.0 e)
    by false e h = omega arith

largest_ge : {j : ℕ} {k : Known} (used : List ℕ → Bool) (more : ℕ) (ks : List Known) (f : Found) → At ks j k → k.found ≡ Some f
    → used (known_name k) ≡ true → f.round + more ≤ largest used more (found_equates ks)
unfolding largest found_equates
largest_ge used more (k ∷ ks) f here e u = rw (e, u) (omega arith)
largest_ge used more (x ∷ ks) f (there a) e u = by x.found (largest_ge used more ks f a e u)
  where
    by : (o : Option Found) → f.round + more ≤ largest used more (found_equates ks)
        → f.round + more ≤ largest used more (cons_found x o (found_equates ks))
    by None h = h
    by (Some g) h = omega arith
largest_ge {j = j} {k = k} used more [] f never e u = elim never [ ]

largest_of : (r a b : ℕ) → 1 ≤ r → a ≤ r → b ≤ r → (r ≤ 1) ⊎ (r ≤ a) ⊎ (r ≤ b) → r ≡ max 1 (max a b)
largest_of r a b h g i (inl x) = omega arith
largest_of r a b h g i (inr (inl x)) = omega arith
largest_of r a b h g i (inr (inr x)) = omega arith

-- ---- places above and below

at_above : {j : ℕ} {l : Known} (done ks : List Known) → At done j l → At (done ++ ks) j l
at_above (x ∷ done) ks here = here
at_above (x ∷ done) ks (there a) = there (at_above done ks a)
at_above {j = j} {l = l} [] ks never = elim never [ ]

at_below : {j : ℕ} {l : Known} (done ks : List Known) → At ks j l → At (done ++ ks) (length done + j) l
at_below {j} [] ks a = let e : 0 + j ≡ j = omega arith in rw e a
at_below {j} (x ∷ done) ks a = let e : suc (length done) + j ≡ suc (length done + j) = omega arith in rw e (there (at_below done ks a))

pub at_middle : (done : List Known) (k : Known) (ks : List Known) → At (done ++ k ∷ ks) (length done) k
at_middle done k ks = let z : length done + 0 ≡ length done = omega arith in rw (← z) (at_below done (k ∷ ks) here)

at_short : {j : ℕ} {l : Known} {done : List Known} → At done j l → j < length done
at_short here = omega arith
at_short (there a) = omega (arith, at_short a)

-- which side of k a place is on
abbrev Side : List Known → List Known → ℕ → Known → Type 0
Side done ks j l = (At done j l × (j < length done)) ⊎ (j ≡ length done) ⊎ ((t : ℕ) × At ks t l × (j ≡ suc (length done + t)))

at_split : {j : ℕ} {l : Known} (done : List Known) (k : Known) (ks : List Known) → At (done ++ k ∷ ks) j l → Side done ks j l
at_split [] k ks here = inr (inl refl)
at_split {j = suc j} [] k ks (there a) = inr (inr (j, a, omega arith))
at_split (x ∷ done) k ks here = inl (here, omega arith)
at_split {j = suc j} {l} (x ∷ done) k ks (there a) = by (at_split done k ks a)
  where
    by : Side done ks j l → Side (x ∷ done) ks (suc j) l
    by (inl r) = inl (there r.0, omega (arith, r.1))
    by (inr (inl q)) = inr (inl (omega arith))
    by (inr (inr r)) = inr (inr (r.0, r.1, omega (arith, r.2)))

earlier_near : (a j b i : ℕ) → Earlier a j b i → (a ≤ b) × (i < j → suc a ≤ b)
earlier_near a j b i (inl h) = (omega arith, λ p. h)
earlier_near a j b i (inr h) = (omega arith, λ p. absurd (omega arith))

pub never_earlier : (a i b j : ℕ) → a ≡ b → i ≡ j → Earlier a i b j → ⊥
never_earlier a i b j p q (inl x) = omega arith
never_earlier a i b j p q (inr x) = omega (arith, x.1)

-- ---- what a history tells

module _ (σ : State) (turn : List Known → Equate → Evaluated) (E : Evaluator σ turn) (R : ℕ) (F : List Known) (H : History turn R F) where
  pub told : {i : ℕ} {k : Known} (f : Found) → At F i k → k.found ≡ Some f → ToldFound turn R F i k.equate f
  told {i} {k} f a e = rw e at (H i k a)

  pub found_free : {i : ℕ} {k : Known} (f : Found) → At F i k → k.found ≡ Some f → Free σ (shown f.round i 0 F) k.equate
  found_free {i} {k} f a e = E.value_free (shown f.round i 0 F) k.equate f.value (told f a e).gave

  -- two that are found have two names
  one_each : {i j : ℕ} {k l : Known} (f g : Found) → At F i k → k.found ≡ Some f → At F j l → l.found ≡ Some g → known_name k ≡ known_name l → i ≡ j
  one_each {i} {j} {k} {l} f g a e b d p = by (dec_lt f.round g.round) (dec_lt g.round f.round) (dec_lt i j) (dec_lt j i)
    where
      first : Earlier f.round i g.round j → ⊥
      first h = seen_none F g.round j (known_name l) f (found_free g b d).fresh a p e h

      second : Earlier g.round j f.round i → ⊥
      second h = seen_none F f.round i (known_name k) g (found_free f a e).fresh b (sym p) d h

      by : Dec (f.round < g.round) → Dec (g.round < f.round) → Dec (i < j) → Dec (j < i) → i ≡ j
      by (yes h) y z w = absurd (first (inl h))
      by (no h) (yes y) z w = absurd (second (inl y))
      by (no h) (no y) (yes z) w = absurd (first (inr (omega arith, z)))
      by (no h) (no y) (no z) (yes w) = absurd (second (inr (omega arith, w)))
      by (no h) (no y) (no z) (no w) = omega arith

  -- the equates that are found have each their name alone
  pub same_one : {i j : ℕ} {k l : Known} (f g : Found) → At F i k → k.found ≡ Some f → At F j l → l.found ≡ Some g → known_name k ≡ known_name l
      → (i ≡ j) × (f ≡ g)
  same_one {i} {j} {k} {l} f g a e b d p =
      let q = one_each f g a e b d p in
      let s : k ≡ l = at_same a (rw (← q) at b) in
      (q, cc)

  -- what an equate uses is a label, or was found before it
  pub used_before : {i : ℕ} {k : Known} (f : Found) → At F i k → k.found ≡ Some f → (n : List ℕ) → is_used k.equate n ≡ true
      → ((z : ℤ) × Before F f.round i n z) ⊎ (is_label n σ.labels ≡ true)
  used_before {i} {k} f a e n u = by (E.value_has (shown f.round i 0 F) k.equate f.value (told f a e).gave n u)
    where
      by : Has σ (shown f.round i 0 F) n → ((z : ℤ) × Before F f.round i n z) ⊎ (is_label n σ.labels ≡ true)
      by (inl v) = inl (v.0, seen_some F f.round i n v.0 v.1)
      by (inr l) = inr l

  -- ---- one of them, between those above and below

  module _ (done : List Known) (k : Known) (ks : List Known) (are : F ≡ done ++ k ∷ ks) (f : Found) (is : k.found ≡ Some f) where
    abbrev i : ℕ
    i = length done

    pub here_at : At F i k
    here_at = rw are (at_middle done k ks)

    above_at : {j : ℕ} {x : Known} → At done j x → At F j x
    above_at a = rw are (at_above done (k ∷ ks) a)

    below_at : {j : ℕ} {x : Known} → At ks j x → At F (suc (length done + j)) x
    below_at {j} a = let z : suc (length done + j) ≡ length done + suc j = omega arith in rw (are, z) (at_below done (k ∷ ks) (there a))

    -- an equate that it uses was found earlier
    used_earlier : {j : ℕ} {x : Known} (g : Found) → At F j x → x.found ≡ Some g → is_used k.equate (known_name x) ≡ true
        → Earlier g.round j f.round i
    used_earlier {j} {x} g a e u = by (used_before f here_at is (known_name x) u)
      where
        by : ((z : ℤ) × Before F f.round i (known_name x) z) ⊎ (is_label (known_name x) σ.labels ≡ true) → Earlier g.round j f.round i
        by (inl v) =
            let b = v.1 in
            let s = same_one b.found g b.at b.has a e b.is in
            rw (s.0, s.1) at b.earlier
        by (inr q) = absurd (true≢false (sym q ∙ (found_free g a e).no_label))

    A : ℕ
    A = largest (is_used k.equate) 0 (found_equates done)

    B : ℕ
    B = largest (is_used k.equate) 1 (found_equates ks)

    above_most : A ≤ f.round
    unfolding A
    above_most =
        largest_le (is_used k.equate) 0 f.round (found_equates done)
        (each_found (λ r. is_used k.equate r.name.bytes ≡ true → r.round + 0 ≤ f.round) done
        (λ j x g a e u. omega (arith, (earlier_near g.round j f.round i (used_earlier g (above_at a) e u)).0)))

    below_most : B ≤ f.round
    unfolding B
    below_most =
        largest_le (is_used k.equate) 1 f.round (found_equates ks)
        (each_found (λ r. is_used k.equate r.name.bytes ≡ true → r.round + 1 ≤ f.round) ks
        (λ j x g a e u.
        omega (arith, (earlier_near g.round (suc (length done + j)) f.round i (used_earlier g (below_at a) e u)).1 (omega arith))))

    -- what it lacked one round before
    tight : (q : ℕ) → f.round ≡ suc q → 1 ≤ q → (f.round ≤ A) ⊎ (f.round ≤ B)
    unfolding A B
    tight q e h = by (used_before f here_at is w.lacked w.used)
      where
        w : Lacks σ (shown q i 0 F) k.equate
        w = E.wait_lacks (shown q i 0 F) k.equate ((told f here_at is).waited q h (omega arith))

        late : (b : Found) (j : ℕ) → (Earlier b.round j q i → ⊥) → Dec (b.round < q) → q ≤ b.round
        late b j u (yes p) = absurd (u (inl p))
        late b j u (no p) = omega arith

        later : (b : Found) (j : ℕ) → (Earlier b.round j q i → ⊥) → j < i → Dec (b.round < suc q) → suc q ≤ b.round
        later b j u p (yes x) = absurd (u (inr (omega (arith, late b j u (dec_lt b.round q)), p)))
        later b j u p (no x) = omega arith

        by : ((z : ℤ) × Before F f.round i w.lacked z) ⊎ (is_label w.lacked σ.labels ≡ true) → (f.round ≤ A) ⊎ (f.round ≤ B)
        by (inr x) = absurd (true≢false (sym x ∙ w.no_label))
        by (inl v) = place (at_split done k ks (rw are at v.1.at))
          where
            b : Before F f.round i w.lacked v.0
            b = v.1

            unseen : Earlier b.found.round b.place q i → ⊥
            unseen p = seen_none F q i w.lacked b.found w.unfound b.at b.is b.has p

            used : is_used k.equate (known_name b.known) ≡ true
            used = ap (λ (n : List ℕ). is_used k.equate n) b.is ∙ w.used

            itself : b.place ≡ length done → ⊥
            itself x =
                let a = subst (λ (n : ℕ). At F n k) (sym x) here_at in
                let s = same_one b.found f b.at b.has here_at is (ap known_name (at_same b.at a)) in
                never_earlier b.found.round b.place f.round i (ap (λ (g : Found). g.round) s.1) s.0 b.earlier

            place : Side done ks b.place b.known → (f.round ≤ A) ⊎ (f.round ≤ B)
            place (inl x) =
                inl (omega (
                  arith,
                  e,
                  later b.found b.place unseen x.1 (dec_lt b.found.round (suc q)),
                  largest_ge (is_used k.equate) 0 done b.found x.0 b.has used,
                ))
            place (inr (inl x)) = absurd (itself x)
            place (inr (inr x)) =
                inr (omega (
                  arith,
                  e,
                  late b.found b.place unseen (dec_lt b.found.round q),
                  largest_ge (is_used k.equate) 1 ks b.found x.1 b.has used,
                ))

    -- its round is the one that the law gives
    pub round_lawful : f.round ≡ lawful_round (is_used k.equate) (found_equates done) (found_equates ks)
    unfolding A B
    round_lawful = largest_of f.round A B (told f here_at is).from above_most below_most (by (dec_lt 1 f.round))
      where
        pred : (r : ℕ) → 1 < r → (q : ℕ) × (r ≡ suc q) × (1 ≤ q)
        pred zero h = absurd (omega arith)
        pred (suc q) h = (q, refl, omega arith)

        by : Dec (1 < f.round) → (f.round ≤ 1) ⊎ (f.round ≤ A) ⊎ (f.round ≤ B)
        by (yes h) = let p = pred f.round h in inr (tight p.0 p.1 p.2)
        by (no h) = inl (omega arith)

    -- no other has its name
    pub unshared : recorded_value (found_equates done ++ found_equates ks) (known_name k) ≡ None
    unshared =
        not-recorded (known_name k) (found_equates done ++ found_equates ks) (each_append Other (found_equates done) (found_equates ks)
        (each_found Other done (λ j x g a e. other g (above_at a) e (λ q. omega (arith, at_short a))))
        (each_found Other ks (λ j x g a e. other g (below_at a) e (λ q. omega arith))))
      where
        Other : EquateAt → Type 0
        Other r = same r.name.bytes (known_name k) ≡ false

        other : {j : ℕ} {x : Known} (g : Found) → At F j x → x.found ≡ Some g → (j ≡ i → ⊥) → same (known_name x) (known_name k) ≡ false
        other {j} {x} g a e n = by (same (known_name x) (known_name k)) refl
          where
            by : (c : Bool) → same (known_name x) (known_name k) ≡ c → same (known_name x) (known_name k) ≡ false
            by true q = absurd (n (same_one g f a e here_at is (same_equal (known_name x) (known_name k) q)).0)
            by false q = q

    -- and it does not use itself
    pub not_itself : is_used k.equate (known_name k) ≡ false
    not_itself = by (is_used k.equate (known_name k)) refl
      where
        by : (c : Bool) → is_used k.equate (known_name k) ≡ c → is_used k.equate (known_name k) ≡ false
        by true q = absurd (never_earlier f.round i f.round i refl refl (used_earlier f here_at is q))
        by false q = q
