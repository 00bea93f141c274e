-- An accepted layout has no chain: where demand 3 holds of its records, every name that an equate uses has a value, and of two equates the one that
-- is used was found earlier. So no chain of uses comes back to a name in it or reaches an undefined one.
use Prim.Native.Nat.{ℕ, suc, ◌+◌, ◌≤◌, ◌<◌}
use mathlib.Core.Path.{◌≡◌, refl, sym, ◌∙◌, ap, ap₂, subst}
use mathlib.Core.Logic.{◌⊎◌, inl, inr}
use mathlib.Core.List.{List, [], ◌∷◌, ◌++◌, map}
use mathlib.Core.Bool.{Bool, true, false, not, ◌||◌, true≢false, false≢true}
use Rattle.std.proofs.Common.{Option, None, Some}
use native.Mathlib.Decide.{dec_lt}
use native.Mathlib.Omega.{arith}
use lib.IntN.{ℤ, pos}
use Rattle.numbers.specs.Text.{same}
use Rattle.numbers.proofs.Bools.{none-some, or_left, or_right}
use Rattle.numbers.proofs.Prefixes.{same_equal}
use Rattle.layout.specs.Bytes.{is_one_of}
use Rattle.layout.specs.Pieces.{Piece}
use Rattle.layout.specs.Limits.{Lent}
use Rattle.layout.specs.Expressions.{Token, Wanted, dot, joint, minus, name, negative, number, plus, positive, term, unreadable}
use Rattle.layout.specs.State.{Equate, State}
use Rattle.layout.specs.Addresses.{address_at}
use Rattle.layout.specs.Rounds.{or_else, as_number}
use Rattle.layout.specs.Layouts.{EquateAt, Layout, Answer}
use Rattle.layout.specs.Terms.{Atom, named, Term, cons_term, terms_from, tokens_of, atom_value, plus_term, signed_sum, names_in, is_used}
use Rattle.layout.specs.Chains.{Among, first, later, name_of, Reaches, uses, onto, Unresolved, undefined, circular, Chained}
use Rattle.layout.specs.Demands.{recorded_value, final_value, largest, EquateHolds, OneByOne, BeforeRounds, Holds, Demanded}
use Rattle.layout.proofs.ResultLaws.{value_same, some_same}
use Rattle.layout.proofs.RoundHistory.{Earlier}
use Rattle.layout.proofs.RoundLaws.{never_earlier}
use Rattle.layout.proofs.ChainLaws.{earlier_trans}
use Rattle.layout.proofs.ResolveLaws.{no_label_address}

-- ---- every name in a sum has a value

module _ (look : List ℕ → Option ℤ) (here : ℤ) where
  -- no name among these tokens lacks one
  abbrev AllKnown : List Token → Type 0
  AllKnown ts = (n : List ℕ) → is_one_of (names_in ts) n ≡ true → look n ≡ None → ⊥

  -- of terms that have a sum
  abbrev IfSummed : Wanted → List Token → Type 0 → Type 0
  IfSummed w ts P = (us : List Term) (v : ℤ) → terms_from w ts ≡ Some us → signed_sum look here us ≡ Some v → P

  -- a term before them has a value, and they have their sum
  with_atom : (joining own : Bool) (a : Atom) (ts : List Token) {P : Type 0} → ((atom_value look here a ≡ None → ⊥) → IfSummed joint ts P)
      → (us : List Term) (v : ℤ) → cons_term joining own a (terms_from joint ts) ≡ Some us → signed_sum look here us ≡ Some v → P
  unfolding signed_sum
  with_atom joining own a ts {P} more us v e s = by (terms_from joint ts) refl e
    where
      t : Term
      t = record { joining = joining; own = own; atom = a }

      parts : (rest : List Term) → terms_from joint ts ≡ Some rest → (o p : Option ℤ) → atom_value look here a ≡ o → signed_sum look here rest ≡ p
          → plus_term t o p ≡ Some v → P
      parts rest q None p x y z = absurd (none-some z)
      parts rest q (Some m) None x y z = absurd (none-some z)
      parts rest q (Some m) (Some w) x y z = more (λ c. none-some (sym c ∙ x)) rest w q y

      by : (o : Option (List Term)) → terms_from joint ts ≡ o → cons_term joining own a o ≡ Some us → P
      by None q e = absurd (none-some e)
      by (Some rest) q e =
          parts rest q (atom_value look here a) (signed_sum look here rest) refl refl (ap (signed_sum look here) (some_same e) ∙ s)

  all_known : (w : Wanted) (ts : List Token) → IfSummed w ts (AllKnown ts)
  unfolding terms_from names_in
  all_known w [] us v e s = λ n h c. false≢true h
  all_known (term j o) (plus ∷ ts) us v e s = all_known (term j o) ts us v e s
  all_known (term j o) (minus ∷ ts) us v e s = all_known (term j (not o)) ts us v e s
  all_known (term j o) (dot ∷ ts) us v e s = with_atom j o _ ts (λ _. all_known joint ts) us v e s
  all_known (term j o) (number z ∷ ts) us v e s = with_atom j o _ ts (λ _. all_known joint ts) us v e s
  all_known (term j o) (name m ∷ ts) us v e s =
      with_atom j o (named m) ts (λ k rest w q y n h c. by n c k (same m n) refl h (all_known joint ts rest w q y n)) us v e s
    where
      by : (n : List ℕ) → look n ≡ None → (look m ≡ None → ⊥) → (b : Bool) → same m n ≡ b → b || is_one_of (names_in ts) n ≡ true
          → (is_one_of (names_in ts) n ≡ true → look n ≡ None → ⊥) → ⊥
      by n c k true p h more = k (ap look (same_equal m n p) ∙ c)
      by n c k false p h more = more h c
  all_known (term j o) (unreadable ∷ ts) us v e s = absurd (none-some e)
  all_known joint (plus ∷ ts) us v e s = all_known (term positive positive) ts us v e s
  all_known joint (minus ∷ ts) us v e s = all_known (term negative positive) ts us v e s
  all_known joint (dot ∷ ts) us v e s = absurd (none-some e)
  all_known joint (number z ∷ ts) us v e s = absurd (none-some e)
  all_known joint (name m ∷ ts) us v e s = absurd (none-some e)
  all_known joint (unreadable ∷ ts) us v e s = absurd (none-some e)

-- ---- members and their records

-- how many stand before it
abbrev place : {A : Type 0} {x : A} {xs : List A} → Among x xs → ℕ
place first = 0
place (later a) = suc (place a)

module _ {A B : Type 0} (P : A → List B → B → List B → Type 0) where
  -- a member's record, and those above and below it
  record RecordAt (x : A) : Type 0 where
    above : List B
    own : B
    below : List B
    holds : P x above own below

  abbrev record_at : {x : A} {xs : List A} → Among x xs → (up rs : List B) → OneByOne P xs up rs → RecordAt x
  record_at (first {xs = xs}) up [] h = absurd h
  record_at (first {xs = xs}) up (r ∷ rs) h = record { above = up; own = r; below = rs; holds = h.0 }
  record_at (later a) up [] h = absurd h
  record_at (later a) up (r ∷ rs) h = record_at a (up ++ r ∷ []) rs h.1

  kept_above : {x : A} {xs : List A} {y : B} (a : Among x xs) (up rs : List B) (h : OneByOne P xs up rs) → Among y up
      → Among y (record_at a up rs h).above
  kept_above first up [] h m = absurd h
  kept_above first up (r ∷ rs) h m = m
  kept_above (later a) up [] h m = absurd h
  kept_above (later a) up (r ∷ rs) h m = kept_above a (up ++ r ∷ []) rs h.1 (among_more up m)
    where
      among_more : {y : B} (ys : List B) → Among y ys → Among y (ys ++ r ∷ [])
      among_more (z ∷ ys) first = first
      among_more (z ∷ ys) (later i) = later (among_more ys i)
      among_more [] never = elim never [ ]

  own_among : {x : A} {xs : List A} (a : Among x xs) (up rs : List B) (h : OneByOne P xs up rs) → Among (record_at a up rs h).own rs
  own_among first up [] h = absurd h
  own_among first up (r ∷ rs) h = first
  own_among (later a) up [] h = absurd h
  own_among (later a) up (r ∷ rs) h = later (own_among a (up ++ r ∷ []) rs h.1)

  last_among : (r : B) (ys : List B) → Among r (ys ++ r ∷ [])
  last_among r [] = first
  last_among r (y ∷ ys) = later (last_among r ys)

  -- of two members, the record of y stands above that of x, or below it, or they are one
  compared : {x y : A} {xs : List A} (a : Among x xs) (b : Among y xs) (up rs : List B) (h : OneByOne P xs up rs)
      → ((place b < place a) × Among (record_at b up rs h).own (record_at a up rs h).above)
      ⊎ Among (record_at b up rs h).own (record_at a up rs h).below ⊎ (y ≡ x)
  compared first b up [] h = absurd h
  compared (later a) b up [] h = absurd h
  compared first first up (r ∷ rs) h = inr (inr refl)
  compared first (later b) up (r ∷ rs) h = inr (inl (own_among b (up ++ r ∷ []) rs h.1))
  compared (later a) first up (r ∷ rs) h = inl (omega arith, kept_above a (up ++ r ∷ []) rs h.1 (last_among r up))
  compared {x = x} {y = y} (later a) (later b) up (r ∷ rs) h = by (compared a b (up ++ r ∷ []) rs h.1)
    where
      X : List B
      X = (record_at a (up ++ r ∷ []) rs h.1).above

      Y : List B
      Y = (record_at a (up ++ r ∷ []) rs h.1).below

      z : B
      z = (record_at b (up ++ r ∷ []) rs h.1).own

      by : ((place b < place a) × Among z X) ⊎ Among z Y ⊎ (y ≡ x) → ((suc (place b) < suc (place a)) × Among z X) ⊎ Among z Y ⊎ (y ≡ x)
      by (inl m) = inl (omega (arith, m.0), m.1)
      by (inr m) = inr m

-- ---- rounds

largest_in : {r : EquateAt} (used : List ℕ → Bool) (more : ℕ) (rs : List EquateAt) → Among r rs → used r.name.bytes ≡ true
    → r.round + more ≤ largest used more rs
unfolding largest
largest_in used more (r ∷ rs) first u = rw u (omega arith)
largest_in used more (x ∷ rs) (later a) u = omega (arith, largest_in used more rs a u)
largest_in {r = r} used more [] never u = elim never [ ]

-- the last equate of a chain uses the name that it reaches
last_use : {es : List Equate} {e : Equate} {n : List ℕ} → Among e es → Reaches es e n → (d : Equate) × Among d es × (is_used d n ≡ true)
last_use {e = e} a (uses u) = (e, a, u)
last_use a (onto d m u r) = last_use m r

module _ (base : ℕ) (σ : State) (l : Layout) (holds : Holds base σ l) where
  abbrev Held : Equate → List EquateAt → EquateAt → List EquateAt → Type 0
  Held = EquateHolds base σ l

  abbrev held_of : {e : Equate} → Among e σ.rest.equates → RecordAt Held e
  held_of a = record_at Held a [] l.equates holds.equates

  abbrev round_of : {e : Equate} → Among e σ.rest.equates → ℕ
  round_of a = (held_of a).own.round

  -- one that is used was found earlier
  used_earlier : {e d : Equate} (a : Among e σ.rest.equates) (b : Among d σ.rest.equates) → is_used e (name_of d) ≡ true
      → Earlier (round_of b) (place b) (round_of a) (place a)
  used_earlier {e} {d} a b u = by (compared Held a b [] l.equates holds.equates)
    where
      x : RecordAt Held e
      x = held_of a

      y : RecordAt Held d
      y = held_of b

      used : is_used e y.own.name.bytes ≡ true
      used = ap (λ (p : Piece). is_used e p.bytes) y.holds.name ∙ u

      by : ((place b < place a) × Among y.own x.above) ⊎ Among y.own x.below ⊎ (d ≡ e)
          → Earlier y.own.round (place b) x.own.round (place a)
      by (inl m) = which (dec_lt y.own.round x.own.round)
        where
          which : Dec (y.own.round < x.own.round) → Earlier y.own.round (place b) x.own.round (place a)
          which (yes h) = inl h
          which (no h) = inr (omega (arith, h, x.holds.round, largest_in (is_used e) 0 x.above m.1 used), m.0)
      by (inr (inl m)) = inl (omega (arith, x.holds.round, largest_in (is_used e) 1 x.below m used))
      by (inr (inr q)) = absurd (true≢false (sym u ∙ ap (λ (z : Equate). is_used e (name_of z)) q ∙ x.holds.not_itself))

  reached_earlier : {e d : Equate} {n : List ℕ} → Reaches σ.rest.equates e n → (a : Among e σ.rest.equates) (b : Among d σ.rest.equates)
      → n ≡ name_of d → Earlier (round_of b) (place b) (round_of a) (place a)
  reached_earlier {e} (uses u) a b q = used_earlier a b (ap (is_used e) (sym q) ∙ u)
  reached_earlier (onto c m u r) a b q =
      earlier_trans (round_of b) (place b) (round_of m) (place m) (round_of a) (place a) (reached_earlier r m b q) (used_earlier a m u)

  -- a name that no equate has is not recorded
  none-recorded : (n : List ℕ) (es : List Equate) (up rs : List EquateAt) → OneByOne Held es up rs → is_one_of (map name_of es) n ≡ false
      → recorded_value rs n ≡ None
  unfolding recorded_value
  none-recorded n [] up [] h e = refl
  none-recorded n [] up (r ∷ rs) h e = absurd h
  none-recorded n (x ∷ es) up [] h e = absurd h
  none-recorded n (x ∷ es) up (r ∷ rs) h e =
      let q : same r.name.bytes n ≡ false =
      ap (λ (p : Piece). same p.bytes n) h.0.name ∙ or_left (same (name_of x) n) (is_one_of (map name_of es) n) e in
      ap (λ (c : Bool). elim c [ true ↦ Some r.value | false ↦ recorded_value rs n ]) q
      ∙ none-recorded n es (up ++ r ∷ []) rs h.1 (or_right (same (name_of x) n) (is_one_of (map name_of es) n) e)

  pub holds_unchained : Chained σ → ⊥
  holds_unchained c = by c.2
    where
      by : Unresolved σ c.0 → ⊥
      by (circular d m r s) =
          never_earlier (round_of m) (place m) (round_of m) (place m) refl refl (reached_earlier s m m refl)
      by (undefined n r u) =
          let w = last_use c.1 r in
          let h = (held_of w.1).holds in
          let e : final_value l n ≡ None =
          ap₂ or_else (none-recorded n σ.rest.equates [] l.equates holds.equates u.no_equate)
          (ap as_number (holds.labels n ∙ no_label_address base σ σ.labels n u.no_label)) in
          all_known (final_value l) (pos (address_at base σ w.0.place)) _ (tokens_of w.0) h.terms _ h.well_formed h.value n w.2 e

-- of an accepted answer, by demand 3 alone
pub accepted_unchained : (t : List ℕ) (base : ℕ) (k : Lent) (a : Answer) → Demanded t base k a → a.number ≡ 0 → (σ : State) (bytes : List ℕ)
    → BeforeRounds t base k σ bytes → Chained σ → ⊥
accepted_unchained t base k a d n σ bytes b c =
    let h = d.accepted n in
    let s : σ ≡ h.0 = value_same (sym b.read ∙ h.2.read) in
    holds_unchained base h.0 _ h.3 (subst Chained s c)
