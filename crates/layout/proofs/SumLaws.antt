-- An expression's evaluation against its terms: a value is the signed sum, a wait is for a name that it uses, a refusal is 16 or 24.
use Prim.Native.Nat.{ℕ}
use mathlib.Core.Path.{◌≡◌, refl, sym, ◌∙◌, ap}
use mathlib.Core.Logic.{◌⊎◌, inl, inr}
use mathlib.Core.List.{List, [], ◌∷◌}
use mathlib.Core.Bool.{Bool, true, false, cond, not, ◌||◌, ◌&&◌, false≢true}
use Rattle.std.proofs.Common.{Option, None, Some}
use lib.IntN.{ℤ, pos, ◌+ℤ◌, +ℤ_assoc, +ℤ_idr, +ℤ_idl}
use Rattle.std.proofs.Common.{Ok, Err}
use Rattle.numbers.specs.Text.{same}
use Rattle.numbers.specs.Ints.{in64, fit64, sign_times}
use Rattle.numbers.proofs.Bools.{none-some, and_both}
use Rattle.numbers.proofs.Prefixes.{same_equal, same_refl}
use Rattle.layout.specs.Bytes.{is_one_of}
use Rattle.layout.specs.Expressions.{Token, plus, minus, dot, number, name, unreadable, tokens, any_unreadable, Evaluated, positive, negative}
use Rattle.layout.specs.Expressions.{Wanted, term, joint, on_fit, add_term, on_name, sum_from, evaluate}
use Rattle.layout.specs.Terms.{Atom, own_address, literal, named, Term, cons_term, terms_from, atom_value, plus_term, signed_sum, names_in}
use Rattle.layout.specs.Chains.{if_known, is_within}
use Rattle.layout.proofs.ResultLaws.{value-refused, some_same}

-- ---- one term

fit_same : (y z : ℤ) → fit64 y ≡ Some z → y ≡ z
unfolding fit64
fit_same y z e = by (in64 y) e
  where
    by : (c : Bool) → cond c (Some y) None ≡ Some z → y ≡ z
    by true e = cc
    by false e = absurd (none-some e)

-- beyond 64 signed bits, or what comes next
on_fit_lem : (y : ℤ) (f : ℤ → Evaluated) (v : Evaluated) → on_fit (fit64 y) f ≡ v → (v ≡ Err 24) ⊎ (f y ≡ v)
on_fit_lem y f v e = by (fit64 y) refl e
  where
    by : (o : Option ℤ) → fit64 y ≡ o → on_fit o f ≡ v → (v ≡ Err 24) ⊎ (f y ≡ v)
    by None q e = inl (sym e)
    by (Some z) q e = inr (rw (fit_same y z q) e)

add_term_lem : (sum : ℤ) (j o : Bool) (y : ℤ) (f : ℤ → Evaluated) (v : Evaluated) → add_term sum j o y f ≡ v
    → (v ≡ Err 24) ⊎ (f (sum +ℤ sign_times j (sign_times o y)) ≡ v)
add_term_lem sum j o y f v e = by (on_fit_lem (sign_times o y) _ v e)
  where
    z : ℤ
    z = sign_times j (sign_times o y)

    last : (v ≡ Err 24) ⊎ (on_fit (fit64 (sum +ℤ z)) f ≡ v) → (v ≡ Err 24) ⊎ (f (sum +ℤ z) ≡ v)
    last (inl q) = inl q
    last (inr q) = on_fit_lem (sum +ℤ z) f v q

    by : (v ≡ Err 24) ⊎ (on_fit (fit64 z) (λ q. on_fit (fit64 (sum +ℤ q)) f) ≡ v) → (v ≡ Err 24) ⊎ (f (sum +ℤ z) ≡ v)
    by (inl q) = inl q
    by (inr q) = last (on_fit_lem z _ v q)

or-true : (a b : Bool) → a || b ≡ true → (a ≡ true) ⊎ (b ≡ true)
or-true true b e = inl refl
or-true false b e = inr e

or_more : (a b : Bool) → b ≡ true → a || b ≡ true
or_more true b e = refl
or_more false b e = e

-- ---- what an evaluation says

module _ (look : List ℕ → Option ℤ) (at : ℤ) where
  -- a value: the terms, their signed sum, and each name's value
  pub record Summed (sum : ℤ) (w : Wanted) (ts : List Token) (z : ℤ) : Type 0 where
    pub terms : List Term
    pub are : terms_from w ts ≡ Some terms
    pub rest : ℤ
    pub sums : signed_sum look at terms ≡ Some rest
    pub total : z ≡ sum +ℤ rest
    pub known : (n : List ℕ) → is_one_of (names_in ts) n ≡ true → (v : ℤ) × (look n ≡ Some v)

  -- a wait: a name without a value
  pub record Waits (ts : List Token) : Type 0 where
    pub lacked : List ℕ
    pub used : is_one_of (names_in ts) lacked ≡ true
    pub unknown : look lacked ≡ None

  -- a refusal: 16 where there are no terms, or 24
  abbrev pub Refuses : Wanted → List Token → ℕ → Type 0
  Refuses w ts m = ((m ≡ 16) × (terms_from w ts ≡ None)) ⊎ (m ≡ 24)

  abbrev pub SaidOf : ℤ → Wanted → List Token → Evaluated → Type 0
  SaidOf sum w ts (Ok (Some z)) = Summed sum w ts z
  SaidOf sum w ts (Ok None) = Waits ts
  SaidOf sum w ts (Err m) = Refuses w ts m

  -- one term more before what is said of the rest
  with_term : (sum y : ℤ) (j o : Bool) (a : Atom) (x : Token) (ts : List Token)
      → terms_from (term j o) (x ∷ ts) ≡ cons_term j o a (terms_from joint ts) → atom_value look at a ≡ Some y
      → ((n : List ℕ) → is_one_of (names_in (x ∷ ts)) n ≡ true → (is_one_of (names_in ts) n ≡ true) ⊎ (look n ≡ Some y))
      → ((n : List ℕ) → is_one_of (names_in ts) n ≡ true → is_one_of (names_in (x ∷ ts)) n ≡ true)
      → (v : Evaluated) → SaidOf (sum +ℤ sign_times j (sign_times o y)) joint ts v → SaidOf sum (term j o) (x ∷ ts) v
  unfolding signed_sum
  with_term sum y j o a x ts e q names more (Ok (Some z)) s =
      record {
        terms = record { joining = j; own = o; atom = a } ∷ s.terms;
        are = e ∙ ap (cons_term j o a) s.are;
        rest = sign_times j (sign_times o y) +ℤ s.rest;
        sums = rw (q, s.sums) refl;
        total = s.total ∙ +ℤ_assoc sum (sign_times j (sign_times o y)) s.rest;
        known = λ n u. by n (names n u);
      }
    where
      by : (n : List ℕ) → (is_one_of (names_in ts) n ≡ true) ⊎ (look n ≡ Some y) → (v : ℤ) × (look n ≡ Some v)
      by n (inl u) = s.known n u
      by n (inr u) = (y, u)
  with_term sum y j o a x ts e q names more (Ok None) s =
      record { lacked = s.lacked; used = more s.lacked s.used; unknown = s.unknown }
  with_term sum y j o a x ts e q names more (Err m) (inl s) = inl (s.0, e ∙ ap (cons_term j o a) s.1)
  with_term sum y j o a x ts e q names more (Err m) (inr s) = inr s

  -- a term added, then the rest; or 24
  adds : (sum y : ℤ) (j o : Bool) (ts ys : List Token) (w : Wanted)
      → ((v : Evaluated) → SaidOf (sum +ℤ sign_times j (sign_times o y)) joint ts v → SaidOf sum w ys v)
      → ((z : ℤ) → SaidOf z joint ts (sum_from look at z joint ts))
      → SaidOf sum w ys (add_term sum j o y (λ z. sum_from look at z joint ts))
  adds sum y j o ts ys w f ih = by (add_term_lem sum j o y rest (add_term sum j o y rest) refl)
    where
      rest : ℤ → Evaluated
      rest z = sum_from look at z joint ts

      next : ℤ
      next = sum +ℤ sign_times j (sign_times o y)

      by : (add_term sum j o y rest ≡ Err 24) ⊎ (rest next ≡ add_term sum j o y rest) → SaidOf sum w ys (add_term sum j o y rest)
      by (inl q) = rw q (inr refl)
      by (inr q) = rw (← q) (f (rest next) (ih next))

  -- a sign before the rest
  same_rest : (ts : List Token) (w w' : Wanted) (x : Token) (sum : ℤ) → terms_from w (x ∷ ts) ≡ terms_from w' ts → names_in (x ∷ ts) ≡ names_in ts
      → (v : Evaluated) → SaidOf sum w' ts v → SaidOf sum w (x ∷ ts) v
  same_rest ts w w' x sum e q (Ok (Some z)) s =
      record { terms = s.terms; are = e ∙ s.are; rest = s.rest; sums = s.sums; total = s.total; known = λ n u. s.known n (rw q at u) }
  same_rest ts w w' x sum e q (Ok None) s = record { lacked = s.lacked; used = rw q s.used; unknown = s.unknown }
  same_rest ts w w' x sum e q (Err m) (inl s) = inl (s.0, e ∙ s.1)
  same_rest ts w w' x sum e q (Err m) (inr s) = inr s

  pub says_sum : (sum : ℤ) (w : Wanted) (ts : List Token) → SaidOf sum w ts (sum_from look at sum w ts)
  unfolding sum_from terms_from signed_sum names_in
  says_sum sum (term j o) [] = inl (refl, refl)
  says_sum sum joint [] =
      record { terms = []; are = refl; rest = pos 0; sums = refl; total = sym (+ℤ_idr sum); known = λ n u. absurd (false≢true u) }
  says_sum sum (term j o) (plus ∷ ts) =
      same_rest ts (term j o) (term j o) plus sum refl refl (sum_from look at sum (term j o) ts) (says_sum sum (term j o) ts)
  says_sum sum (term j o) (minus ∷ ts) =
      same_rest ts (term j o) (term j (not o)) minus sum refl refl (sum_from look at sum (term j (not o)) ts) (says_sum sum (term j (not o)) ts)
  says_sum sum (term j o) (dot ∷ ts) =
      adds sum at j o ts (dot ∷ ts) (term j o)
      (with_term sum at j o own_address dot ts refl refl (λ n u. inl u) (λ n u. u)) (λ z. says_sum z joint ts)
  says_sum sum (term j o) (number v ∷ ts) =
      adds sum v j o ts (number v ∷ ts) (term j o)
      (with_term sum v j o (literal v) (number v) ts refl refl (λ n u. inl u) (λ n u. u)) (λ z. says_sum z joint ts)
  says_sum sum (term j o) (name m ∷ ts) = by (look m) refl (λ z. says_sum z joint ts)
    where
      is_name : (y : ℤ) → look m ≡ Some y → (n : List ℕ) → same m n || is_one_of (names_in ts) n ≡ true
          → (is_one_of (names_in ts) n ≡ true) ⊎ (look n ≡ Some y)
      is_name y q n u = which (or-true (same m n) (is_one_of (names_in ts) n) u)
        where
          which : (same m n ≡ true) ⊎ (is_one_of (names_in ts) n ≡ true) → (is_one_of (names_in ts) n ≡ true) ⊎ (look n ≡ Some y)
          which (inl e) = inr (rw (← same_equal m n e) q)
          which (inr e) = inl e

      by : (x : Option ℤ) → look m ≡ x → ((z : ℤ) → SaidOf z joint ts (sum_from look at z joint ts))
          → SaidOf sum (term j o) (name m ∷ ts) (on_name x (λ v. add_term sum j o v (λ z. sum_from look at z joint ts)))
      by None q ih = record { lacked = m; used = rw (same_refl m) refl; unknown = q }
      by (Some y) q ih =
          adds sum y j o ts (name m ∷ ts) (term j o)
          (with_term sum y j o (named m) (name m) ts refl q (is_name y q) (λ n. or_more (same m n) (is_one_of (names_in ts) n))) ih
  says_sum sum (term j o) (unreadable ∷ ts) = inl (refl, refl)
  says_sum sum joint (plus ∷ ts) =
      let w = term positive positive in
      same_rest ts joint w plus sum refl refl (sum_from look at sum w ts) (says_sum sum w ts)
  says_sum sum joint (minus ∷ ts) =
      let w = term negative positive in
      same_rest ts joint w minus sum refl refl (sum_from look at sum w ts) (says_sum sum w ts)
  says_sum sum joint (dot ∷ ts) = inl (refl, refl)
  says_sum sum joint (number v ∷ ts) = inl (refl, refl)
  says_sum sum joint (name m ∷ ts) = inl (refl, refl)
  says_sum sum joint (unreadable ∷ ts) = inl (refl, refl)

-- an unreadable token leaves no terms
no_terms : (w : Wanted) (ts : List Token) → any_unreadable ts ≡ true → terms_from w ts ≡ None
unfolding any_unreadable terms_from
no_terms (term j o) [] e = refl
no_terms joint [] e = absurd (false≢true e)
no_terms (term j o) (plus ∷ ts) e = no_terms (term j o) ts e
no_terms (term j o) (minus ∷ ts) e = no_terms (term j (not o)) ts e
no_terms (term j o) (dot ∷ ts) e = ap (cons_term j o own_address) (no_terms joint ts e)
no_terms (term j o) (number v ∷ ts) e = ap (cons_term j o (literal v)) (no_terms joint ts e)
no_terms (term j o) (name m ∷ ts) e = ap (cons_term j o (named m)) (no_terms joint ts e)
no_terms (term j o) (unreadable ∷ ts) e = refl
no_terms joint (plus ∷ ts) e = no_terms (term positive positive) ts e
no_terms joint (minus ∷ ts) e = no_terms (term negative positive) ts e
no_terms joint (dot ∷ ts) e = refl
no_terms joint (number v ∷ ts) e = refl
no_terms joint (name m ∷ ts) e = refl
no_terms joint (unreadable ∷ ts) e = refl

-- a sum that comes to a value has read every token
pub valued_readable : (look : List ℕ → Option ℤ) (at sum : ℤ) (w : Wanted) (ts : List Token) (z : ℤ)
    → sum_from look at sum w ts ≡ Ok (Some z) → any_unreadable ts ≡ false
valued_readable look at sum w ts z e = by (any_unreadable ts) refl
  where
    by : (c : Bool) → any_unreadable ts ≡ c → c ≡ false
    by true q = absurd (none-some (sym (no_terms w ts q) ∙ (rw e at (says_sum look at sum w ts)).are))
    by false q = refl

-- an expression's value is its signed sum, and every name that it uses has one; it waits for one that has none; it is refused as malformed or by 24
pub evaluated_says : (look : List ℕ → Option ℤ) (at : ℤ) (s : List ℕ)
    → SaidOf look at (pos 0) (term positive positive) (tokens s) (evaluate look at s)
unfolding evaluate
evaluated_says look at s = by (any_unreadable (tokens s)) refl
  where
    w : Wanted
    w = term positive positive

    by : (c : Bool) → any_unreadable (tokens s) ≡ c
        → SaidOf look at (pos 0) w (tokens s) (cond c (Err 16) (sum_from look at (pos 0) w (tokens s)))
    by true e = inl (refl, no_terms w (tokens s) e)
    by false e = says_sum look at (pos 0) w (tokens s)

-- the sum that is found, from its first term on
pub summed_whole : (look : List ℕ → Option ℤ) (at : ℤ) (w : Wanted) (ts : List Token) (z : ℤ) (s : Summed look at (pos 0) w ts z)
    → signed_sum look at s.terms ≡ Some z
summed_whole look at w ts z s = s.sums ∙ ap Some (sym (s.total ∙ +ℤ_idl s.rest))

-- a sum under fewer names' values is the sum under more
pub sum_more : (look look' : List ℕ → Option ℤ) (at : ℤ) → ((n : List ℕ) (v : ℤ) → look n ≡ Some v → look' n ≡ Some v)
    → (ts : List Term) (z : ℤ) → signed_sum look at ts ≡ Some z → signed_sum look' at ts ≡ Some z
unfolding signed_sum
sum_more look look' at f [] z e = e
sum_more look look' at f (t ∷ ts) z e =
    by (atom_value look at t.atom) (signed_sum look at ts) (atom t.atom) (sum_more look look' at f ts) e
  where
    atom : (a : Atom) (v : ℤ) → atom_value look at a ≡ Some v → atom_value look' at a ≡ Some v
    atom own_address v e = e
    atom (literal y) v e = e
    atom (named n) v e = f n v e

    by : (x y : Option ℤ) → ((v : ℤ) → x ≡ Some v → atom_value look' at t.atom ≡ Some v)
        → ((s : ℤ) → y ≡ Some s → signed_sum look' at ts ≡ Some s) → plus_term t x y ≡ Some z
        → plus_term t (atom_value look' at t.atom) (signed_sum look' at ts) ≡ Some z
    by None y g h e = absurd (none-some e)
    by (Some v) None g h e = absurd (none-some e)
    by (Some v) (Some s) g h e = rw (g v refl, h s refl) e

-- ---- the other direction: well formed, its products and partial sums within 64 signed bits

fit_yes : (y : ℤ) → in64 y ≡ true → fit64 y ≡ Some y
unfolding fit64
fit_yes y e = rw e refl

-- the signed sum added to what there was; a wait where a name has no value
abbrev pub as_evaluated : ℤ → Option ℤ → Evaluated
as_evaluated sum None = Ok None
as_evaluated sum (Some s) = Ok (Some (sum +ℤ s))

cons_some_lem : (j o : Bool) (a : Atom) (x : Option (List Term)) (ts : List Term) → cons_term j o a x ≡ Some ts
    → (rest : List Term) × (x ≡ Some rest) × (record { joining = j; own = o; atom = a } ∷ rest ≡ ts)
cons_some_lem j o a None ts e = absurd (none-some e)
cons_some_lem j o a (Some rest) ts e = (rest, refl, some_same e)

module _ (look : List ℕ → Option ℤ) (at : ℤ) where
  -- an expression comes to its signed sum, from these tokens on
  abbrev ComesToSum : List Token → Wanted → Type 0
  ComesToSum tks w = (z : ℤ) (rest : List Term) → terms_from w tks ≡ Some rest → is_within look at z rest ≡ true
      → sum_from look at z w tks ≡ as_evaluated z (signed_sum look at rest)

  -- one term more
  term_comes : (sum y : ℤ) (j o : Bool) (a : Atom) (tks : List Token) (ts : List Term) → atom_value look at a ≡ Some y
      → cons_term j o a (terms_from joint tks) ≡ Some ts → is_within look at sum ts ≡ true → ComesToSum tks joint
      → add_term sum j o y (λ z. sum_from look at z joint tks) ≡ as_evaluated sum (signed_sum look at ts)
  unfolding is_within signed_sum
  term_comes sum y j o a tks ts q e w ih = by (cons_some_lem j o a (terms_from joint tks) ts e)
    where
      t : Term
      t = record { joining = j; own = o; atom = a }

      p : ℤ
      p = sign_times j (sign_times o y)

      rest : ℤ → Evaluated
      rest z = sum_from look at z joint tks

      regroup : (s : Option ℤ) → as_evaluated (sum +ℤ p) s ≡ as_evaluated sum (plus_term t (Some y) s)
      regroup None = refl
      regroup (Some s) = ap (λ (z : ℤ). Ok (Some z)) (+ℤ_assoc sum p s)

      checks : List Term → ℤ → Bool
      checks us z =
          let v = sign_times j (sign_times o z) in
          in64 (sign_times o z) && (in64 v && (in64 (sum +ℤ v) && is_within look at (sum +ℤ v) us))

      by : (us : List Term) × (terms_from joint tks ≡ Some us) × (t ∷ us ≡ ts) → add_term sum j o y rest ≡ as_evaluated sum (signed_sum look at ts)
      by r =
          let h : if_known (atom_value look at a) (checks r.0) ≡ true = ap (is_within look at sum) r.2 ∙ w in
          let g : checks r.0 y ≡ true = ap (λ (x : Option ℤ). if_known x (checks r.0)) (sym q) ∙ h in
          let first = and_both (in64 (sign_times o y)) (in64 p && (in64 (sum +ℤ p) && is_within look at (sum +ℤ p) r.0)) g in
          let second = and_both (in64 p) (in64 (sum +ℤ p) && is_within look at (sum +ℤ p) r.0) first.1 in
          let third = and_both (in64 (sum +ℤ p)) (is_within look at (sum +ℤ p) r.0) second.1 in
          ap (λ (x : Option ℤ). on_fit x (λ p. on_fit (fit64 (sign_times j p)) (λ q. on_fit (fit64 (sum +ℤ q)) rest)))
          (fit_yes (sign_times o y) first.0)
          ∙ ap (λ (x : Option ℤ). on_fit x (λ q. on_fit (fit64 (sum +ℤ q)) rest)) (fit_yes p second.0)
          ∙ ap (λ (x : Option ℤ). on_fit x rest) (fit_yes (sum +ℤ p) third.0)
          ∙ ih (sum +ℤ p) r.0 r.1 third.1
          ∙ regroup (signed_sum look at r.0)
          ∙ ap (λ (x : Option ℤ). as_evaluated sum (plus_term t x (signed_sum look at r.0))) (sym q)
          ∙ ap (λ (us : List Term). as_evaluated sum (signed_sum look at us)) r.2

  sum_comes : (tks : List Token) (w : Wanted) → ComesToSum tks w
  unfolding sum_from terms_from signed_sum
  sum_comes [] (term j o) sum ts e h = absurd (none-some e)
  sum_comes [] joint sum ts e h =
      ap (λ (z : ℤ). Ok (Some z)) (sym (+ℤ_idr sum)) ∙ ap (λ (us : List Term). as_evaluated sum (signed_sum look at us)) (some_same e)
  sum_comes (plus ∷ tks) (term j o) sum ts e h = sum_comes tks (term j o) sum ts e h
  sum_comes (minus ∷ tks) (term j o) sum ts e h = sum_comes tks (term j (not o)) sum ts e h
  sum_comes (dot ∷ tks) (term j o) sum ts e h = term_comes sum at j o own_address tks ts refl e h (sum_comes tks joint)
  sum_comes (number v ∷ tks) (term j o) sum ts e h = term_comes sum v j o (literal v) tks ts refl e h (sum_comes tks joint)
  sum_comes (name m ∷ tks) (term j o) sum ts e h = by (look m) refl (sum_comes tks joint)
    where
      t : Term
      t = record { joining = j; own = o; atom = named m }

      by : (x : Option ℤ) → look m ≡ x → ComesToSum tks joint
          → on_name x (λ v. add_term sum j o v (λ z. sum_from look at z joint tks)) ≡ as_evaluated sum (signed_sum look at ts)
      by None q ih =
          let r = cons_some_lem j o (named m) (terms_from joint tks) ts e in
          ap (λ (x : Option ℤ). as_evaluated sum (plus_term t x (signed_sum look at r.0))) (sym q)
          ∙ ap (λ (us : List Term). as_evaluated sum (signed_sum look at us)) r.2
      by (Some y) q ih = term_comes sum y j o (named m) tks ts q e h ih
  sum_comes (unreadable ∷ tks) (term j o) sum ts e h = absurd (none-some e)
  sum_comes (plus ∷ tks) joint sum ts e h = sum_comes tks (term positive positive) sum ts e h
  sum_comes (minus ∷ tks) joint sum ts e h = sum_comes tks (term negative positive) sum ts e h
  sum_comes (dot ∷ tks) joint sum ts e h = absurd (none-some e)
  sum_comes (number v ∷ tks) joint sum ts e h = absurd (none-some e)
  sum_comes (name m ∷ tks) joint sum ts e h = absurd (none-some e)
  sum_comes (unreadable ∷ tks) joint sum ts e h = absurd (none-some e)

  -- an expression comes to its signed sum, or waits where that has a name without a value
  pub evaluated_comes : (s : List ℕ) (ts : List Term) → terms_from (term positive positive) (tokens s) ≡ Some ts → is_within look at (pos 0) ts ≡ true
      → evaluate look at s ≡ as_evaluated (pos 0) (signed_sum look at ts)
  unfolding evaluate
  evaluated_comes s ts e h = by (any_unreadable (tokens s)) refl
    where
      w : Wanted
      w = term positive positive

      by : (c : Bool) → any_unreadable (tokens s) ≡ c
          → cond c (Err 16) (sum_from look at (pos 0) w (tokens s)) ≡ as_evaluated (pos 0) (signed_sum look at ts)
      by true q = absurd (none-some (sym (no_terms w (tokens s) q) ∙ e))
      by false q = sum_comes (tokens s) w (pos 0) ts e h

  -- and so is not refused
  pub never_refused : (s : List ℕ) (ts : List Term) (m : ℕ) → terms_from (term positive positive) (tokens s) ≡ Some ts
      → is_within look at (pos 0) ts ≡ true → evaluate look at s ≡ Err m → ⊥
  never_refused s ts m e h q = by (signed_sum look at ts) (sym (evaluated_comes s ts e h) ∙ q)
    where
      by : (o : Option ℤ) → as_evaluated (pos 0) o ≡ Err m → ⊥
      by None e = value-refused e
      by (Some z) e = value-refused e
