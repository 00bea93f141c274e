-- Document 01's conditions of 17's "exactly" are met: by a text with an undefined name, by one whose equate uses itself, and by one that is
-- accepted. So demand 3 holds of no answer to the first two but 17.
use Prim.Native.Nat.{ℕ}
use mathlib.Core.Path.{◌≡◌, refl, sym, ◌∙◌, ap}
use mathlib.Core.List.{List, [], ◌∷◌}
use mathlib.Core.Bool.{true, false, false≢true}
use Rattle.std.proofs.Common.{Option, None, Some}
use native.Mathlib.Omega.{arith}
use lib.IntN.{ℤ, pos}
use Rattle.std.proofs.Common.{Err}
use Rattle.numbers.specs.Text.{text, same}
use Rattle.numbers.proofs.Bools.{none-some}
use Rattle.layout.specs.declared.state.Section.TheVariants as section
use Rattle.layout.specs.Limits.{full}
use Rattle.layout.specs.Pieces.{piece}
use Rattle.layout.specs.Refusals.{Refusal}
use Rattle.layout.specs.State.{Equate, State}
use Rattle.layout.specs.Stage.{is_label}
use Rattle.layout.specs.Layouts.{Answer, layout_of}
use Rattle.layout.specs.Terms.{literal, named, Atom, Term, terms_from, terms_of, WellFormed, plus_term, signed_sum, names_in}
use Rattle.layout.specs.Chains.{Among, first, later, uses, undefined, circular, Worth, of_label, of_equate, is_within, NeverBeyond, Conditions, Chained}
use Rattle.layout.specs.Demands.{BeforeRounds, Demanded}
use Rattle.layout.proofs.ResultLaws.{some_same}
use Rattle.layout.proofs.Computing.{computing}
use Rattle.layout.proofs.DemandLaws.{unresolved_exactly}

-- what the line `a = EXPR` says
abbrev one : List ℕ → Equate
one s =
    record {
      name = piece 0 (text "a");
      expr = record { source = piece 4 s; one_space = false };
      place = record { section = section.Text; offset = 0 };
      line = 0;
    }

abbrev state : List ℕ → State
state s =
    record {
      labels = [];
      rest = record {
        equates = one s ∷ [];
        own = record {
          section = section.Text;
          items = record { list = []; words = 0 };
          stored = record { bytes = []; label_words = [] };
          bss = 0;
        };
      };
    }

abbrev positive_term : Atom → Term
positive_term a = record { joining = false; own = false; atom = a }

-- one term, and within 64 signed bits under whatever can be evaluated: so the conditions are met
met : (s : List ℕ) (t : Term) → terms_of (one s) ≡ Some (t ∷ [])
    → ((look : List ℕ → Option ℤ) → ((n : List ℕ) (z : ℤ) → look n ≡ Some z → Worth 0 (state s) n z)
    → is_within look (pos 0) (pos 0) (t ∷ []) ≡ true)
    → Conditions 0 (state s)
unfolding is_label
met s t terms within = record { well_formed = formed; distinct = refl; no_label = λ e a. refl; never_beyond = small }
  where
    formed : (e : Equate) → Among e (one s ∷ []) → WellFormed e
    formed e first = (t ∷ [], terms)
    formed e (later never) = elim never [ ]

    small : (e : Equate) → Among e (one s ∷ []) → NeverBeyond 0 (state s) e
    small e (later never) look g ts q = elim never [ ]
    small e first look g ts q = ap (is_within look (pos 0) (pos 0)) (sym (some_same (sym terms ∙ q))) ∙ within look g

-- a name that cannot be evaluated
unknown_within : (s n : List ℕ) → ((z : ℤ) → Worth 0 (state s) n z → ⊥) → (look : List ℕ → Option ℤ)
    → ((m : List ℕ) (z : ℤ) → look m ≡ Some z → Worth 0 (state s) m z) → is_within look (pos 0) (pos 0) (positive_term (named n) ∷ []) ≡ true
unfolding is_within
unknown_within s n never look g = by (look n) refl
  where
    by : (o : Option ℤ) → look n ≡ o → is_within look (pos 0) (pos 0) (positive_term (named n) ∷ []) ≡ true
    by None q = rw q refl
    by (Some z) q = absurd (never z (g n z q))

-- ---- `a = u`

before_u : BeforeRounds (text "a = u") 0 full (state (text "u")) []
unfolding computing
before_u = record { low = omega arith; short = omega arith; plain = refl; read = refl; filled = refl }

terms_u : terms_of (one (text "u")) ≡ Some (positive_term (named (text "u")) ∷ [])
unfolding computing terms_from
terms_u = refl

never_u : (n : List ℕ) (z : ℤ) → Worth 0 (state (text "u")) n z → same n (text "u") ≡ true → ⊥
unfolding computing
never_u n z (of_label m a e) q = none-some e
never_u n z (of_equate e first look g ts t y s) q = false≢true q
never_u n z (of_equate _ (later never) look g ts t _ s) q = elim never [ ]

pub conditions_u : Conditions 0 (state (text "u"))
unfolding computing
conditions_u = met (text "u") (positive_term (named (text "u"))) terms_u (unknown_within (text "u") (text "u") (λ z w. never_u (text "u") z w refl))

chained_u : Chained (state (text "u"))
unfolding computing names_in
chained_u = (one (text "u"), first, undefined (text "u") (uses refl) (record { no_equate = refl; no_label = refl }))

pub comes_u : (r : Refusal) × (layout_of (text "a = u") 0 full ≡ Err r) × (r.number ≡ 17)
comes_u = (unresolved_exactly (text "a = u") 0 full (state (text "u")) [] before_u conditions_u).1 chained_u

pub owed_u : (x : Answer) → Demanded (text "a = u") 0 full x → x.number ≡ 17
owed_u x d = (d.exactly (state (text "u")) [] before_u conditions_u).1 chained_u

-- ---- `a = a`

before_a : BeforeRounds (text "a = a") 0 full (state (text "a")) []
unfolding computing
before_a = record { low = omega arith; short = omega arith; plain = refl; read = refl; filled = refl }

terms_a : terms_of (one (text "a")) ≡ Some (positive_term (named (text "a")) ∷ [])
unfolding computing terms_from
terms_a = refl

-- its sum would need its own value first
lacks_a : (look : List ℕ → Option ℤ) (ts : List Term) (y : ℤ) → terms_of (one (text "a")) ≡ Some ts → signed_sum look (pos 0) ts ≡ Some y
    → ((v : ℤ) → look (text "a") ≡ Some v → ⊥) → ⊥
unfolding signed_sum
lacks_a look ts y t s never = by (look (text "a")) refl (ap (signed_sum look (pos 0)) (some_same (sym terms_a ∙ t)) ∙ s)
  where
    by : (o : Option ℤ) → look (text "a") ≡ o → plus_term (positive_term (named (text "a"))) (look (text "a")) (Some (pos 0)) ≡ Some y → ⊥
    by None q e = none-some (ap (λ (x : Option ℤ). plus_term (positive_term (named (text "a"))) x (Some (pos 0))) (sym q) ∙ e)
    by (Some v) q e = never v q

never_a : (n : List ℕ) (z : ℤ) → Worth 0 (state (text "a")) n z → same n (text "a") ≡ true → ⊥
unfolding computing
never_a n z (of_label m a e) q = none-some e
never_a n z (of_equate e first look g ts t y s) q = lacks_a look ts y t s (λ v p. never_a (text "a") v (g (text "a") v p) refl)
never_a _ _ (of_equate e (later never) look g ts t y s) q = elim never [ ]

pub conditions_a : Conditions 0 (state (text "a"))
unfolding computing
conditions_a = met (text "a") (positive_term (named (text "a"))) terms_a (unknown_within (text "a") (text "a") (λ z w. never_a (text "a") z w refl))

chained_a : Chained (state (text "a"))
unfolding computing names_in
chained_a = (one (text "a"), first, circular (one (text "a")) first (uses refl) (uses refl))

pub comes_a : (r : Refusal) × (layout_of (text "a = a") 0 full ≡ Err r) × (r.number ≡ 17)
comes_a = (unresolved_exactly (text "a = a") 0 full (state (text "a")) [] before_a conditions_a).1 chained_a

pub owed_a : (x : Answer) → Demanded (text "a = a") 0 full x → x.number ≡ 17
owed_a x d = (d.exactly (state (text "a")) [] before_a conditions_a).1 chained_a

-- ---- `a = 5`, which is accepted

pub before_5 : BeforeRounds (text "a = 5") 0 full (state (text "5")) []
unfolding computing
before_5 = record { low = omega arith; short = omega arith; plain = refl; read = refl; filled = refl }

terms_5 : terms_of (one (text "5")) ≡ Some (positive_term (literal (pos 5)) ∷ [])
unfolding computing terms_from
terms_5 = refl

within_5 : (look : List ℕ → Option ℤ) → is_within look (pos 0) (pos 0) (positive_term (literal (pos 5)) ∷ []) ≡ true
unfolding is_within
within_5 look = refl

pub conditions_5 : Conditions 0 (state (text "5"))
conditions_5 = met (text "5") (positive_term (literal (pos 5))) terms_5 (λ look g. within_5 look)
