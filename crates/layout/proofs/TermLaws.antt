-- Expressions term by term: the signs, the term, what joins the next one; and a sum that goes on from a place is what was to be summed, whatever
-- other names get values.
use Rattle.layout.proofs.ResultLaws.{value_same}
use Rattle.layout.specs.Code.Terms.{operator}
use Rattle.std.proofs.lemmas.Option.{some_pair_parts}
use Rattle.std.proofs.Common.{Result}
use Prim.Native.Nat.{ℕ, zero, suc, ◌+◌, ◌-◌, ◌≤◌, ◌<◌}
use native.Mathlib.Omega.{arith}
use mathlib.Core.Path.{◌≡◌, refl, sym, ap, ◌∙◌}
use mathlib.Core.List.{List, [], ◌∷◌}
use mathlib.Core.Bool.{Bool, true, false, not, ◌&&◌}
use Rattle.std.proofs.Common.{Option, None, Some}
use lib.Dec.{eqb}
use lib.ListN.{length, take, drop, get_or}
use lib.IntN.{ℤ, pos}
use Rattle.std.proofs.Common.{Ok, Err}
use Rattle.numbers.specs.Text.{leading, is_digit}
use Rattle.numbers.specs.Numbers.{number_of}
use Rattle.layout.specs.declared.tokens.Token as code
use Rattle.layout.specs.declared.tokens.Token.TheVariants as kind
use Rattle.layout.specs.declared.expr.Partial.{Partial}
use Rattle.layout.specs.declared.expr.Evaluated as answer
use Rattle.layout.specs.declared.expr.Evaluated.TheVariants.{Value, Waits}
use Rattle.layout.specs.Expressions.{Token, plus, minus, dot, number, name, unreadable, Evaluated, positive, term, joint}
use Rattle.layout.specs.Expressions.{is_name_byte, is_number_byte, tokens, any_unreadable, add_term, on_name, sum_from, evaluate}
use Rattle.layout.specs.Code.Tokens.{token_of, numeral, sign_of, TokenStands, spaced_in, blank_in, tokens_from, TokenLeads}
use Rattle.layout.specs.Code.Terms.{own_sign, unsigned, IsOperand, TermStands, NoTerm, term_value, AddsTerm, NoJoint, JointStands, JointFrom, JointAt}
use Rattle.layout.specs.Code.Terms.{wanted_at, sum_on, evaluation_of, Extends, GoesOn, Waiting, Evaluates}
use Rattle.layout.proofs.TokenLaws.{plus_stands, minus_stands, number_stands, other_stands, dot_stands, name_stands}
use Rattle.layout.proofs.SpacedTokens.{from-here}
use Rattle.layout.proofs.SumLaws.{valued_readable}

-- ---- signs

-- the signs in front of a term are passed, and their sign is the term's own
sum_unsigned : (look : List ℕ → Option ℤ) (here sum : ℤ) (joining own : Bool) (ts : List Token)
    → sum_from look here sum (term joining own) ts ≡ sum_from look here sum (term joining (own_sign own ts)) (unsigned ts)
unfolding sum_from own_sign unsigned
sum_unsigned look here sum joining own [] = refl
sum_unsigned look here sum joining own (plus ∷ ts) = sum_unsigned look here sum joining own ts
sum_unsigned look here sum joining own (minus ∷ ts) = sum_unsigned look here sum joining (not own) ts
sum_unsigned look here sum joining own (dot ∷ ts) = refl
sum_unsigned look here sum joining own (number z ∷ ts) = refl
sum_unsigned look here sum joining own (name n ∷ ts) = refl
sum_unsigned look here sum joining own (unreadable ∷ ts) = refl

-- along the signs from a place on: what is left makes the same sign, and the same stands behind it
pub record Signing (one_space : Bool) (s : List ℕ) (from : ℕ) (own : Bool) (at : ℕ) : Type 0 where
  pub further : from ≤ at
  pub sign : own_sign own (tokens_from one_space s at) ≡ own_sign positive (tokens_from one_space s from)
  pub rest : unsigned (tokens_from one_space s at) ≡ unsigned (tokens_from one_space s from)

module _ (one_space : Bool) (s : List ℕ) (from : ℕ) where
  pub signs_first : Signing one_space s from positive from
  signs_first = record { further = omega arith; sign = refl; rest = refl }

  module _ (own : Bool) (at : ℕ) (m : Signing one_space s from own at) where
    pub signs_end : tokens_from one_space s at ≡ [] → NoTerm (unsigned (tokens_from one_space s from))
    unfolding unsigned
    signs_end e = rw (← m.rest, e) tt

    module _ (t : code.Token) (after : ℕ) (l : TokenLeads one_space s at t after) where
      pub signs_plus : t ≡ kind.Plus → Signing one_space s from own after
      unfolding own_sign unsigned
      signs_plus e =
          let q : tokens_from one_space s at ≡ plus ∷ tokens_from one_space s after = l.leads ∙ rw e refl in
          record {
            further = omega (arith, m.further, l.further);
            sign = sym (ap (own_sign own) q) ∙ m.sign;
            rest = sym (ap unsigned q) ∙ m.rest;
          }

      pub signs_minus : t ≡ kind.Minus → Signing one_space s from (not own) after
      unfolding own_sign unsigned
      signs_minus e =
          let q : tokens_from one_space s at ≡ minus ∷ tokens_from one_space s after = l.leads ∙ rw e refl in
          record {
            further = omega (arith, m.further, l.further);
            sign = sym (ap (own_sign own) q) ∙ m.sign;
            rest = sym (ap unsigned q) ∙ m.rest;
          }

      pub signs_unreadable : t ≡ kind.Unreadable → NoTerm (unsigned (tokens_from one_space s from))
      unfolding unsigned
      signs_unreadable e =
          let q : tokens_from one_space s at ≡ unreadable ∷ tokens_from one_space s after = l.leads ∙ rw e refl in
          rw (← m.rest, q) tt

  -- an operand ends the signs
  operand_sign : (own : Bool) (t : code.Token) (ts : List Token) → IsOperand t → own_sign own (token_of s t ∷ ts) ≡ own
  unfolding own_sign
  operand_sign own kind.Plus ts o = absurd o
  operand_sign own kind.Minus ts o = absurd o
  operand_sign own kind.Dot ts o = refl
  operand_sign own (kind.Number z) ts o = refl
  operand_sign own (kind.Name p) ts o = refl
  operand_sign own kind.Unreadable ts o = absurd o

  operand_left : (t : code.Token) (ts : List Token) → IsOperand t → unsigned (token_of s t ∷ ts) ≡ token_of s t ∷ ts
  unfolding unsigned
  operand_left kind.Plus ts o = absurd o
  operand_left kind.Minus ts o = absurd o
  operand_left kind.Dot ts o = refl
  operand_left (kind.Number z) ts o = refl
  operand_left (kind.Name p) ts o = refl
  operand_left kind.Unreadable ts o = absurd o

  -- a token that is no sign and is read is an operand
  operand_else : (t : code.Token) → (t ≡ kind.Plus → ⊥) → (t ≡ kind.Minus → ⊥) → (t ≡ kind.Unreadable → ⊥) → IsOperand t
  operand_else kind.Plus p m u = p refl
  operand_else kind.Minus p m u = m refl
  operand_else kind.Dot p m u = tt
  operand_else (kind.Number z) p m u = tt
  operand_else (kind.Name n) p m u = tt
  operand_else kind.Unreadable p m u = u refl

  pub signs_operand : (own : Bool) (at : ℕ) → Signing one_space s from own at → (t : code.Token) (after : ℕ) → TokenLeads one_space s at t after
      → (t ≡ kind.Plus → ⊥) → (t ≡ kind.Minus → ⊥) → (t ≡ kind.Unreadable → ⊥) → TermStands one_space s from own t after
  signs_operand own at k t after l p m u =
      let o = operand_else t p m u in
      record {
        sign = sym (operand_sign own t (tokens_from one_space s after) o) ∙ sym (ap (own_sign own) l.leads) ∙ k.sign;
        operand = o;
        leads = sym k.rest ∙ ap unsigned l.leads ∙ operand_left t (tokens_from one_space s after) o;
        further = omega (arith, k.further, l.further);
        within = l.within;
        named = l.named;
      }

-- ---- a term

-- no term: 16
no_term : (look : List ℕ → Option ℤ) (here sum : ℤ) (joining own : Bool) (ts : List Token) → NoTerm ts → sum_from look here sum (term joining own) ts ≡ Err 16
unfolding sum_from
no_term look here sum joining own [] h = refl
no_term look here sum joining own (plus ∷ ts) h = absurd h
no_term look here sum joining own (minus ∷ ts) h = absurd h
no_term look here sum joining own (dot ∷ ts) h = absurd h
no_term look here sum joining own (number z ∷ ts) h = absurd h
no_term look here sum joining own (name n ∷ ts) h = absurd h
no_term look here sum joining own (unreadable ∷ ts) h = refl

-- a term's value is added, where it has one
operand_adds : (look : List ℕ → Option ℤ) (here sum : ℤ) (joining own : Bool) (s : List ℕ) (t : code.Token) (ts : List Token) → IsOperand t
    → sum_from look here sum (term joining own) (token_of s t ∷ ts)
    ≡ on_name (term_value look here (token_of s t)) (λ v. add_term sum joining own v (λ z. sum_from look here z joint ts))
unfolding sum_from
operand_adds look here sum joining own s kind.Plus ts o = absurd o
operand_adds look here sum joining own s kind.Minus ts o = absurd o
operand_adds look here sum joining own s kind.Dot ts o = refl
operand_adds look here sum joining own s (kind.Number z) ts o = refl
operand_adds look here sum joining own s (kind.Name p) ts o = refl
operand_adds look here sum joining own s kind.Unreadable ts o = absurd o

-- a value stays where other names get theirs
value_stays : (look later : List ℕ → Option ℤ) → Extends look later → (here : ℤ) (t : Token) (v : ℤ) → term_value look here t ≡ Some v → term_value later here t ≡ Some v
value_stays look later x here plus v e = e
value_stays look later x here minus v e = e
value_stays look later x here dot v e = e
value_stays look later x here (number z) v e = e
value_stays look later x here (name n) v e = x n v e
value_stays look later x here unreadable v e = e

pub extends_self : (look : List ℕ → Option ℤ) → Extends look look
extends_self look n z e = e

pub extends_trans : (f g h : List ℕ → Option ℤ) → Extends f g → Extends g h → Extends f h
extends_trans f g h p q n z e = q n z (p n z e)

-- ---- what joins the next term

-- after the blanks from a place on, at k
module _ (one_space : Bool) (s : List ℕ) (at k : ℕ) (e : k ≡ at + leading (blank_in one_space) (drop at s)) where
  pub joint_end : length s ≤ k → tokens_from one_space s at ≡ []
  joint_end h = from-here one_space s at k e None h

  reads : (t : code.Token) (after : ℕ) → TokenStands s k t after → TokenLeads one_space s at t after
  reads t after w = from-here one_space s at k e (Some (t, after)) w

  -- a token that is no operator, whatever stands behind it
  no_operator : (t : code.Token) (after : ℕ) → TokenStands s k t after → NoJoint (token_of s t ∷ []) → NoJoint (tokens_from one_space s at)
  no_operator t after w n = rw (reads t after w).leads (alone (token_of s t) (tokens_from one_space s after) n)
    where
      alone : (x : Token) (ts : List Token) → NoJoint (x ∷ []) → NoJoint (x ∷ ts)
      alone plus ts n = n
      alone minus ts n = n
      alone dot ts n = n
      alone (number z) ts n = n
      alone (name y) ts n = n
      alone unreadable ts n = n

  module _ (h : k < length s) where
    pub joint_sign : (minus : Bool) → sign_of (get_or s k 0) ≡ Some minus → JointStands one_space s at minus (k + 1)
    joint_sign false q = let l = reads kind.Plus (k + 1) (plus_stands s k h q) in record { leads = l.leads; further = l.further; within = l.within }
    joint_sign true q = let l = reads kind.Minus (k + 1) (minus_stands s k h q) in record { leads = l.leads; further = l.further; within = l.within }

    -- any other byte begins a token that joins nothing
    pub joint-other : sign_of (get_or s k 0) ≡ None → NoJoint (tokens_from one_space s at)
    joint-other z = by (is_digit (get_or s k 0)) refl (is_name_byte (get_or s k 0)) refl (eqb (get_or s k 0) 46 && eqb (end - k) 1) refl
      where
        end : ℕ
        end = k + leading is_name_byte (drop k s)

        numeral_joins : (o : Option ℤ) → NoJoint (token_of s (numeral o) ∷ [])
        numeral_joins None = tt
        numeral_joins (Some z) = tt

        by : (d : Bool) → is_digit (get_or s k 0) ≡ d → (n : Bool) → is_name_byte (get_or s k 0) ≡ n → (o : Bool) → eqb (get_or s k 0) 46 && eqb (end - k) 1 ≡ o
            → NoJoint (tokens_from one_space s at)
        by true d n f o q =
            let stop = k + leading is_number_byte (drop k s) in
            no_operator _ stop (number_stands s k h d stop refl _ refl) (numeral_joins (number_of (take (stop - k) (drop k s))))
        by false d false f o q = no_operator _ _ (other_stands s k h z d f) tt
        by false d true f true q = no_operator _ end (dot_stands s k h z d f end refl q) tt
        by false d true f false q = no_operator _ end (name_stands s k h z d f end refl q) tt

-- where a sum goes on
pub joint-first : (one_space : Bool) (s : List ℕ) (at : ℕ) → at ≡ 0 → JointAt one_space s at (operator positive 0)
joint-first one_space s zero e = refl
joint-first one_space s (suc n) e = absurd (omega arith)

pub joint_behind : (one_space : Bool) (s : List ℕ) (at : ℕ) → (at ≡ 0 → ⊥) → (r : Result (Option (Bool × ℕ)) ℕ) → JointFrom one_space s at r → JointAt one_space s at r
joint_behind one_space s zero n r j = absurd (n refl)
joint_behind one_space s (suc i) n r j = j

-- what joins no term: 16
no_joint : (look : List ℕ → Option ℤ) (here sum : ℤ) (ts : List Token) → NoJoint ts → sum_from look here sum joint ts ≡ Err 16
unfolding sum_from
no_joint look here sum [] h = absurd h
no_joint look here sum (plus ∷ ts) h = absurd h
no_joint look here sum (minus ∷ ts) h = absurd h
no_joint look here sum (dot ∷ ts) h = refl
no_joint look here sum (number z ∷ ts) h = refl
no_joint look here sum (name n ∷ ts) h = refl
no_joint look here sum (unreadable ∷ ts) h = refl

-- what the sum comes to from a place on, by what stands there
module _ (one_space : Bool) (s : List ℕ) (look : List ℕ → Option ℤ) (here sum : ℤ) where
  joined_by : (at : ℕ) (joining : Bool) (k : ℕ) → JointAt one_space s at (operator joining k)
      → sum_from look here sum (wanted_at at) (tokens_from one_space s at) ≡ sum_from look here sum (term joining positive) (tokens_from one_space s k)
  unfolding sum_from
  joined_by zero joining k j =
      let same = some_pair_parts joining positive k 0 (value_same j) in
      rw (same.0, same.1) refl
  joined_by (suc n) false k j = ap (sum_from look here sum joint) j.leads
  joined_by (suc n) true k j = ap (sum_from look here sum joint) j.leads

  joined_end : (at : ℕ) → JointAt one_space s at (Ok None) → sum_from look here sum (wanted_at at) (tokens_from one_space s at) ≡ Ok (Some sum)
  unfolding sum_from
  joined_end zero j = absurd (let z : ◌≡◌ {A = ℕ} 0 1 = cc in omega arith)
  joined_end (suc n) j = ap (sum_from look here sum joint) j

  joined-none : (at n : ℕ) → JointAt one_space s at (Err n) → sum_from look here sum (wanted_at at) (tokens_from one_space s at) ≡ Err n
  joined-none zero n j = absurd (let z : ◌≡◌ {A = ℕ} 0 1 = cc in omega arith)
  joined-none (suc i) n j = no_joint look here sum (tokens_from one_space s (suc i)) j.0 ∙ ap Err (sym j.1)

-- ---- the sum, term by term

-- an operator is to come behind a term
wanted_behind : (at : ℕ) → 0 < at → wanted_at at ≡ joint
wanted_behind zero h = absurd (omega arith)
wanted_behind (suc n) h = refl

module _ (look : List ℕ → Option ℤ) (one_space : Bool) (s : List ℕ) (here : ℤ) (f : (List ℕ → Option ℤ) → Evaluated) (sum : ℤ) (at : ℕ)
    (m : GoesOn look one_space s here f (record { sum = sum; at = at })) where
  -- what the sum comes to from here on, f comes to
  ends : (r : Evaluated) → sum_from look here sum (wanted_at at) (tokens_from one_space s at) ≡ r → r ≡ f look
  ends r e = sym e ∙ sym (m look (extends_self look))

  pub sum_end : JointAt one_space s at (Ok None) → Evaluates look one_space s here f (Ok (Value sum))
  sum_end j = record { answers = ends (Ok (Some sum)) (joined_end one_space s look here sum at j); waiting = tt }

  pub sum_malformed : (n : ℕ) → JointAt one_space s at (Err n) → Evaluates look one_space s here f (Err n)
  sum_malformed n j = record { answers = ends (Err n) (joined-none one_space s look here sum at n j); waiting = tt }

  module _ (joining : Bool) (k : ℕ) (j : JointAt one_space s at (operator joining k)) where
    pub sum_missing : NoTerm (unsigned (tokens_from one_space s k)) → Evaluates look one_space s here f (Err 16)
    sum_missing h =
        record {
          answers = ends (Err 16)
              (joined_by one_space s look here sum at joining k j
              ∙ sum_unsigned look here sum joining positive (tokens_from one_space s k)
              ∙ no_term look here sum joining (own_sign positive (tokens_from one_space s k)) (unsigned (tokens_from one_space s k)) h);
          waiting = tt;
        }

    module _ (own : Bool) (t : code.Token) (after : ℕ) (w : TermStands one_space s k own t after) where
      -- the term's value is added
      adds : (later : List ℕ → Option ℤ) → sum_from later here sum (wanted_at at) (tokens_from one_space s at)
          ≡ on_name (term_value later here (token_of s t)) (λ v. add_term sum joining own v (λ z. sum_from later here z joint (tokens_from one_space s after)))
      adds later =
          joined_by one_space s later here sum at joining k j
          ∙ sum_unsigned later here sum joining positive (tokens_from one_space s k)
          ∙ ap (λ (o : Bool). sum_from later here sum (term joining o) (unsigned (tokens_from one_space s k))) (sym w.sign)
          ∙ ap (sum_from later here sum (term joining own)) w.leads
          ∙ operand_adds later here sum joining own s t (tokens_from one_space s after) w.operand

      -- a name without a value: the sum goes on from here
      pub sum_waits : None ≡ term_value look here (token_of s t) → Evaluates look one_space s here f (Ok (Waits (record { sum = sum; at = at })))
      sum_waits e =
          record {
            answers = ends (Ok None) (adds look ∙ rw (← e) refl);
            waiting = record {
              waits = record { joining = joining; first = k; joint = j; own = own; operand = t; after = after; stands = w; unknown = e };
              goes = m;
            };
          }

      module _ (v : ℤ) (e : Some v ≡ term_value look here (token_of s t)) where
        pub sum_beyond : AddsTerm sum joining own v None → Evaluates look one_space s here f (Err 24)
        sum_beyond a = record { answers = ends (Err 24) (adds look ∙ rw (← e) (a _)); waiting = tt }

        -- the sum with the term
        pub sum_next : (z : ℤ) → AddsTerm sum joining own v (Some z) → GoesOn look one_space s here f (record { sum = z; at = after })
        sum_next z a = λ later x. m later x ∙ adds later ∙ rw (value_stays look later x here (token_of s t) v (sym e), wanted_behind after (omega (arith, w.further))) (a _)

-- ---- the whole expression

-- nothing is added yet
abbrev unsummed : Partial
unsummed = record { sum = pos 0; at = 0 }

module _ (look : List ℕ → Option ℤ) (one_space : Bool) (s : List ℕ) (here : ℤ) where
  -- one token that is unreadable refuses
  pub evaluates_unreadable : any_unreadable (tokens (spaced_in one_space s)) ≡ true → Evaluates look one_space s here (evaluation_of one_space s here) (Err 16)
  unfolding evaluate
  evaluates_unreadable e = record { answers = rw e refl; waiting = tt }

  module _ (r : Result answer.Evaluated ℕ) (e : any_unreadable (tokens (spaced_in one_space s)) ≡ false) where
    -- else it is the sum
    is_sum : (later : List ℕ → Option ℤ) → sum_on one_space s here unsummed later ≡ evaluation_of one_space s here later
    unfolding evaluate tokens_from
    is_sum later = rw e refl

    waits_as_sum : (q : Result answer.Evaluated ℕ) → Waiting look one_space s here (sum_on one_space s here unsummed) q → Waiting look one_space s here (evaluation_of one_space s here) q
    waits_as_sum (Ok (Value z)) w = tt
    waits_as_sum (Ok (Waits p)) w = record { waits = w.waits; goes = λ later x. sym (is_sum later) ∙ w.goes later x }
    waits_as_sum (Err n) w = tt

    pub evaluates_sum : Evaluates look one_space s here (sum_on one_space s here unsummed) r → Evaluates look one_space s here (evaluation_of one_space s here) r
    evaluates_sum v = record { answers = v.answers ∙ is_sum look; waiting = waits_as_sum r v.waiting }

  -- a value needs no second look at the tokens
  pub evaluates_value : (z : ℤ) → Evaluates look one_space s here (sum_on one_space s here unsummed) (Ok (Value z)) → Evaluates look one_space s here (evaluation_of one_space s here) (Ok (Value z))
  unfolding tokens_from
  evaluates_value z v =
      evaluates_sum (Ok (Value z)) (valued_readable look here (pos 0) (term positive positive) (tokens (spaced_in one_space s)) z (sym v.answers)) v
