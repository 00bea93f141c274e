-- Expressions term by term: what stands before a term, its value, what joins the next one, and how far a sum has come.
use Rattle.std.specs.Prelude.{Result}
use Rattle.std.specs.Prelude.{ℕ, zero, suc, ◌≤◌, ◌<◌, ◌≡◌, List, [], ◌∷◌, Bool, true, false, not, length, ℤ, pos}
use Rattle.std.specs.Prelude.{Option, None, Some}
use Rattle.std.specs.Prelude.{Ok, Err}
use Rattle.layout.specs.declared.tokens.Token as code
use Rattle.layout.specs.declared.tokens.Token.TheVariants as kind
use Rattle.layout.specs.declared.expr.Expression.{Expression}
use Rattle.layout.specs.declared.expr.Partial.{Partial}
use Rattle.layout.specs.declared.expr.Evaluated as answer
use Rattle.layout.specs.declared.expr.Evaluated.TheVariants.{Value, Waits}
use Rattle.layout.specs.Expressions.{Token, plus, minus, dot, number, name, unreadable, Evaluated, positive, Wanted, term, joint, on_fit, add_term, sum_from, evaluate}
use Rattle.layout.specs.Code.Tokens.{token_of, TokenWithin, tokens_from, spaced_in}

-- ---- a term

-- the sign that the signs in front of a term make, after a sign o; and what stands behind them
unfoldable pub own_sign : Bool → List Token → Bool
own_sign o [] = o
own_sign o (plus ∷ ts) = own_sign o ts
own_sign o (minus ∷ ts) = own_sign (not o) ts
own_sign o (dot ∷ ts) = o
own_sign o (number z ∷ ts) = o
own_sign o (name n ∷ ts) = o
own_sign o (unreadable ∷ ts) = o

unfoldable pub unsigned : List Token → List Token
unsigned [] = []
unsigned (plus ∷ ts) = unsigned ts
unsigned (minus ∷ ts) = unsigned ts
unsigned (dot ∷ ts) = dot ∷ ts
unsigned (number z ∷ ts) = number z ∷ ts
unsigned (name n ∷ ts) = name n ∷ ts
unsigned (unreadable ∷ ts) = unreadable ∷ ts

-- a token that is a term's own: `.`, a number or a name
abbrev pub IsOperand : code.Token → Type 0
IsOperand kind.Plus = ⊥
IsOperand kind.Minus = ⊥
IsOperand kind.Dot = Unit
IsOperand (kind.Number z) = Unit
IsOperand (kind.Name p) = Unit
IsOperand kind.Unreadable = ⊥

-- the term from a place on, up to the place after it
pub record TermStands (one_space : Bool) (s : List ℕ) (at : ℕ) (own : Bool) (t : code.Token) (after : ℕ) : Type 0 where
  pub sign : own ≡ own_sign positive (tokens_from one_space s at)
  pub operand : IsOperand t
  pub leads : unsigned (tokens_from one_space s at) ≡ token_of s t ∷ tokens_from one_space s after
  pub further : at < after
  pub within : after ≤ length s
  pub named : TokenWithin s t

-- no term: the signs end the text, or what stands behind them is unreadable
abbrev pub NoTerm : List Token → Type 0
NoTerm [] = Unit
NoTerm (plus ∷ ts) = ⊥
NoTerm (minus ∷ ts) = ⊥
NoTerm (dot ∷ ts) = ⊥
NoTerm (number z ∷ ts) = ⊥
NoTerm (name n ∷ ts) = ⊥
NoTerm (unreadable ∷ ts) = Unit

abbrev pub TermFrom : Bool → List ℕ → ℕ → Option (Bool × code.Token × ℕ) → Type 0
TermFrom one_space s at (Some (own, t, after)) = TermStands one_space s at own t after
TermFrom one_space s at None = NoTerm (unsigned (tokens_from one_space s at))

-- a term's value: `here` is `.`
abbrev pub term_value : (List ℕ → Option ℤ) → ℤ → Token → Option ℤ
term_value look here plus = None
term_value look here minus = None
term_value look here dot = Some here
term_value look here (number z) = Some z
term_value look here (name n) = look n
term_value look here unreadable = None

-- the sum with one term more, or beyond 64 signed bits
abbrev pub AddsTerm : ℤ → (joining own : Bool) → ℤ → Option ℤ → Type 0
AddsTerm sum joining own v r = (f : ℤ → Evaluated) → add_term sum joining own v f ≡ on_fit r f

-- ---- what joins the next term

-- neither `+` nor `-`, and not the end
abbrev pub NoJoint : List Token → Type 0
NoJoint [] = ⊥
NoJoint (plus ∷ ts) = ⊥
NoJoint (minus ∷ ts) = ⊥
NoJoint (dot ∷ ts) = Unit
NoJoint (number z ∷ ts) = Unit
NoJoint (name n ∷ ts) = Unit
NoJoint (unreadable ∷ ts) = Unit

-- the operator by the sign that it joins with
abbrev pub operator_of : Bool → Token
operator_of false = plus
operator_of true = minus

pub record JointStands (one_space : Bool) (s : List ℕ) (at : ℕ) (joining : Bool) (after : ℕ) : Type 0 where
  pub leads : tokens_from one_space s at ≡ operator_of joining ∷ tokens_from one_space s after
  pub further : at < after
  pub within : after ≤ length s

-- an operator, whether it is a minus, and the place after it
abbrev pub operator : Bool → ℕ → Result (Option (Bool × ℕ)) ℕ
operator joining after = Ok (Some (joining, after))

abbrev pub JointFrom : Bool → List ℕ → ℕ → Result (Option (Bool × ℕ)) ℕ → Type 0
JointFrom one_space s at (Ok (Some (joining, after))) = JointStands one_space s at joining after
JointFrom one_space s at (Ok None) = tokens_from one_space s at ≡ []
JointFrom one_space s at (Err n) = NoJoint (tokens_from one_space s at) × (n ≡ 16)

-- where a sum goes on: no operator stands before the first term
abbrev pub JointAt : Bool → List ℕ → ℕ → Result (Option (Bool × ℕ)) ℕ → Type 0
JointAt one_space s zero r = r ≡ operator positive 0
JointAt one_space s (suc n) r = JointFrom one_space s (suc n) r

-- ---- evaluations

abbrev pub evaluated_of : Result answer.Evaluated ℕ → Evaluated
evaluated_of (Ok (Value z)) = Ok (Some z)
evaluated_of (Ok (Waits p)) = Ok None
evaluated_of (Err n) = Err n

-- what is to come at a place: a term at the start, an operator behind a term
abbrev pub wanted_at : ℕ → Wanted
wanted_at zero = term positive positive
wanted_at (suc n) = joint

-- the sum of a text's terms, from where it has come to, by a look-up
abbrev pub sum_on : Bool → List ℕ → ℤ → Partial → (List ℕ → Option ℤ) → Evaluated
sum_on one_space s here p look = sum_from look here p.sum (wanted_at p.at) (tokens_from one_space s p.at)

-- a text's evaluation by a look-up
abbrev pub evaluation_of : Bool → List ℕ → ℤ → (List ℕ → Option ℤ) → Evaluated
evaluation_of one_space s here look = evaluate look here (spaced_in one_space s)

-- every name that has a value keeps it
abbrev pub Extends : (f g : List ℕ → Option ℤ) → Type 0
Extends f g = (n : List ℕ) (z : ℤ) → f n ≡ Some z → g n ≡ Some z

-- f goes on from there: whatever other names get values, it is what the sum comes to
abbrev pub GoesOn : (List ℕ → Option ℤ) → Bool → List ℕ → ℤ → ((List ℕ → Option ℤ) → Evaluated) → Partial → Type 0
GoesOn look one_space s here f p = (later : List ℕ → Option ℤ) → Extends look later → f later ≡ sum_on one_space s here p later

-- the term to come, behind what joins it, has no value
pub record TermWaits (look : List ℕ → Option ℤ) (one_space : Bool) (s : List ℕ) (here : ℤ) (at : ℕ) : Type 0 where
  pub joining : Bool
  pub first : ℕ
  pub joint : JointAt one_space s at (operator joining first)
  pub own : Bool
  pub operand : code.Token
  pub after : ℕ
  pub stands : TermStands one_space s first own operand after
  pub unknown : None ≡ term_value look here (token_of s operand)

-- f has come as far as it can: to a term without a value, and goes on from there
pub record WaitsAt (look : List ℕ → Option ℤ) (one_space : Bool) (s : List ℕ) (here : ℤ) (f : (List ℕ → Option ℤ) → Evaluated) (p : Partial) : Type 0 where
  pub waits : TermWaits look one_space s here p.at
  pub goes : GoesOn look one_space s here f p

abbrev pub Waiting : (List ℕ → Option ℤ) → Bool → List ℕ → ℤ → ((List ℕ → Option ℤ) → Evaluated) → Result answer.Evaluated ℕ → Type 0
Waiting look one_space s here f (Ok (Value z)) = Unit
Waiting look one_space s here f (Ok (Waits p)) = WaitsAt look one_space s here f p
Waiting look one_space s here f (Err n) = Unit

-- an answer is what f gives by the look-up; where it waits, it says from where f goes on
pub record Evaluates (look : List ℕ → Option ℤ) (one_space : Bool) (s : List ℕ) (here : ℤ) (f : (List ℕ → Option ℤ) → Evaluated) (r : Result answer.Evaluated ℕ) : Type 0 where
  pub answers : evaluated_of r ≡ f look
  pub waiting : Waiting look one_space s here f r

-- ---- said of the code's expression

-- its sum, from where that has come to, its evaluation, and an answer to either
abbrev pub sum_after : Expression → Partial → (List ℕ → Option ℤ) → Evaluated
sum_after x p = sum_on x.one_space x.source.now (pos x.here) p

abbrev pub evaluation : Expression → (List ℕ → Option ℤ) → Evaluated
evaluation x = evaluation_of x.one_space x.source.now (pos x.here)

abbrev pub EvaluatesAs : (List ℕ → Option ℤ) → Expression → ((List ℕ → Option ℤ) → Evaluated) → Result answer.Evaluated ℕ → Type 0
EvaluatesAs look x f r = Evaluates look x.one_space x.source.now (pos x.here) f r
