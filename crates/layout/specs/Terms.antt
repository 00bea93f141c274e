-- An equate's terms with their signs, their signed sum, and the names that it uses. Document 01, "Lines to places", the last rule.
use Rattle.std.specs.Prelude.{ℕ, ◌≡◌, List, [], ◌∷◌, Bool, not, ℤ, pos, ◌+ℤ◌}
use Rattle.std.specs.Prelude.{Option, None, Some}
use Rattle.numbers.specs.Ints.{sign_times}
use Rattle.layout.specs.Bytes.{is_one_of}
use Rattle.layout.specs.Statements.{expr_text}
use Rattle.layout.specs.Expressions.{Token, plus, minus, dot, number, name, unreadable, tokens, positive, negative, Wanted, term, joint}
use Rattle.layout.specs.State.{Equate}

-- ---- terms

-- "`.`, an unsigned number, or a name"
pub data Atom : Type 0 where
  own_address : Atom
  literal : ℤ → Atom
  named : List ℕ → Atom

-- a term with the sign that joins it and the sign that its own minus signs make
pub record Term : Type 0 where
  pub joining : Bool
  pub own : Bool
  pub atom : Atom

abbrev pub cons_term : Bool → Bool → Atom → Option (List Term) → Option (List Term)
cons_term joining own a None = None
cons_term joining own a (Some ts) = Some (record { joining = joining; own = own; atom = a } ∷ ts)

-- "A term is any run of signs, then `.`, an unsigned number, or a name ..; terms are joined by `+` or `-`": none where the tokens are not that
unfoldable pub terms_from : Wanted → List Token → Option (List Term)
terms_from (term joining own) [] = None
terms_from joint [] = Some []
terms_from (term joining own) (plus ∷ ts) = terms_from (term joining own) ts
terms_from (term joining own) (minus ∷ ts) = terms_from (term joining (not own)) ts
terms_from (term joining own) (dot ∷ ts) = cons_term joining own own_address (terms_from joint ts)
terms_from (term joining own) (number v ∷ ts) = cons_term joining own (literal v) (terms_from joint ts)
terms_from (term joining own) (name n ∷ ts) = cons_term joining own (named n) (terms_from joint ts)
terms_from (term joining own) (unreadable ∷ ts) = None
terms_from joint (plus ∷ ts) = terms_from (term positive positive) ts
terms_from joint (minus ∷ ts) = terms_from (term negative positive) ts
terms_from joint (dot ∷ ts) = None
terms_from joint (number v ∷ ts) = None
terms_from joint (name n ∷ ts) = None
terms_from joint (unreadable ∷ ts) = None

abbrev pub tokens_of : Equate → List Token
tokens_of e = tokens (expr_text e.expr)

abbrev pub terms_of : Equate → Option (List Term)
terms_of e = terms_from (term positive positive) (tokens_of e)

-- "all expressions are well formed": this one has terms, whatever any name's value
abbrev pub WellFormed : Equate → Type 0
WellFormed e = (ts : List Term) × (terms_of e ≡ Some ts)

-- ---- the signed sum

-- `look` gives a name's value, `here` is `.`
abbrev pub atom_value : (List ℕ → Option ℤ) → ℤ → Atom → Option ℤ
atom_value look here own_address = Some here
atom_value look here (literal z) = Some z
atom_value look here (named n) = look n

-- "a term times its own signs, that product times the joining operator"
abbrev pub signed : Term → ℤ → ℤ
signed t z = sign_times t.joining (sign_times t.own z)

abbrev pub plus_term : Term → Option ℤ → Option ℤ → Option ℤ
plus_term t None rest = None
plus_term t (Some z) None = None
plus_term t (Some z) (Some rest) = Some (signed t z +ℤ rest)

-- "Terms, each negated by every `-` just before it, are added ..: the signed sum", in whole numbers; none where a name has no value
unfoldable pub signed_sum : (List ℕ → Option ℤ) → ℤ → List Term → Option ℤ
signed_sum look here [] = Some (pos 0)
signed_sum look here (t ∷ ts) = plus_term t (atom_value look here t.atom) (signed_sum look here ts)

-- ---- uses

unfoldable pub names_in : List Token → List (List ℕ)
names_in [] = []
names_in (plus ∷ ts) = names_in ts
names_in (minus ∷ ts) = names_in ts
names_in (dot ∷ ts) = names_in ts
names_in (number v ∷ ts) = names_in ts
names_in (name n ∷ ts) = n ∷ names_in ts
names_in (unreadable ∷ ts) = names_in ts

-- "An equate uses the names in its terms": every name that stands in its expression, also where that is malformed before or behind it
abbrev pub is_used : Equate → List ℕ → Bool
is_used e n = is_one_of (names_in (tokens_of e)) n
