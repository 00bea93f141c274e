-- Chains of uses, where 17 stands, and the conditions under which it comes exactly when there is such a chain. The order's demand 3; document 01,
-- "Lines to places", "Order". What the lines say is σ, as the line stage reads it (`line_stage`); no rounds are spoken of.
use Rattle.std.specs.Prelude.{ℕ, ◌<◌, ◌≡◌, List, [], ◌∷◌, map, Bool, true, false, not, ◌&&◌, ℤ, pos, ◌+ℤ◌}
use Rattle.std.specs.Prelude.{Option, None, Some}
use Rattle.numbers.specs.Ints.{in64, sign_times}
use Rattle.layout.specs.Bytes.{is_one_of}
use Rattle.layout.specs.State.{Equate, State}
use Rattle.layout.specs.Stage.{is_label}
use Rattle.layout.specs.Addresses.{address_at, label_address}
use Rattle.layout.specs.Terms.{Term, terms_of, WellFormed, atom_value, signed, signed_sum, is_used}

-- one of several
pub data Among {A : Type 0} (x : A) : List A → Type 0 where
  first : {xs : List A} → Among x (x ∷ xs)
  later : {y : A} {xs : List A} → Among x xs → Among x (y ∷ xs)

abbrev pub name_of : Equate → List ℕ
name_of e = e.name.bytes

abbrev pub equated_names : State → List (List ℕ)
equated_names σ = map name_of σ.rest.equates

-- ---- chains

-- a chain of uses that e starts reaches the name n: e uses n, or e uses the name of an equate d, and d starts a chain that reaches n. Where several
-- equates share a name, the chain goes on through any of them
pub data Reaches (es : List Equate) : Equate → List ℕ → Type 0 where
  uses : {e : Equate} {n : List ℕ} → is_used e n ≡ true → Reaches es e n
  onto : {e : Equate} {n : List ℕ} (d : Equate) → Among d es → is_used e (name_of d) ≡ true → Reaches es d n → Reaches es e n

-- "a name in neither is undefined": neither an equate nor a label
pub record Undefined (σ : State) (n : List ℕ) : Type 0 where
  pub no_equate : is_one_of (equated_names σ) n ≡ false
  pub no_label : is_label n σ.labels ≡ false

-- e "starts a chain of uses that comes back to a name in it or reaches an undefined one". It comes back to the name of d, which is e itself or an
-- equate that the chain reaches, where d starts a chain that reaches its own name
pub data Unresolved (σ : State) (e : Equate) : Type 0 where
  undefined : (n : List ℕ) → Reaches σ.rest.equates e n → Undefined σ n → Unresolved σ e
  circular : (d : Equate) → Among d σ.rest.equates → Reaches σ.rest.equates e (name_of d) → Reaches σ.rest.equates d (name_of d)
      → Unresolved σ e

-- "there is such a chain"
abbrev pub Chained : State → Type 0
Chained σ = (e : Equate) × Among e σ.rest.equates × Unresolved σ e

-- "names the first line whose equate starts a chain of uses that comes back to a name in it or reaches an undefined one"
pub record NamesFirst (σ : State) (line : ℕ) : Type 0 where
  pub equate : Equate
  pub among : Among equate σ.rest.equates
  pub at : equate.line ≡ line
  pub starts : Unresolved σ equate
  pub none_before : (d : Equate) → Among d σ.rest.equates → d.line < line → Unresolved σ d → ⊥

-- ---- what can be evaluated

-- the name n can be evaluated to z: z is its label's address, or the signed sum of an equate of that name under names that can be evaluated
pub data Worth (base : ℕ) (σ : State) : List ℕ → ℤ → Type 0 where
  of_label : (n : List ℕ) (a : ℕ) → label_address base σ n ≡ Some a → Worth base σ n (pos a)
  of_equate : (e : Equate) → Among e σ.rest.equates → (look : List ℕ → Option ℤ) → ((n : List ℕ) (z : ℤ) → look n ≡ Some z → Worth base σ n z)
      → (ts : List Term) → terms_of e ≡ Some ts → (z : ℤ) → signed_sum look (pos (address_at base σ e.place)) ts ≡ Some z
      → Worth base σ (name_of e) z

abbrev pub if_known : Option ℤ → (ℤ → Bool) → Bool
if_known None f = true
if_known (Some z) f = f z

-- 24's "a term times its own signs, that product times the joining operator, or a partial sum", term by term up to the first name without a value:
-- are all within 64 signed bits?
unfoldable pub is_within : (List ℕ → Option ℤ) → ℤ → ℤ → List Term → Bool
is_within look here sum [] = true
is_within look here sum (t ∷ ts) =
    if_known (atom_value look here t.atom) (λ z.
    in64 (sign_times t.own z) && (in64 (signed t z) && (in64 (sum +ℤ signed t z) && is_within look here (sum +ℤ signed t z) ts)))

-- "none of 24's products and partial sums overflows", whichever of the names that can be evaluated have their values
abbrev pub NeverBeyond : ℕ → State → Equate → Type 0
NeverBeyond base σ e =
    (look : List ℕ → Option ℤ) → ((n : List ℕ) (z : ℤ) → look n ≡ Some z → Worth base σ n z)
    → (ts : List Term) → terms_of e ≡ Some ts → is_within look (pos (address_at base σ e.place)) (pos 0) ts ≡ true

-- ---- the conditions

abbrev pub are_distinct : List (List ℕ) → Bool
are_distinct [] = true
are_distinct (n ∷ ns) = not (is_one_of ns n) && are_distinct ns

-- "all expressions are well formed, names distinct and no label, and none of 24's products and partial sums overflows"
pub record Conditions (base : ℕ) (σ : State) : Type 0 where
  pub well_formed : (e : Equate) → Among e σ.rest.equates → WellFormed e
  pub distinct : are_distinct (equated_names σ) ≡ true
  pub no_label : (e : Equate) → Among e σ.rest.equates → is_label (name_of e) σ.labels ≡ false
  pub never_beyond : (e : Equate) → Among e σ.rest.equates → NeverBeyond base σ e
