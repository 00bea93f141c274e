-- The equates' rounds. Document 01, "Lines to places" and "Order".
use Rattle.std.specs.Prelude.{ℕ, zero, suc, List, [], ◌∷◌, ◌++◌, Bool, true, false, eqb, ℤ, pos}
use Rattle.std.specs.Prelude.{Option, None, Some}
use Rattle.std.specs.Prelude.{Result, Ok, Err}
use Rattle.numbers.specs.Results.{and_then}
use Rattle.numbers.specs.Text.{same}
use Rattle.layout.specs.Refusals.{Refusal, at_line}
use Rattle.layout.specs.Statements.{expr_text}
use Rattle.layout.specs.Expressions.{Evaluated, evaluate}
use Rattle.layout.specs.State.{Equate, State}
use Rattle.layout.specs.Stage.{is_label}
use Rattle.layout.specs.Addresses.{address_at, label_address}

-- a value, and the round that found it
pub record Found : Type 0 where
  pub value : ℤ
  pub round : ℕ

-- an equate, pending or found
pub record Known : Type 0 where
  pub equate : Equate
  pub found : Option Found

abbrev pub pending_equate : Equate → Known
pending_equate e = record { equate = e; found = None }

-- the first of two values that there is
abbrev pub or_else : Option ℤ → Option ℤ → Option ℤ
or_else None o = o
or_else (Some z) o = Some z

abbrev pub found_value : Option Found → Option ℤ
found_value None = None
found_value (Some f) = Some f.value

-- the value of an equate that is found, by its name
unfoldable pub constant : List Known → List ℕ → Option ℤ
constant [] n = None
constant (k ∷ ks) n =
    elim (same k.equate.name.bytes n) [ true ↦ or_else (found_value k.found) (constant ks n) | false ↦ constant ks n ]

abbrev pub as_number : Option ℕ → Option ℤ
as_number None = None
as_number (Some n) = Some (pos n)

-- "Equates are looked up before labels; a name in neither is undefined"
abbrev pub look : ℕ → State → List Known → List ℕ → Option ℤ
look base σ ks n = or_else (constant ks n) (as_number (label_address base σ n))

abbrev pub is_some : Option ℤ → Bool
is_some None = false
is_some (Some z) = true

-- "each 14, 15, then its expression": one equate against what is known
unfoldable pub turn : ℕ → State → List Known → Equate → Evaluated
turn base σ ks e =
    elim (is_label e.name.bytes σ.labels) [
      | true ↦ Err 14
      | false ↦ elim (is_some (constant ks e.name.bytes)) [
        | true ↦ Err 15
        | false ↦ evaluate (look base σ ks) (pos (address_at base σ e.place)) (expr_text e.expr)
      ]
    ]

-- the equates after some turns, and the evaluations so far
pub record Turns : Type 0 where
  pub known : List Known
  pub evaluations : ℕ

abbrev pub turns : List Known → ℕ → Turns
turns ks n = record { known = ks; evaluations = n }

-- a pending equate's turn in round r, after those that are done: one evaluation more
abbrev pub after_turn : ℕ → List Known → Equate → ℕ → Evaluated → Result Turns ℕ
after_turn r done e n (Ok (Some z)) =
    Ok (turns (done ++ record { equate = e; found = Some (record { value = z; round = r }) } ∷ []) (suc n))
after_turn r done e n (Ok None) = Ok (turns (done ++ pending_equate e ∷ []) (suc n))
after_turn r done e n (Err m) = Err m

-- an equate in round r: one that is found has no turn
abbrev pub pass_one : ℕ → State → ℕ → List Known → Known → List Known → ℕ → Option Found → Result Turns Refusal
pass_one base σ r done k ks n (Some x) = Ok (turns (done ++ k ∷ []) n)
pass_one base σ r done k ks n None = at_line k.equate.line (after_turn r done k.equate n (turn base σ (done ++ k ∷ ks) k.equate))

-- "Rounds take the pending equates in text order; a value found serves those below in the same round"
unfoldable pub pass : ℕ → State → ℕ → List Known → List Known → ℕ → Result Turns Refusal
pass base σ r done [] n = Ok (turns done n)
pass base σ r done (k ∷ ks) n = and_then (pass_one base σ r done k ks n k.found) (λ x. pass base σ r x.known ks x.evaluations)

unfoldable pub pending_count : List Known → ℕ
pending_count [] = 0
pending_count (k ∷ ks) = elim k.found [ None ↦ suc (pending_count ks) | Some f ↦ pending_count ks ]

-- "17 unresolved, at the first pending line"; asked only where one is pending (`rounds_end`)
unfoldable pub first_pending : List Known → ℕ
first_pending [] = 0
first_pending (k ∷ ks) = elim k.found [ None ↦ k.equate.line | Some f ↦ first_pending ks ]

abbrev pub unresolved : List Known → Refusal
unresolved ks = record { number = 17; line = first_pending ks }

-- one round after another: until nothing is pending, or a round finds nothing. Each but the last finds one at least, so one turn more than
-- there are equates is enough: the last only sees that nothing is pending (`rounds_fuel`, `rounds_end`)
unfoldable pub rounds : ℕ → State → ℕ → ℕ → List Known → ℕ → Result Turns Refusal
rounds base σ zero r ks n = Err (unresolved ks)
rounds base σ (suc fuel) r ks n =
    elim (eqb (pending_count ks) 0) [
      | true ↦ Ok (turns ks n)
      | false ↦ and_then (pass base σ r [] ks n) (λ x.
          elim (eqb (pending_count x.known) (pending_count ks)) [
            | true ↦ Err (unresolved x.known)
            | false ↦ rounds base σ fuel (suc r) x.known x.evaluations
          ])
    ]
