-- The layout ends: no fuel is ever used up, so that more of it never changes an answer.
use Prim.Native.Nat.{ℕ, zero, suc, ◌+◌, ◌≤◌, ◌<◌}
use mathlib.Core.Path.{◌≡◌, refl, ap}
use mathlib.Core.List.{List, [], ◌∷◌, map}
use mathlib.Core.Bool.{Bool, true, false, cond}
use native.Mathlib.Omega.{arith}
use lib.Dec.{eqb}
use lib.ListN.{length, take, drop, length-drop}
use borrow.Author.Tests.{eqb-false}
use Rattle.std.proofs.Common.{Result, Ok, Err}
use Rattle.numbers.specs.Results.{and_then}
use Rattle.numbers.specs.Text.{byte, leading, is_digit}
use Rattle.numbers.specs.Numbers.{prefixed}
use Rattle.layout.specs.Refusals.{Refusal}
use Rattle.layout.specs.Expressions.{plus, minus, unreadable, is_blank, is_name_byte, is_number_byte, Scanned, number_token, name_token, scan}
use Rattle.layout.specs.Expressions.{tokens_in, tokens}
use Rattle.layout.specs.State.{State, Equate}
use Rattle.layout.specs.Rounds.{Known, pending_equate, turn, Turns, turns, pass, pending_count}
use Rattle.layout.specs.Rounds.{unresolved, rounds}
use Rattle.layout.specs.Layouts.{resolve}
use Rattle.layout.proofs.Gives.{Comes}
use Rattle.layout.proofs.RoundHistory.{pending_all, RoundTurns, steps_fewer}
use Rattle.layout.proofs.ResolveLaws.{TurnRefused, PassIs, pass-is}

-- ---- rounds

module _ (base : ℕ) (σ : State) where
  -- what follows a round, with so many turns left
  abbrev after_pass : ℕ → ℕ → List Known → Turns → Result Turns Refusal
  after_pass fuel r ks x =
      elim (eqb (pending_count x.known) (pending_count ks)) [
        | true ↦ Err (unresolved x.known)
        | false ↦ rounds base σ fuel (suc r) x.known x.evaluations
      ]

  -- with more turns than equates are pending, how many more they are changes nothing
  pub rounds_fuel : (a b r : ℕ) (ks : List Known) (n : ℕ) → pending_count ks < a → pending_count ks < b
      → rounds base σ a r ks n ≡ rounds base σ b r ks n
  unfolding rounds
  rounds_fuel zero b r ks n h i = absurd (omega arith)
  rounds_fuel (suc a) zero r ks n h i = absurd (omega arith)
  rounds_fuel (suc a) (suc b) r ks n h i = by (eqb (pending_count ks) 0) (pass base σ r [] ks n) (pass-is base σ r [] ks n) (rounds_fuel a b (suc r))
    where
      last : (x : Turns) (c : Bool) → eqb (pending_count x.known) (pending_count ks) ≡ c → RoundTurns (turn base σ) r [] ks x.known
          → (pending_count x.known < a → pending_count x.known < b
          → rounds base σ a (suc r) x.known x.evaluations ≡ rounds base σ b (suc r) x.known x.evaluations)
          → ◌≡◌ {A = Result Turns Refusal}
          (elim c [ true ↦ Err (unresolved x.known) | false ↦ rounds base σ a (suc r) x.known x.evaluations ])
          (elim c [ true ↦ Err (unresolved x.known) | false ↦ rounds base σ b (suc r) x.known x.evaluations ])
      last x true q g ih = refl
      last x false q g ih =
          let fewer : pending_count x.known < pending_count ks =
          omega (arith, steps_fewer (turn base σ) g, eqb-false (pending_count x.known) (pending_count ks) q) in
          ih (omega arith) (omega arith)

      by : (c : Bool) (x : Result Turns Refusal) → Comes (PassIs base σ r [] ks n) (TurnRefused base σ (map (λ k. k.equate) ks)) x
          → ((ls : List Known) (m : ℕ) → pending_count ls < a → pending_count ls < b → rounds base σ a (suc r) ls m ≡ rounds base σ b (suc r) ls m)
          → ◌≡◌ {A = Result Turns Refusal} (elim c [ true ↦ Ok (turns ks n) | false ↦ and_then x (after_pass a r ks) ])
          (elim c [ true ↦ Ok (turns ks n) | false ↦ and_then x (after_pass b r ks) ])
      by true x g ih = refl
      by false (Err m) g ih = refl
      by false (Ok x) g ih = last x (eqb (pending_count x.known) (pending_count ks)) refl (rw (← g.are) at g.steps) (ih x.known x.evaluations)

  -- one turn more than there are equates is enough
  pub enough : (es : List Equate) (m : ℕ) → rounds base σ (suc (length es) + m) 1 (map pending_equate es) 0 ≡ resolve base σ es
  enough es m =
      let p = pending_all es in
      rounds_fuel (suc (length es) + m) (suc (length es)) 1 (map pending_equate es) 0 (omega (arith, p)) (omega (arith, p))

-- ---- tokens

leading-some : (test : ℕ → Bool) (b : ℕ) (bs : List ℕ) → test b ≡ true → 1 ≤ leading test (b ∷ bs)
unfolding leading
leading-some test b bs e = rw e (omega arith)

-- a token takes a byte at least
pub scan_takes : (b : ℕ) (bs : List ℕ) → 1 ≤ (scan b (b ∷ bs)).size
unfolding scan
scan_takes b bs = by (eqb b (byte "+")) (eqb b (byte "-")) (is_digit b) (is_name_byte b) refl refl
  where
    by : (p m d n : Bool) → is_digit b ≡ d → is_name_byte b ≡ n → 1 ≤ (cond {A = Scanned} p (record { token = plus; size = 1 })
        (cond m (record { token = minus; size = 1 })
        (cond d (record { token = number_token (prefixed (take (leading is_number_byte (b ∷ bs)) (b ∷ bs))); size = leading is_number_byte (b ∷ bs) })
        (cond n (record { token = name_token (take (leading is_name_byte (b ∷ bs)) (b ∷ bs)); size = leading is_name_byte (b ∷ bs) })
        (record { token = unreadable; size = 1 }))))).size
    by true m d n e f = omega arith
    by false true d n e f = omega arith
    by false false true n e f = leading-some is_number_byte b bs (rw e refl)
    by false false false true e f = leading-some is_name_byte b bs f
    by false false false false e f = omega arith

-- as many turns as bytes are enough
pub tokens_fuel : (m n : ℕ) (s : List ℕ) → length s ≤ m → length s ≤ n → tokens_in m s ≡ tokens_in n s
unfolding tokens_in
tokens_fuel zero zero s h i = refl
tokens_fuel zero (suc n) [] h i = refl
tokens_fuel zero (suc n) (b ∷ bs) h i = absurd (omega arith)
tokens_fuel (suc m) zero [] h i = refl
tokens_fuel (suc m) zero (b ∷ bs) h i = absurd (omega arith)
tokens_fuel (suc m) (suc n) [] h i = refl
tokens_fuel (suc m) (suc n) (b ∷ bs) h i =
    let rest = drop (scan b (b ∷ bs)).size (b ∷ bs) in
    let fewer : length (drop (leading is_blank rest) rest) ≤ length bs = rw (length-drop, length-drop) (omega (arith, scan_takes b bs)) in
    ap (λ ts. (scan b (b ∷ bs)).token ∷ ts) (tokens_fuel m n (drop (leading is_blank rest) rest) (omega (arith, fewer)) (omega (arith, fewer)))

pub tokens_enough : (s : List ℕ) (m : ℕ) → tokens_in (length s + m) (drop (leading is_blank s) s) ≡ tokens s
tokens_enough s m =
    let fewer : length (drop (leading is_blank s) s) ≤ length s = rw length-drop (omega arith) in
    tokens_fuel (length s + m) (length s) (drop (leading is_blank s) s) (omega arith) fewer
