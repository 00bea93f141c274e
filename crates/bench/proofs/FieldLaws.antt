-- The loop over a line's numbers: what it has written, with the fields to come, is all of them.
use Prim.Native.Nat.{ℕ, suc, ◌+◌, ◌-◌, ◌*◌, ◌^◌, ◌≤◌, ◌<◌}
use native.Mathlib.Numerals.{add-one}
use native.Mathlib.Omega.{arith}
use mathlib.Core.Path.{◌≡◌, refl, ◌∙◌}
use mathlib.Core.List.{List, [], ◌∷◌, ◌++◌, append_assoc}
use lib.ListN.{length, take, drop, get_or, set, drop_of_length-le}
use lib.Seq.{drop-cons}
use Rattle.numbers.specs.Text.{byte}
use Rattle.bench.specs.Lines.{decimal, fields}
use Rattle.bench.specs.Code.Writes.{Begins}
use Rattle.bench.proofs.DecimalLaws.{decimal_short}
use Rattle.bench.proofs.WriteLaws.{begins_none, begins_length, begins_set, begins_after}

-- the first i numbers are written, up to the place `at`
pub record Filled (ns before after : List ℕ) (at i : ℕ) : Type 0 where
  pub done : List ℕ
  pub rest : done ++ fields (drop i ns) ≡ fields ns
  pub begins : Begins done before after at
  pub same : length after ≡ length before
  pub within : i ≤ length ns
  pub room : at + 21 * (length ns - i) + 1 ≤ length before

pub filled_none : (ns before : List ℕ) → 21 * length ns + 1 ≤ length before → Filled ns before before 0 0
filled_none ns before h =
    record { done = []; rest = refl; begins = begins_none before; same = refl; within = omega arith; room = omega arith }

fields_next : (ns : List ℕ) (i : ℕ) → i < length ns → fields (drop i ns) ≡ (byte " " ∷ decimal (get_or ns i 0)) ++ fields (drop (suc i) ns)
unfolding fields
fields_next ns i h = rw (drop-cons ns i 0 h)

pub filled_more : (ns before after part : List ℕ) (at i k : ℕ) → Filled ns before after at i → i < length ns → get_or ns i 0 < 2 ^ 64
    → Begins (byte " " ∷ decimal (get_or ns i 0)) (take (length after - at) (drop at after)) part k
    → Filled ns before (take at after ++ (part ++ drop (length after - at) (drop at after))) (at + k) (i + 1)
filled_more ns before after part at i k f h low w =
    let short : k ≤ 21 = omega (arith, w.count, decimal_short (get_or ns i 0) low) in
    let next : Begins (f.done ++ (byte " " ∷ decimal (get_or ns i 0))) before (take at after ++ (part ++ drop (length after - at) (drop at after))) (at + k) =
    begins_after f.done _ before after part at k f.begins w (omega (arith, f.room, f.same)) in
    record {
      done = f.done ++ (byte " " ∷ decimal (get_or ns i 0));
      rest = rw (add-one i) (append_assoc f.done (byte " " ∷ decimal (get_or ns i 0)) (fields (drop (suc i) ns)) ∙ rw (← fields_next ns i h) f.rest);
      begins = next;
      same = begins_length _ _ _ _ next (omega (arith, f.room));
      within = omega arith;
      room = omega (arith, f.room);
    }

pub filled_end : (ns before after : List ℕ) (at i : ℕ) → Filled ns before after at i → length ns ≤ i → Begins (fields ns) before (set after at 10) (at + 1)
unfolding fields
filled_end ns before after at i f h =
    let all : f.done ++ (10 ∷ []) ≡ fields ns = rw (drop_of_length-le ns {i = i} h) at f.rest in
    rw (← all) (begins_set f.done before after at 10 f.begins (omega (arith, f.room)))
