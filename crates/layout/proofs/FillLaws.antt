-- Label words filled in: where they stand side by side, each holds its own address at the end.
use Prim.Native.Nat.{ℕ, ◌+◌, ◌^◌, ◌≤◌, ◌<◌}
use mathlib.Core.Path.{◌≡◌, refl, sym, ◌∙◌, ap, subst}
use mathlib.Core.List.{List, [], ◌∷◌, ◌++◌}
use mathlib.Core.Bool.{Bool, true, false}
use Rattle.std.proofs.Common.{Option, None, Some}
use native.Mathlib.Omega.{arith}
use lib.ListN.{length, take, drop, length-append}
use lib.Seq.{length-take-le, take-append-le, take-take, take-add, take_at, drop_at}
use Rattle.std.proofs.Common.{Ok}
use Rattle.numbers.specs.Results.{and_then}
use Rattle.numbers.specs.Text.{same}
use Rattle.numbers.proofs.Bools.{none-some}
use Rattle.layout.specs.Bytes.{little_endian, put}
use Rattle.layout.specs.Refusals.{at_line}
use Rattle.layout.specs.Limits.{base_limit, data_limit}
use Rattle.layout.specs.State.{Label, LabelWord, State}
use Rattle.layout.specs.Addresses.{address_at, address_in, fill_one, fill}
use Rattle.layout.specs.Code.Fits.{Each, LabelFits}
use Rattle.layout.proofs.ResultLaws.{refused-value, value_same}
use Rattle.layout.proofs.ByteLaws.{length-little_endian, length-put}
use Rattle.layout.proofs.Fields.{place_below}
use Rattle.layout.proofs.StageOrder.{Spread}

-- ---- stores

-- what stands below a store stays
put_below : (n at : ℕ) (vs xs : List ℕ) → n ≤ at → at ≤ length xs → take n (put at vs xs) ≡ take n xs
put_below n at vs xs h g =
    let l = length-take-le at xs g in
    take-append-le n (take at xs ++ vs) (drop (at + length vs) xs) (omega (arith, length-append (take at xs) vs))
    ∙ take-append-le n (take at xs) vs (omega arith) ∙ take-take n at xs h

put-here : (at : ℕ) (vs xs : List ℕ) → at ≤ length xs → take (at + length vs) (put at vs xs) ≡ take at xs ++ vs
put-here at vs xs g =
    let l = length-take-le at xs g in
    take_at (take at xs ++ vs) (drop (at + length vs) xs) (at + length vs) (omega (arith, length-append (take at xs) vs))

spread_within : (n : ℕ) (ws : List LabelWord) (m : ℕ) → Spread n ws m → n ≤ m
spread_within n [] m g = g
spread_within n (w ∷ ws) m g = omega (arith, g.0, spread_within (w.at + 4) ws m g.1)

-- a word of the four bytes lies within
word-length : (w : LabelWord) (a : ℕ) (bytes : List ℕ) → w.at + 4 ≤ length bytes → length (put w.at (little_endian 4 a) bytes) ≡ length bytes
word-length w a bytes h = length-put w.at (little_endian 4 a) bytes (omega (arith, length-little_endian 4 a))

module _ (look : List ℕ → Option ℕ) where
  -- what stands below the label words stays
  fill_below : (n : ℕ) (ws : List LabelWord) (bytes last : List ℕ) → Spread n ws (length bytes) → fill look ws bytes ≡ Ok last
      → (take n last ≡ take n bytes) × (length last ≡ length bytes)
  unfolding fill
  fill_below n [] bytes last g e = (ap (take n) (sym (value_same e)), ap length (sym (value_same e)))
  fill_below n (w ∷ ws) bytes last g e = by (look w.name) e (λ m i. fill_below m ws i last)
    where
      by : (o : Option ℕ) → and_then (at_line w.line (fill_one o w bytes)) (fill look ws) ≡ Ok last
          → ((m : ℕ) (i : List ℕ) → Spread m ws (length i) → fill look ws i ≡ Ok last → (take m last ≡ take m i) × (length last ≡ length i))
          → (take n last ≡ take n bytes) × (length last ≡ length bytes)
      by None e more = absurd (refused-value e)
      by (Some a) e more =
          let next = put w.at (little_endian 4 a) bytes in
          let room : w.at + 4 ≤ length bytes = spread_within (w.at + 4) ws (length bytes) g.1 in
          let long = word-length w a bytes room in
          let r = more (w.at + 4) (put w.at (little_endian 4 a) bytes) (subst (λ (m : ℕ). Spread (w.at + 4) ws m) (sym long) g.1) e in (
            sym (take-take n (w.at + 4) last (omega (arith, g.0))) ∙ ap (take n) r.0 ∙ take-take n (w.at + 4) next (omega (arith, g.0))
                ∙ put_below n w.at (little_endian 4 a) bytes g.0 (omega arith),
            r.1 ∙ long,
          )

  -- a label word holds the address that is looked up
  abbrev pub WordHolds : List ℕ → LabelWord → Type 0
  WordHolds last w = (a : ℕ) × (look w.name ≡ Some a) × (take 4 (drop w.at last) ≡ little_endian 4 a)

  pub fill_holds : (n : ℕ) (ws : List LabelWord) (bytes last : List ℕ) → Spread n ws (length bytes) → fill look ws bytes ≡ Ok last
      → Each (WordHolds last) ws
  unfolding fill
  fill_holds n [] bytes last g e = tt
  fill_holds n (w ∷ ws) bytes last g e = by (look w.name) refl e (λ i. fill_holds (w.at + 4) ws i last)
    where
      by : (o : Option ℕ) → look w.name ≡ o → and_then (at_line w.line (fill_one o w bytes)) (fill look ws) ≡ Ok last
          → ((i : List ℕ) → Spread (w.at + 4) ws (length i) → fill look ws i ≡ Ok last → Each (WordHolds last) ws)
          → Each (WordHolds last) (w ∷ ws)
      by None q e more = absurd (refused-value e)
      by (Some a) q e more =
          let next = put w.at (little_endian 4 a) bytes in
          let four : length (little_endian 4 a) ≡ 4 = length-little_endian 4 a in
          let room : w.at + 4 ≤ length bytes = spread_within (w.at + 4) ws (length bytes) g.1 in
          let spread : Spread (w.at + 4) ws (length (put w.at (little_endian 4 a) bytes)) =
          subst (λ (m : ℕ). Spread (w.at + 4) ws m) (sym (word-length w a bytes room)) g.1 in
          let r = fill_below (w.at + 4) ws next last spread e in
          let front : take (w.at + 4) last ≡ take w.at bytes ++ little_endian 4 a =
          r.0 ∙ ap (λ (n : ℕ). take (w.at + n) next) (sym four) ∙ put-here w.at (little_endian 4 a) bytes (omega arith) in
          let long : w.at ≤ length last = omega (arith, r.1, word-length w a bytes room) in (
            (
              a,
              q,
              sym (drop_at (take w.at last) (take 4 (drop w.at last)) w.at (length-take-le w.at last long))
                  ∙ ap (drop w.at) (sym (take-add w.at 4 last) ∙ front)
                  ∙ drop_at (take w.at bytes) (little_endian 4 a) w.at (length-take-le w.at bytes (omega arith)),
            ),
            more next spread e,
          )

-- a label's address is below 2^32
pub address_below : (t : List ℕ) (base : ℕ) (σ : State) (ls : List Label) (n : List ℕ) (a : ℕ) → base ≤ base_limit
    → length σ.rest.own.stored.bytes ≤ data_limit → Each (LabelFits t) ls → address_in base σ ls n ≡ Some a → a < 2 ^ 32
unfolding address_in
address_below t base σ [] n a low short g e = absurd (none-some e)
address_below t base σ (l ∷ ls) n a low short g e = by (same l.name.bytes n) e (address_below t base σ ls n a low short g.1)
  where
    by : (c : Bool) → elim c [ true ↦ Some (address_at base σ l.place) | false ↦ address_in base σ ls n ] ≡ Some a
        → (address_in base σ ls n ≡ Some a → a < 2 ^ 32) → a < 2 ^ 32
    by true e more = let q : address_at base σ l.place ≡ a = cc in rw (← q) (place_below base σ l.place low short g.0.place)
    by false e more = more e
