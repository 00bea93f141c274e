-- The items of an accepted layout: each has its words between its first and the next item's, as many as it reserves, at its address; and those of li
-- and la load what they say.
use Prim.Native.Nat.{ℕ, suc, ◌+◌, ◌-◌, ◌*◌, ◌%◌, ◌^◌, ◌<◌}
use mathlib.Core.Path.{◌≡◌, refl, sym, ◌∙◌, ap, ap₂, subst}
use mathlib.Core.Logic.{◌⊎◌, inl, inr}
use mathlib.Core.List.{List, [], ◌∷◌, ◌++◌, append-nil, append_assoc}
use mathlib.Core.Bool.{Bool, true, false, cond, false≢true}
use Rattle.std.proofs.Common.{Option, None, Some}
use native.Mathlib.Omega.{arith}
use lib.Dec.{leb}
use lib.IntN.{ℤ, pos, negsuc, ◌+ℤ◌}
use lib.ListN.{length, take, drop, length-append}
use lib.Seq.{take_at, drop_at}
use borrow.Author.Tests.{leb-true, le-ltb}
use Rattle.std.proofs.Common.{Result, Ok, Err}
use Rattle.numbers.specs.Results.{and_then, mapped, or_refuse}
use Rattle.numbers.specs.Text.{text, starts_with}
use Rattle.numbers.specs.Ints.{is_signed12, is_signed32, bits}
use Rattle.numbers.specs.Numbers.{imm_of, imm64_of}
use Rattle.numbers.specs.Registers.{register_of}
use Rattle.numbers.specs.Operands.{register_before}
use Rattle.numbers.proofs.Bools.{and_left}
use Rattle.numbers.proofs.Names.{register_below}
use Rattle.numbers.proofs.Readings.{imm_in32}
use Rattle.encoder.specs.Encoding.{encoded}
use Rattle.encoder.specs.Run.{LoadsIn}
use Rattle.encoder.proofs.Load.{pair_loads, single_loads}
use Rattle.layout.specs.declared.pseudo.Pseudo.{Pseudo}
use Rattle.layout.specs.declared.pseudo.Pseudo.TheVariants.{Li, La}
use Rattle.layout.specs.Refusals.{at_line}
use Rattle.layout.specs.Pseudos.{pseudo_operands}
use Rattle.layout.specs.Expansions.{label_last, number_or, number_last, word, li_load, li_held, looked_up, instructions, expansion}
use Rattle.layout.specs.State.{ItemLine}
use Rattle.layout.specs.Rounds.{as_number}
use Rattle.layout.specs.Layouts.{ItemAt, Layout, emission, Emitted, item_at, emit}
use Rattle.layout.specs.Demands.{recorded_value, recorded_address, ends_at, item_words, li_says, modulo32, Loads, ItemHolds, OneByOne}
use Rattle.layout.specs.Code.Fits.{Consecutive}
use Rattle.layout.proofs.ResultLaws.{refused-value, value_same}
use Rattle.layout.proofs.Gives.{Gives, comes_so}
use Rattle.layout.proofs.Emissions.{emission-sized}
use Rattle.layout.proofs.Kept.{consecutive_next}

abbrev Words : Type 0
Words = Result (List ℕ) ℕ

-- ---- numbers modulo 2^32

signed-bits : (z : ℤ) → is_signed32 z ≡ true → bits 32 z ≡ modulo32 z
signed-bits (pos n) e = let h = leb-true n 2147483647 e in omega arith
signed-bits (negsuc n) e = let h = leb-true n 2147483647 (and_left (leb n 2147483647) true e) in omega arith

signed_mod : (z : ℤ) → is_signed32 z ≡ true → bits 32 z % 2 ^ 32 ≡ modulo32 z
signed_mod (pos n) e = refl
signed_mod (negsuc n) e = let h = leb-true n 2147483647 (and_left (leb n 2147483647) true e) in omega arith

-- an upper half that is read as negative
mod_up : (z : ℤ) → is_signed32 z ≡ true → modulo32 (z +ℤ pos (2 ^ 32)) ≡ modulo32 z
mod_up (pos n) e = omega arith
mod_up (negsuc n) e =
    let h = leb-true n 2147483647 (and_left (leb n 2147483647) true e) in
    rw (le-ltb 4294967296 (suc n) (omega arith)) (omega arith)

-- ---- words of instructions

-- words that the encoder gives load what was proved of them
loads_as : (vs ws : List ℕ) (r v v' : ℕ) → ◌≡◌ {A = Words} (Ok ws) (Ok vs) → v ≡ v' → LoadsIn ws r v → LoadsIn vs r v'
loads_as vs ws r v v' p q h = subst (λ (us : List ℕ). LoadsIn us r v') (value_same p) (subst (λ (u : ℕ). LoadsIn ws r u) q h)

-- a number's load loads it: a single addi one that it holds, the pair any, of upper part 0 too
number_loads : (one : Bool) (rd : ℕ) (z : ℤ) (vs : List ℕ) → is_signed32 z ≡ true → (one ≡ true → is_signed12 z ≡ true) → rd < 32
    → encoded (instructions Li (li_load one rd z)) ≡ Ok vs → LoadsIn vs rd (modulo32 z)
number_loads true rd z vs s h below e =
    let r = single_loads rd z below (h refl) in
    loads_as vs r.0 rd (bits 32 z) (modulo32 z) (sym r.1 ∙ e) (signed-bits z s) r.2
number_loads false rd z vs s h below e =
    let r = pair_loads rd (bits 32 z) below in
    loads_as vs r.0 rd (bits 32 z % 2 ^ 32) (modulo32 z) (sym r.1 ∙ e) (signed_mod z s) r.2

module _ (const : List ℕ → Option ℤ) (place : List ℕ → Option ℕ) where
  -- the operands' register and what is loaded there
  record LoadsAs (ops : List (List ℕ)) (vs : List ℕ) (says : List ℕ → Option ℤ) : Type 0 where
    first : List ℕ
    second : List ℕ
    operands : ops ≡ first ∷ second ∷ []
    register : ℕ
    is_register : register_of first ≡ Some register
    value : ℤ
    said : says second ≡ Some value
    loaded : LoadsIn vs register (modulo32 value)

  -- ---- li

  abbrev says_li : List ℕ → Option ℤ
  says_li b = li_says (imm_of b) (imm64_of b) (const b)

  -- an li by what its first operand reads as
  abbrev li_read : List ℕ → Option ℕ → Words
  li_read b n =
      and_then (mapped (instructions Li) (and_then (or_refuse 18 (register_before (Some b) n) number_last) (looked_up const place))) encoded

  li_two : (a b vs : List ℕ) → li_read b (register_of a) ≡ Ok vs → LoadsAs (a ∷ b ∷ []) vs says_li
  li_two a b vs e = by (register_of a) refl e
    where
      made : (n : ℕ) → register_of a ≡ Some n → (z : ℤ) → says_li b ≡ Some z → LoadsIn vs n (modulo32 z) → LoadsAs (a ∷ b ∷ []) vs says_li
      made n r z q l = record { first = a; second = b; operands = refl; register = n; is_register = r; value = z; said = q; loaded = l }

      says : (o : Option ℤ) → imm_of b ≡ o → says_li b ≡ li_says o (imm64_of b) (const b)
      says o q = ap (λ (o : Option ℤ). li_says o (imm64_of b) (const b)) q

      number : (n : ℕ) → register_of a ≡ Some n → (z : ℤ) → imm_of b ≡ Some z → encoded (instructions Li (li_load (is_signed12 z) n z)) ≡ Ok vs
          → LoadsAs (a ∷ b ∷ []) vs says_li
      number n r z q e = which (imm_in32 b z q).1
        where
          s : is_signed32 z ≡ true
          s = (imm_in32 b z q).0

          loaded : LoadsIn vs n (modulo32 z)
          loaded = number_loads (is_signed12 z) n z vs s (λ w. w) (register_below a n r) e

          which : (imm64_of b ≡ Some z) ⊎ (imm64_of b ≡ Some (z +ℤ pos (2 ^ 32))) → LoadsAs (a ∷ b ∷ []) vs says_li
          which (inl w) = made n r z (says (Some z) q ∙ w) loaded
          which (inr w) =
              made n r (z +ℤ pos (2 ^ 32)) (says (Some z) q ∙ w) (subst (LoadsIn vs n) (sym (mod_up z s)) loaded)

      name : (n : ℕ) → register_of a ≡ Some n → imm_of b ≡ None → (c : Bool) (o : Option ℤ) → const b ≡ o
          → and_then (mapped (instructions Li) (mapped (li_load false n) (cond c (Err 19) (li_held o)))) encoded ≡ Ok vs
          → LoadsAs (a ∷ b ∷ []) vs says_li
      name n r q true o w e = absurd (refused-value e)
      name n r q false None w e = absurd (refused-value e)
      name n r q false (Some z) w e = small (is_signed32 z) refl e
        where
          small : (c : Bool) → is_signed32 z ≡ c
              → and_then (mapped (instructions Li) (mapped (li_load false n) (cond c (Ok z) (Err 19)))) encoded ≡ Ok vs
              → LoadsAs (a ∷ b ∷ []) vs says_li
          small true s e = made n r z (says None q ∙ w) (number_loads false n z vs s (λ w. absurd (false≢true w)) (register_below a n r) e)
          small false s e = absurd (refused-value e)

      then : (n : ℕ) → register_of a ≡ Some n → (o : Option ℤ) → imm_of b ≡ o
          → and_then (mapped (instructions Li) (looked_up const place (number_or n b o))) encoded ≡ Ok vs → LoadsAs (a ∷ b ∷ []) vs says_li
      then n r (Some z) q e = number n r z q e
      then n r None q e = name n r q (starts_with (text "'") b) (const b) refl e

      by : (o : Option ℕ) → register_of a ≡ o → li_read b o ≡ Ok vs → LoadsAs (a ∷ b ∷ []) vs says_li
      by None r e = absurd (refused-value e)
      by (Some n) r e = then n r (imm_of b) refl e

  li_loads : (ops : List (List ℕ)) (vs : List ℕ) → and_then (expansion const place Li ops) encoded ≡ Ok vs → LoadsAs ops vs says_li
  unfolding expansion
  li_loads [] vs e = absurd (refused-value e)
  li_loads (a ∷ []) vs e = absurd (refused-value e)
  li_loads (a ∷ b ∷ []) vs e = li_two a b vs e
  li_loads (a ∷ b ∷ c ∷ cs) vs e = absurd (refused-value e)

  -- ---- la

  abbrev says_la : List ℕ → Option ℤ
  says_la b = as_number (place b)

  -- an la by what its first operand reads as
  abbrev la_read : List ℕ → Option ℕ → Words
  la_read b n =
      and_then (mapped (instructions La) (and_then (or_refuse 18 (register_before (Some b) n) label_last) (looked_up const place))) encoded

  la_two : (a b vs : List ℕ) → la_read b (register_of a) ≡ Ok vs → LoadsAs (a ∷ b ∷ []) vs says_la
  la_two a b vs e = by (register_of a) refl e
    where
      then : (n : ℕ) → register_of a ≡ Some n → (p : Option ℕ) → place b ≡ p
          → and_then (mapped (instructions La) (or_refuse 20 p (λ v. Ok (word n v)))) encoded ≡ Ok vs → LoadsAs (a ∷ b ∷ []) vs says_la
      then n r None q e = absurd (refused-value e)
      then n r (Some v) q e =
          record {
            first = a;
            second = b;
            operands = refl;
            register = n;
            is_register = r;
            value = pos v;
            said = ap as_number q;
            loaded =
                let g = pair_loads n v (register_below a n r) in
                loads_as vs g.0 n (v % 2 ^ 32) (v % 2 ^ 32) (sym g.1 ∙ e) refl g.2;
          }

      by : (o : Option ℕ) → register_of a ≡ o → la_read b o ≡ Ok vs → LoadsAs (a ∷ b ∷ []) vs says_la
      by None r e = absurd (refused-value e)
      by (Some n) r e = then n r (place b) refl e

  la_loads : (ops : List (List ℕ)) (vs : List ℕ) → and_then (expansion const place La ops) encoded ≡ Ok vs → LoadsAs ops vs says_la
  unfolding expansion
  la_loads [] vs e = absurd (refused-value e)
  la_loads (a ∷ []) vs e = absurd (refused-value e)
  la_loads (a ∷ b ∷ []) vs e = la_two a b vs e
  la_loads (a ∷ b ∷ c ∷ cs) vs e = absurd (refused-value e)

  -- ---- items one after another

  module _ (base : ℕ) where
    -- items, their words and their records, the first word being the nth
    pub data Emission : List ItemLine → ℕ → List ℕ → List ItemAt → Type 0 where
      no_item : {n : ℕ} → Emission [] n [] []
      an_item : {x : ItemLine} {xs : List ItemLine} {n : ℕ} {ws : List ℕ} {is : List ItemAt} (vs : List ℕ)
          → emission const place x.item x.source.bytes ≡ Ok vs → Emission xs (n + length vs) ws is
          → Emission (x ∷ xs) n (vs ++ ws) (item_at base x n ∷ is)

    -- what is emitted after ws and is
    pub record EmittedAs (xs : List ItemLine) (ws : List ℕ) (is : List ItemAt) (x : Emitted) : Type 0 where
      pub words : List ℕ
      pub items : List ItemAt
      pub all_words : x.words ≡ ws ++ words
      pub all_items : x.items ≡ is ++ items
      pub emits : Emission xs (length ws) words items

    pub emitted_as : (xs : List ItemLine) (ws : List ℕ) (is : List ItemAt) → Gives (EmittedAs xs ws is) (emit base const place xs ws is)
    unfolding emit
    emitted_as [] ws is = record { words = []; items = []; all_words = sym (append-nil ws); all_items = sym (append-nil is); emits = no_item }
    emitted_as (x ∷ xs) ws is = by (emission const place x.item x.source.bytes) refl (emitted_as xs)
      where
        by : (v : Words) → emission const place x.item x.source.bytes ≡ v
            → ((ws : List ℕ) (is : List ItemAt) → Gives (EmittedAs xs ws is) (emit base const place xs ws is))
            → Gives (EmittedAs (x ∷ xs) ws is)
            (and_then (at_line x.line v) (λ vs. emit base const place xs (ws ++ vs) (is ++ item_at base x (length ws) ∷ [])))
        by (Err n) q more = tt
        by (Ok vs) q more =
            let is' = is ++ item_at base x (length ws) ∷ [] in
            comes_so (EmittedAs xs (ws ++ vs) is') (EmittedAs (x ∷ xs) ws is) (λ _. Unit) (λ _. Unit)
            (λ y r. record {
              words = vs ++ r.words;
              items = item_at base x (length ws) ∷ r.items;
              all_words = r.all_words ∙ append_assoc ws vs r.words;
              all_items = r.all_items ∙ append_assoc is (item_at base x (length ws) ∷ []) r.items;
              emits = an_item vs q (subst (λ (n : ℕ). Emission xs n r.words r.items) (length-append ws vs) r.emits);
            })
            (λ r u. u) (emit base const place xs (ws ++ vs) is') (more (ws ++ vs) is')

    -- those behind the first
    pub behind : (x : ItemLine) (xs : List ItemLine) (n m : ℕ) (vs : List ℕ) → emission const place x.item x.source.bytes ≡ Ok vs
        → Consecutive n (x ∷ xs) m → Consecutive (n + length vs) xs m
    behind x xs n m vs q = consecutive_next n (n + length vs) x xs m (ap (λ (k : ℕ). n + k) (emission-sized const place x.item x.source.bytes vs q))

    -- ---- each item of a layout whose records say what was looked up

    module _ (l : Layout) (equates : (b : List ℕ) → recorded_value l.equates b ≡ const b)
        (labels : (b : List ℕ) → recorded_address l.labels b ≡ place b) where
      ends : {xs : List ItemLine} {n : ℕ} {ws : List ℕ} {is : List ItemAt} → Emission xs n ws is → length l.words ≡ n + length ws
          → ends_at l is ≡ n
      ends {n = n} no_item e = e ∙ omega arith
      ends (an_item vs q r) e = refl

      middle : (pre vs ws : List ℕ) (n e : ℕ) → length pre ≡ n → e ≡ n + length vs → l.words ≡ pre ++ (vs ++ ws)
          → take (e - n) (drop n l.words) ≡ vs
      middle pre vs ws n e p q w =
          ap₂ (λ (k : ℕ) (ys : List ℕ). take k (drop n ys)) (let z : e - n ≡ length vs = omega arith in z) w
          ∙ ap (take (length vs)) (drop_at pre (vs ++ ws) n p) ∙ take_at vs ws (length vs) refl

      -- with the layout's own look-ups, and as the item's words
      loads : (s : List ℕ) (vs ws : List ℕ) (says says' : List ℕ → Option ℤ) → ((b : List ℕ) → says' b ≡ says b) → ws ≡ vs
          → LoadsAs (pseudo_operands s) vs says → Loads s ws says'
      loads s vs ws says says' f w r =
          record {
            first = r.first;
            second = r.second;
            operands = r.operands;
            register = r.register;
            is_register = r.is_register;
            value = r.value;
            said = f r.second ∙ r.said;
            loads = subst (λ (us : List ℕ). LoadsIn us r.register (modulo32 r.value)) (sym w) r.loaded;
          }

      item-holds : (x : ItemLine) (above : List ItemAt) (n : ℕ) (vs : List ℕ) (below : List ItemAt)
          → emission const place x.item x.source.bytes ≡ Ok vs → item_words l (item_at base x n) below ≡ vs → x.offset ≡ 4 * n
          → ItemHolds base l x above (item_at base x n) below
      item-holds x above n vs below e w o =
          let s = x.source.bytes in
          let ws = item_words l (item_at base x n) below in
          record {
            address = refl;
            line = refl;
            kind = refl;
            source = refl;
            at_word = ap (λ (m : ℕ). base + m) o;
            sized = ap length w ∙ emission-sized const place x.item s vs e;
            li = λ q. loads s vs ws says_li _ (λ b. ap (li_says (imm_of b) (imm64_of b)) (equates b)) w
                (li_loads (pseudo_operands s) vs (ap (λ (o : Option Pseudo). emission const place o s) (sym q) ∙ e));
            la = λ q. loads s vs ws says_la _ (λ b. ap as_number (labels b)) w
                (la_loads (pseudo_operands s) vs (ap (λ (o : Option Pseudo). emission const place o s) (sym q) ∙ e));
          }

      in_order : {xs : List ItemLine} {n : ℕ} {ws : List ℕ} {is : List ItemAt} (m : ℕ) (pre : List ℕ) (above : List ItemAt) → length pre ≡ n
          → l.words ≡ pre ++ ws → Emission xs n ws is → Consecutive n xs m → OneByOne (ItemHolds base l) xs above is
      in_order m pre above p w no_item g = tt
      in_order {n = n} m pre above p w (an_item {x = x} {xs = xs} {ws = ws} {is = is} vs q r) g = (
        item-holds x above n vs is q (middle pre vs ws n (ends_at l is) p (ends r all) w) g.0,
        in_order m (pre ++ vs) (above ++ item_at base x n ∷ []) (omega (arith, length-append pre vs)) (w ∙ sym (append_assoc pre vs ws)) r
            (behind x xs n m vs q g),
      )
        where
          all : length l.words ≡ (n + length vs) + length ws
          all = ap length w ∙ length-append pre (vs ++ ws) ∙ omega (arith, length-append vs ws)

      pub items_hold : (xs : List ItemLine) (m : ℕ) (x : Emitted) → l.words ≡ x.words → l.items ≡ x.items → EmittedAs xs [] [] x
          → Consecutive 0 xs m → OneByOne (ItemHolds base l) xs [] l.items
      items_hold xs m x p q r g =
          subst (λ (is : List ItemAt). OneByOne (ItemHolds base l) xs [] is) (sym (q ∙ r.all_items))
          (in_order m [] [] refl (p ∙ r.all_words) r.emits g)
