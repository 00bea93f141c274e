-- Demand 1 of the definitions' answers: one law a stage on the numbers that it can say, each at a line of the text; of the whole call; and that
-- every answer is accepted, or refused and cleared.
use Prim.Native.Nat.{ℕ, zero, suc, ◌+◌, ◌≤◌, ◌<◌}
use mathlib.Core.Path.{◌≡◌, refl, ap}
use mathlib.Core.List.{List, [], ◌∷◌, ◌++◌}
use mathlib.Core.Bool.{Bool, true, false, cond}
use Rattle.std.proofs.Common.{Option, None, Some}
use native.Mathlib.Nat.{zero-add}
use native.Mathlib.Omega.{arith}
use lib.Dec.{ltb, eqb}
use lib.IntN.{ℤ}
use lib.ListN.{length}
use borrow.Author.Tests.{ltb-true}
use Rattle.std.proofs.Common.{Result, Ok, Err}
use Rattle.numbers.specs.Results.{and_then}
use Rattle.numbers.specs.Operands.{cons_first}
use Rattle.layout.specs.Refusals.{Refusal, at_line, is_in, call_numbers, byte_numbers, line_numbers, label_word_numbers, turn_numbers, round_numbers}
use Rattle.layout.specs.Refusals.{pseudo_numbers, text_numbers}
use Rattle.layout.specs.Pieces.{lines, line_pieces}
use Rattle.layout.specs.Limits.{base_limit, text_limit, Lent, room_of}
use Rattle.layout.specs.State.{Equate, ItemLine, LabelWord, State, start}
use Rattle.layout.specs.Stage.{line_stage}
use Rattle.layout.specs.Addresses.{label_address, fill_one, fill}
use Rattle.layout.specs.Rounds.{constant}
use Rattle.layout.specs.Layouts.{ItemAt, Layout, emission, item_at, emit, refuse_if, check_bytes, resolve, after_lines, layout_of}
use Rattle.layout.specs.Layouts.{answer_of, call_of}
use Rattle.layout.specs.Chains.{Among, first, later}
use Rattle.layout.specs.Calls.{Numbered, of_call, of_line, Answered, accepts, refuses}
use Rattle.layout.specs.Code.Fits.{Each}
use Rattle.layout.proofs.Gives.{Comes, comes_so, and_then_comes}
use Rattle.layout.proofs.RefusalLaws.{in_all, all_of, Said, at_line_said}
use Rattle.layout.proofs.Emissions.{emission_fits, WordsFit}
use Rattle.layout.proofs.StageOrder.{LabelWordBelow, ItemBelow, Rising, Laid, stage_laid}
use Rattle.layout.proofs.ChainLaws.{among_at, first_left}
use Rattle.layout.proofs.ResolveLaws.{turn_numbered, RoundsRefused, by_turn, by_end, all_end}

-- a stage says one of these numbers, at one of the first m lines
abbrev pub Says : {A : Type 0} → List ℕ → ℕ → Result A Refusal → Type 0
Says ns m x = Comes (λ _. Unit) (Said ns m) x

-- ---- "1 byte above 127"

more_lines : (b : ℕ) (bs : List ℕ) → (0 < length (lines (b ∷ bs))) × (cond (eqb b 10) 1 0 + length (lines bs) ≤ length (lines (b ∷ bs)))
unfolding lines
more_lines b bs = by (eqb b 10) (lines bs)
  where
    by : (c : Bool) (ls : List (List ℕ))
        → (0 < length (cond c ([] ∷ ls) (cons_first b ls))) × (cond c 1 0 + length ls ≤ length (cond c ([] ∷ ls) (cons_first b ls)))
    by true ls = (omega arith, omega arith)
    by false [] = (omega arith, omega arith)
    by false (l ∷ ls) = (omega arith, omega arith)

check_from : (line : ℕ) (t : List ℕ) → Says byte_numbers (line + length (lines t)) (check_bytes line t)
unfolding check_bytes
check_from line [] = tt
check_from line (b ∷ bs) = by (ltb 127 b) (eqb b 10) (more_lines b bs) (λ l. check_from l bs)
  where
    n : ℕ
    n = length (lines (b ∷ bs))

    by : (c d : Bool) → (0 < n) × (cond d 1 0 + length (lines bs) ≤ n) → ((l : ℕ) → Says byte_numbers (l + length (lines bs)) (check_bytes l bs))
        → Says {A = Unit} byte_numbers (line + n)
        (elim c [ true ↦ Err (record { number = 1; line = line }) | false ↦ check_bytes (cond d (suc line) line) bs ])
    by true d h more = (refl, omega (arith, h.0))
    by false d h more =
        let l = cond d (suc line) line in
        comes_so (λ _. Unit) (λ _. Unit) (Said byte_numbers (l + length (lines bs))) (Said byte_numbers (line + n)) (λ a u. u)
        (λ r q. (q.0, omega (arith, q.1, h.1, next d))) (check_bytes l bs) (more l)
      where
        next : (d : Bool) → cond d (suc line) line ≡ line + cond d 1 0
        next true = omega arith
        next false = omega arith

pub check_says : (t : List ℕ) → Says byte_numbers (length (lines t)) (check_bytes 0 t)
check_says t = rw (zero-add (length (lines t))) at (check_from 0 t)

-- ---- the lines: `stage_laid` of StageOrder.antt

-- ---- "13 in text order"

pub fill-says : (look : List ℕ → Option ℕ) (m : ℕ) (ws : List LabelWord) (bytes : List ℕ) → Each (LabelWordBelow m) ws
    → Says label_word_numbers m (fill look ws bytes)
unfolding fill
fill-says look m [] bytes h = tt
fill-says look m (w ∷ ws) bytes h =
    and_then_comes (λ _. Unit) (λ _. Unit) (Said label_word_numbers m) (at_line w.line (fill_one (look w.name) w bytes)) (fill look ws)
    (by (look w.name)) (λ bs u. fill-says look m ws bs h.1)
  where
    by : (o : Option ℕ) → Says label_word_numbers m (at_line w.line (fill_one o w bytes))
    by None = (refl, h.0)
    by (Some a) = tt

-- ---- "equates by round"

below : {e : Equate} (n m : ℕ) (es : List Equate) → Rising n es m → Among e es → e.line < m
below n m (e ∷ es) g first = by (suc e.line) es g.1
  where
    -- the lines that follow are no fewer
    by : (n : ℕ) (es : List Equate) → Rising n es m → n ≤ m
    by n [] g = g
    by n (x ∷ es) g = omega (arith, g.0, by (suc x.line) es g.1)
below n m (x ∷ es) g (later a) = below (suc x.line) m es g.1 a
below {e = e} n m [] g never = elim never [ ]

pub rounds_say : (base : ℕ) (σ : State) (m : ℕ) → Rising 0 σ.rest.equates m → Says round_numbers m (resolve base σ σ.rest.equates)
rounds_say base σ m up = comes_so _ (λ _. Unit) (RoundsRefused base σ es) (Said round_numbers m) (λ x d. tt) by (resolve base σ es) (all_end base σ es)
  where
    es : List Equate
    es = σ.rest.equates

    by : (r : Refusal) → RoundsRefused base σ es r → Said round_numbers m r
    by r (by_turn x) = (
      in_all (is_in round_numbers) turn_numbers refl r.number (turn_numbered base σ x.seen x.equate r.number x.refuses),
      omega (arith, x.line, below 0 m es up x.among),
    )
    by r (by_end n s) =
        let p = first_left s.left s.pending in
        let a : Among p.1.equate σ.rest.equates = rw s.equates at (among_at p.2) in
        (ap (is_in round_numbers) n, omega (arith, s.is, p.4, below 0 m es up a))

-- ---- "then pseudos in order"

pub emit-says : (base : ℕ) (const : List ℕ → Option ℤ) (label : List ℕ → Option ℕ) (m : ℕ) (xs : List ItemLine) (ws : List ℕ) (is : List ItemAt)
    → Each (ItemBelow m) xs → Says pseudo_numbers m (emit base const label xs ws is)
unfolding emit
emit-says base const label m [] ws is h = tt
emit-says base const label m (x ∷ xs) ws is h =
    let s = x.source.bytes in
    and_then_comes (WordsFit x.item s) (λ _. Unit) (Said pseudo_numbers m) (at_line x.line (emission const label x.item s))
    (λ vs. emit base const label xs (ws ++ vs) (is ++ item_at base x (length ws) ∷ []))
    (at_line_said (WordsFit x.item s) pseudo_numbers x.line m (emission const label x.item s) h.0
    (emission_fits const label x.item s))
    (λ vs u. emit-says base const label m xs (ws ++ vs) _ h.1)

-- ---- the whole call

module _ (t : List ℕ) where
  abbrev NumberedAt : Refusal → Type 0
  NumberedAt r = Numbered t r.number r.line

  abbrev Answers : {A : Type 0} → Result A Refusal → Type 0
  Answers x = Comes (λ _. Unit) NumberedAt x

  -- a stage whose numbers are among the text's, and what comes after it
  stage : {A B : Type 0} (P : A → Type 0) (ns : List ℕ) → all_of (is_in text_numbers) ns ≡ true → (x : Result A Refusal) (f : A → Result B Refusal)
      → Comes P (Said ns (length (lines t))) x → ((a : A) → P a → Answers (f a)) → Answers (and_then x f)
  stage P ns h (Ok a) f g more = more a g
  stage P ns h (Err r) f g more = of_line (in_all (is_in text_numbers) ns h r.number g.0) g.1

  after_lines_say : (base : ℕ) (σ : State) → Laid (length (lines t)) σ → Answers (after_lines base σ)
  unfolding after_lines
  after_lines_say base σ laid =
      let own = σ.rest.own in
      let label = label_address base σ in
      stage (λ _. Unit) label_word_numbers refl (fill label own.stored.label_words own.stored.bytes) _
      (fill-says label (length (lines t)) own.stored.label_words own.stored.bytes laid.rest.word_lines) (λ bytes u.
      stage (λ _. Unit) round_numbers refl (resolve base σ σ.rest.equates) _
      (rounds_say base σ (length (lines t)) laid.rest.equates) (λ x u.
      stage (λ _. Unit) pseudo_numbers refl (emit base (constant x.known) label own.items.list [] []) _
      (emit-says base (constant x.known) label (length (lines t)) own.items.list [] [] laid.rest.item_lines) (λ e u. tt)))

  pub layout-says : (base : ℕ) (k : Lent) → Answers (layout_of t base k)
  unfolding layout_of
  layout-says base k = by (ltb base_limit base) (ltb text_limit (length t))
    where
      read : Result State Refusal
      read = line_stage (room_of k) 0 (line_pieces 0 (lines t)) start

      by : (c d : Bool)
          → Answers (and_then (refuse_if c 40 0) (λ _. and_then (refuse_if d 41 0) (λ _. and_then (check_bytes 0 t) (λ _. and_then read (after_lines base)))))
      by true d = of_call refl refl
      by false true = of_call refl refl
      by false false =
          stage (λ _. Unit) byte_numbers refl (check_bytes 0 t) (λ _. and_then read (after_lines base)) (check_says t) (λ _ u.
          stage (Laid (length (lines t))) line_numbers refl read (after_lines base) (stage_laid t (room_of k)) (after_lines_say base))

-- no refusal's number is 0, which says accepted
pub refusal_numbered : (t : List ℕ) (base : ℕ) (k : Lent) (r : Refusal) → layout_of t base k ≡ Err r → 0 < r.number
refusal_numbered t base k r e = by (rw e at (layout-says t base k))
  where
    by : Numbered t r.number r.line → 0 < r.number
    by (of_call h l) = ltb-true 0 r.number (in_all (ltb 0) call_numbers refl r.number h)
    by (of_line h l) = ltb-true 0 r.number (in_all (ltb 0) text_numbers refl r.number h)

-- every number that the call can say
abbrev pub refusal_numbers : List ℕ
refusal_numbers = call_numbers ++ text_numbers

-- the numbers from k on, n of them, that meet a test
abbrev those : (ℕ → Bool) → ℕ → ℕ → List ℕ
those P k zero = []
those P k (suc n) = cond (P k) (k ∷ those P (suc k) n) (those P (suc k) n)

-- the whole list, in order: without 22 and 23, which are "from the encoder alone", and none of 100 or more
pub whole-list :
    (those (is_in refusal_numbers) 0 100
    ≡ 1 ∷ 2 ∷ 3 ∷ 4 ∷ 5 ∷ 6 ∷ 7 ∷ 8 ∷ 9 ∷ 10 ∷ 11 ∷ 12 ∷ 13 ∷ 14 ∷ 15 ∷ 16 ∷ 17 ∷ 18 ∷ 19 ∷ 20 ∷ 21 ∷ 24
    ∷ 40 ∷ 41 ∷ 42 ∷ 43 ∷ 44 ∷ 45 ∷ 46 ∷ 47 ∷ 48 ∷ [])
    × (all_of (λ n. ltb n 100) refusal_numbers ≡ true)
whole-list = (refl, refl)

-- demand 1
pub always_answered : (t : List ℕ) (base : ℕ) (k : Lent) → Answered t k (call_of t base k)
always_answered t base k = by (layout_of t base k) (layout-says t base k)
  where
    by : (o : Result Layout Refusal) → Comes (λ _. Unit) (λ r. Numbered t r.number r.line) o → Answered t k (answer_of k o)
    by (Ok l) u = accepts refl refl
    by (Err r) h = refuses h refl refl
