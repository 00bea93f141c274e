-- A directive's readings in data, one after the other: strings, what is read next, and what the loop over them keeps.
use Rattle.layout.specs.declared.data.Write as code
use Rattle.layout.specs.declared.refusal.Refusal.{Refusal}
use Rattle.std.proofs.Common.{None}
use Prim.Native.Nat.{ℕ, ◌+◌, ◌≤◌, ◌<◌}
use native.Mathlib.Omega.{arith}
use mathlib.Core.Path.{◌≡◌, refl, sym, ap, ◌∙◌}
use mathlib.Core.List.{List, [], ◌∷◌, map}
use mathlib.Core.Bool.{Bool, true, false, cond}
use Rattle.std.proofs.Common.{Option, Some}
use lib.Dec.{eqb, ltb}
use lib.ListN.{length}
use lib.IntN.{ℤ}
use borrow.Author.Tests.{ne_eqb, le-ltb, ltb-false}
use Rattle.std.proofs.Common.{Result, Ok, Err}
use Rattle.numbers.specs.Results.{and_then}
use Rattle.numbers.specs.Literals.{string_of}
use Rattle.numbers.specs.Strings.{decoded, string_bytes}
use Rattle.numbers.specs.Operands.{operands}
use Rattle.numbers.specs.declared.text.Span.{Span}
use Rattle.numbers.specs.declared.strings.Quoted.{Quoted}
use Rattle.numbers.specs.Code.Spans.{spanned, str_lit_of}
use Rattle.numbers.specs.Code.Strings.{decoded_bytes, quoted_at}
use Rattle.numbers.specs.Code.Cursors.{operand_at, operands_from}
use Rattle.numbers.proofs.Shorts.{ShortMeans}
use Rattle.numbers.proofs.Quoted.{string-some, str_lit-within}
use Rattle.numbers.proofs.CharLaws.{decoded_short, decoded-whole}
use Rattle.numbers.proofs.QuoteLaws.{quoted_within, quoted_decoded, quoted_bytes, quoted_size}
use Rattle.numbers.proofs.Parts.{operand_step, operand_end, operands-all, operand_bounds}
use Rattle.layout.specs.declared.limits.Room.{Room}
use Rattle.layout.specs.declared.directives.Width.{Width}
use Rattle.layout.specs.declared.data.Write.TheVariants as write
use Rattle.layout.specs.declared.data.Readings.{Readings}
use Rattle.layout.specs.declared.data.Readings.TheVariants.{Numbers, Once}
use Rattle.layout.specs.declared.state.DataCount.{DataCount}
use Rattle.layout.specs.State.{Stored}
use Rattle.layout.specs.Directives.{Write, read_at, number_or_name, operand_write, string_write}
use Rattle.layout.specs.Stage.{data_write, data_line}
use Rattle.layout.specs.Code.Spans.{SpanWithin}
use Rattle.layout.specs.Code.Texts.{text_of}
use Rattle.layout.specs.Code.Writes.{reading_at, ReadingFits, readings_from, NextIs}
use Rattle.layout.specs.Code.Steps.{Exists}
use Rattle.layout.specs.Code.Stands.{DataStore, StoredStand, data_store}
use Rattle.layout.proofs.DataLaws.{StoredSteps}
use Rattle.layout.proofs.SpanLaws.{within_size, part_within, part_same}
use Rattle.layout.proofs.StepLaws.{agreed, then_stop}

-- ---- strings

-- what is stored in as many bytes as the text stands for is these: where they are as many as it has, they are its own
text-decoded : (n : ℕ) (s : List ℕ) → decoded s ≡ Some (decoded_bytes s) → n ≡ length (decoded_bytes s) → text_of n s ≡ Some (decoded_bytes s)
text-decoded n s d e = by (ltb n (length s)) refl
  where
    by : (b : Bool) → ltb n (length s) ≡ b → cond b (decoded s) (Some s) ≡ Some (decoded_bytes s)
    by true k = d
    by false k = ap Some (sym (decoded-whole s (decoded_bytes s) d (omega (arith, e, decoded_short 0 s, ltb-false n (length s) k))))

-- a reading of a string and z bytes 0
abbrev StringRead : List ℕ → Quoted → ℕ → Option (List ℕ) → Type 0
StringRead t x z gives = (reading_at t (Ok (write.Text x z)) ≡ string_write z gives) × ReadingFits t (Ok (write.Text x z))

-- a string in a part q of the text, by its own place in that
module _ (t : List ℕ) (q there : Span) (w : SpanWithin t q) (z : ℕ) (few : z ≤ 1) where
  -- between the quotes at the ends
  pub unchanged_read : (p : Span) → str_lit_of (spanned t q) ≡ Some p → there ≡ record { start = q.start + p.start; len = p.len }
      → StringRead t (record { part = there; size = there.len }) z (string_of (spanned t q))
  unchanged_read p e is =
      let i = str_lit-within (spanned t q) p e in
      let within = part_within t q p there i is w in
      let size = within_size t there within in
      let copied = le-ltb there.len (length (spanned t there)) (omega (arith, size)) in (
        rw (string-some (spanned t q) p e, ← part_same t q p there i is, copied) refl,
        ((within, rw copied (ap Some size)), few),
      )

  -- to its closing quote
  pub string-read : (x : Quoted) → quoted_at (spanned t q) ≡ Some x → there ≡ record { start = q.start + x.part.start; len = x.part.len }
      → StringRead t (record { part = there; size = x.size }) z (string_bytes (spanned t q))
  string-read x e is =
      let s : List ℕ = spanned t q in
      let i = quoted_within s x e in
      let size = quoted_size s x e in
      let stored : text_of x.size (spanned t there) ≡ Some (decoded_bytes (spanned s x.part)) =
      ap (text_of x.size) (part_same t q x.part there i is) ∙ text-decoded x.size (spanned s x.part) (quoted_decoded s x e) size in (
        rw (quoted_bytes s x e, stored) refl,
        ((part_within t q x.part there i is w, rw stored (ap Some (sym size))), few),
      )

-- ---- what is read next

-- numbers from the start on are all
pub numbers_all : (w : Width) (s : List ℕ) → map (operand_write w) (operands_from s 0) ≡ map (operand_write w) (operands s)
numbers_all w s = ap (map (operand_write w)) (operands-all s)

-- what a reading is to the loop over them, with the place to go on from
abbrev pub next_code : Result code.Write Refusal → ℕ → Result (Option (code.Write × ℕ)) Refusal
next_code (Ok w) after = Ok (Some (w, after))
next_code (Err r) after = Err r

-- a reading that is first is the code's next one
next_first : (t : List ℕ) (x : Readings) (s : List ℕ) (at : ℕ) (r : Result code.Write Refusal) (after : ℕ)
    → readings_from t x s at ≡ reading_at t r ∷ readings_from t x s after → ReadingFits t r → at < after → after ≤ length s + 1
    → NextIs t x s at (next_code r after)
next_first t x s at (Ok w) after e f more few = (e, f, more, few)
next_first t x s at (Err n) after e f more few = record { it = readings_from t x s after; stands = e }

-- what is read at once is first at the start, and nothing is left after it
pub once_first : (t s : List ℕ) (at : ℕ) (r : Result code.Write Refusal) → at ≤ 0 → ReadingFits t r → NextIs t (Once r) s at (next_code r 1)
once_first t s at r h f =
    let start : at ≡ 0 = omega (arith, h) in
    next_first t (Once r) s at r 1 (rw start refl) f (omega (arith, h)) (omega arith)

pub once_end : (y : Result Write ℕ) (at : ℕ) → 0 < at → cond (eqb at 0) (y ∷ []) [] ≡ []
once_end y at h = rw (ne_eqb at 0 (omega (arith, h))) refl

-- no operand is left
pub operand_none : (w : Width) (s : List ℕ) (at : ℕ) → operand_at s at ≡ None → map (operand_write w) (operands_from s at) ≡ []
operand_none w s at e = ap (map (operand_write w)) (operand_end s at e)

-- an operand that is found is first
pub operand_first : (t s : List ℕ) (at : ℕ) (p : Span) (next : ℕ) → operand_at s at ≡ Some (p, next) → (w : Width) (r : Result code.Write Refusal)
    → reading_at t r ≡ operand_write w (spanned s p) → ReadingFits t r → NextIs t (Numbers w) s at (next_code r next)
operand_first t s at p next e w r is f =
    let b = operand_bounds s at p next e in
    next_first t (Numbers w) s at r next (ap (map (operand_write w)) (operand_step s at p next e) ∙ rw is refl) f b.2 b.1

-- a short number is first
pub short_first : (t s : List ℕ) (at v next : ℕ) (m : ShortMeans s at v next) (w : Width) (z : ℤ) (r : Result code.Write Refusal)
    → read_at w (spanned s m.operand) ≡ Some z → reading_at t r ≡ number_or_name w (Some z) (spanned s m.operand) → ReadingFits t r
    → NextIs t (Numbers w) s at (next_code r next)
short_first t s at v next m w z r reads is = operand_first t s at m.operand next m.found w r (is ∙ rw reads refl)

-- ---- the loop

-- a state from which these readings come to the whole
pub record Left (t : List ℕ) (k : Room) (line : ℕ) (rs : List (Result Write ℕ)) (whole : Result Stored ℕ)
    (c : DataCount) (b : DataStore) : Type 0 where
  pub state : Stored
  pub stands : StoredStand t k c b state
  pub goes : data_line k line rs state ≡ whole

-- what the loop over them keeps
pub record Writing (t : List ℕ) (k : Room) (line : ℕ) (x : Readings) (s : List ℕ) (c₀ : DataCount) (m₀ l₀ : List ℕ)
    (c : DataCount) (m l : List ℕ) (at : ℕ) : Type 0 where
  pub same_bytes : length m ≡ length m₀
  pub same_words : length l ≡ length l₀
  pub first : Exists (StoredStand t k c₀ (data_store m₀ l₀))
  pub left : (σ : Stored) → StoredStand t k c₀ (data_store m₀ l₀) σ
      → Left t k line (readings_from t x s at) (data_line k line (readings_from t x s 0) σ) c (data_store m l)

module _ (t : List ℕ) (k : Room) (line : ℕ) (x : Readings) (s : List ℕ) (c₀ : DataCount) (m₀ l₀ : List ℕ) where
  pub writing_first : Exists (StoredStand t k c₀ (data_store m₀ l₀)) → Writing t k line x s c₀ m₀ l₀ c₀ m₀ l₀ 0
  writing_first f =
      record { same_bytes = refl; same_words = refl; first = f; left = λ σ g. record { state = σ; stands = g; goes = refl } }

  module _ (c : DataCount) (m l : List ℕ) (at : ℕ) (g : Writing t k line x s c₀ m₀ l₀ c m l at) where
    -- there is something that the present counters and buffers stand for
    pub writing_some : Exists (StoredStand t k c (data_store m l))
    writing_some = let h = g.left g.first.it g.first.stands in record { it = h.state; stands = h.stands }

    -- no reading is left
    pub writing_ends : readings_from t x s at ≡ [] → StoredSteps t k c₀ m₀ l₀ (Ok c) m l (data_line k line (readings_from t x s 0))
    unfolding data_line
    writing_ends e σ i = let h = g.left σ i in rw (← h.goes, e) h.stands

    -- the next one is refused
    pub writing_refused : (n : ℕ) → Exists (λ rs. readings_from t x s at ≡ Err n ∷ rs)
        → StoredSteps t k c₀ m₀ l₀ (Err n) m l (data_line k line (readings_from t x s 0))
    unfolding data_line
    writing_refused n e σ i = rw (← (g.left σ i).goes, e.stands) refl

    module _ (w : Write) (next : ℕ) (e : readings_from t x s at ≡ Ok w ∷ readings_from t x s next)
        (m' l' : List ℕ) (o : Result DataCount ℕ) (h : StoredSteps t k c m l o m' l' (data_write k line w)) where
      after : (σ : Stored) (i : StoredStand t k c₀ (data_store m₀ l₀) σ)
          → and_then (data_write k line w (g.left σ i).state) (data_line k line (readings_from t x s next)) ≡ data_line k line (readings_from t x s 0) σ
      unfolding data_line
      after σ i = rw e at (g.left σ i).goes

      -- what it writes is refused
      pub writing_stops : (n : ℕ) → o ≡ Err n → StoredSteps t k c₀ m₀ l₀ (Err n) m' l' (data_line k line (readings_from t x s 0))
      writing_stops n q σ i =
          rw (← after σ i)
          (then_stop (λ d. StoredStand t k d (data_store m' l')) (λ d. StoredStand t k d (data_store m' l')) o
          (data_write k line w (g.left σ i).state) _ n q (h (g.left σ i).state (g.left σ i).stands))

      -- or the others are left
      pub writing_goes : (c' : DataCount) → o ≡ Ok c' → length m' ≡ length m → length l' ≡ length l
          → Writing t k line x s c₀ m₀ l₀ c' m' l' next
      writing_goes c' q same-m same-l =
          record {
            same_bytes = same-m ∙ g.same_bytes;
            same_words = same-l ∙ g.same_words;
            first = g.first;
            left = λ σ i.
                let a = agreed (λ d. StoredStand t k d (data_store m' l')) c' (data_write k line w (g.left σ i).state) (rw q at (h (g.left σ i).state (g.left σ i).stands)) in
                record { state = a.it; stands = a.stands; goes = rw a.is at (after σ i) };
          }
