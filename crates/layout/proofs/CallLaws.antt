-- The whole call: each stage gets what it asks from the one before it, and their answers together are the definition's.
use Rattle.layout.specs.Code.Numbers.{refusal_number}
use Rattle.layout.specs.declared.refusal.RefusedAt.{RefusedAt}
use Prim.Native.Nat.{ℕ, ◌*◌, ◌≤◌, ◌<◌}
use native.Mathlib.Omega.{arith}
use mathlib.Core.Path.{◌≡◌, refl, sym, ap, subst, ◌∙◌}
use mathlib.Core.List.{List, [], ◌∷◌, ◌++◌, map, append-nil}
use Rattle.std.proofs.Common.{Option, None, Some}
use lib.ListN.{length, drop, replicate, length-replicate, drop_of_length-le}
use Rattle.std.proofs.Common.{Result, Ok, Err}
use Rattle.numbers.specs.Results.{and_then}
use Rattle.layout.specs.declared.limits.Room.{Room}
use Rattle.layout.specs.declared.state.Counters.{Counters}
use Rattle.layout.specs.declared.addresses.Starts.{Starts}
use Rattle.layout.specs.declared.assembler.Counts as counted
use Rattle.layout.specs.Refusals.{Refusal}
use Rattle.layout.specs.Bytes.{padded, together}
use Rattle.layout.specs.Limits.{base_limit, text_limit, data_limit, label_size, Lent, room_of}
use Rattle.layout.specs.Pieces.{lines, line_pieces}
use Rattle.layout.specs.Stage.{line_stage}
use Rattle.layout.specs.Demands.{Demanded}
use Rattle.layout.specs.State.{State, start}
use Rattle.layout.specs.Addresses.{placed, ordered, label_address, fill}
use Rattle.layout.specs.Rounds.{Found, Known, constant, turn, Turns}
use Rattle.layout.specs.Records.{field_bytes, table_of}
use Rattle.layout.specs.Layouts.{check_bytes, layout_of, Answer, answer_of, call_of, zero_buffers}
use Rattle.layout.specs.Layouts.{Layout, Buffers, Emitted, emit, cons_found, found_equates, resolve, layout, after_lines, buffers_of, equate_row}
use Rattle.layout.specs.Code.Fits.{Each}
use Rattle.layout.specs.Code.Steps.{Agrees}
use Rattle.layout.specs.Code.Stands.{Store, store, Stands, start_counters}
use Rattle.layout.specs.Code.Placed.{StartsAt}
use Rattle.layout.specs.Code.Names.{Scope, known_fields}
use Rattle.layout.specs.Code.Orders.{LabelTable}
use Rattle.layout.specs.Code.Symbols.{SymbolsStand, Symbols, symbols_of, SymbolsLeft}
use Rattle.layout.specs.Code.Emits.{Unemitted, emitted_in, EmitLeft}
use Rattle.layout.specs.Code.Calls.{buffers, lengths, answer_in, LaidLeft, lines_of, LinesRead, ResolvedRead}
use Rattle.layout.specs.Calls.{Answered, Assembled}
use Rattle.numbers.proofs.Bools.{none-some}
use Rattle.layout.proofs.Gives.{Comes}
use borrow.Author.Tests.{lt-ltb, le-ltb}
use Rattle.layout.proofs.TurnLaws.{start_stands}
use Rattle.layout.proofs.StepLaws.{Agreed, agreed, agreed_refused, then_stop}
use Rattle.layout.proofs.SymbolLaws.{symbols_starts}
use Rattle.layout.proofs.AnswerLaws.{always_answered}
use Rattle.layout.proofs.HeldLaws.{demanded}
use Rattle.layout.proofs.ResultLaws.{refused-value, value_same}
use Rattle.layout.proofs.IndexLaws.{indexed_none}
use Rattle.layout.proofs.RoundHistory.{AllFound, IsFound, none_pending}
use Rattle.layout.proofs.ResolveLaws.{RoundsRefused, all_end}
use Rattle.layout.proofs.Fields.{fill_fits, EmitsFit, emit_fits, InText, found_length}

-- ---- equates that are all found

found_each : (xs : List Known) → Each IsFound xs → map (λ x. field_bytes (known_fields x)) xs ≡ map (λ x. field_bytes (equate_row x)) (found_equates xs)
unfolding found_equates
found_each [] g = refl
found_each (x ∷ xs) g = by x.found g.0.1 (found_each xs g.1)
  where
    by : (o : Option Found) → o ≡ Some g.0.0 → map (λ y. field_bytes (known_fields y)) xs ≡ map (λ y. field_bytes (equate_row y)) (found_equates xs)
        → field_bytes (known_fields (record { equate = x.equate; found = o })) ∷ map (λ y. field_bytes (known_fields y)) xs
        ≡ map (λ y. field_bytes (equate_row y)) (cons_found x o (found_equates xs))
    by None p h = absurd (none-some p)
    by (Some f) p h = ap (λ (bs : List (List ℕ)). field_bytes (known_fields (record { equate = x.equate; found = Some f })) ∷ bs) h

-- the table of what is known of them is the table of their records
found_rows : (n : ℕ) (ks : List Known) → Each IsFound ks → table_of n known_fields ks ≡ table_of n equate_row (found_equates ks)
found_rows n ks all = ap (λ (bs : List (List ℕ)). padded n (together bs)) (found_each ks all)

-- ---- after the lines

-- what follows the symbols
abbrev emitting : ℕ → State → Symbols → Result Layout Refusal
emitting base σ y =
    and_then (emit base (constant y.turns.known) (label_address base σ) σ.rest.own.items.list [] []) (λ z. Ok (layout base σ y.bytes y.turns z))

after_symbols : (base : ℕ) (σ : State) → after_lines base σ ≡ and_then (symbols_of base σ) (emitting base σ)
unfolding after_lines
after_symbols base σ = by (fill (label_address base σ) σ.rest.own.stored.label_words σ.rest.own.stored.bytes) (resolve base σ σ.rest.equates)
  where
    by : (f : Result (List ℕ) Refusal) (g : Result Turns Refusal)
        → and_then f (λ bytes. and_then g (λ x. emitting base σ (record { bytes = bytes; turns = x })))
        ≡ and_then (and_then f (λ bytes. and_then g (λ x. Ok (record { bytes = bytes; turns = x })))) (emitting base σ)
    by (Err r) g = refl
    by (Ok bytes) (Err r) = refl
    by (Ok bytes) (Ok x) = refl

module _ {t : List ℕ} {base : ℕ} {st : Counters} {l n e x i d lw w : List ℕ} (s : LinesRead t base st l n e x i d lw w) where
  abbrev σ : State
  σ = s.state

  -- symbols can be resolved, with an index and partial sums of zeros
  abbrev pub symbols_ready : SymbolsStand t base st l n e (replicate 1280 0) x (replicate 512 0) d lw
  symbols_ready =
      record {
        room = s.room;
        state = σ;
        text = s.text;
        base_limit = s.base_limit;
        labels = s.stands.labels;
        equates = s.stands.rest.equates;
        stored = s.stands.rest.own.stored;
        index = indexed_none 1280 (omega arith);
        index_room = omega (arith, length-replicate {A = ℕ} 1280 0);
        partials_room = omega (arith, length-replicate {A = ℕ} 512 0);
      }

  -- what the sections' starts ask
  pub starts_ready : (base ≤ base_limit) × (st.rest.own.stored.bytes ≤ data_limit)
  starts_ready = let stored = s.stands.rest.own.stored in (s.base_limit, omega (arith, stored.counted, stored.fits.room, stored.limit))

  -- the label words' table has room for every label's record
  pub order_room : st.labels * label_size ≤ length lw
  order_room = omega (arith, s.stands.labels.counted, s.stands.labels.fits.few, s.stands.labels.limit, s.stands.rest.own.stored.label_words.room)

  module _ (l' e' ix d' : List ℕ) where
    pub symbols_stop : (r : Refusal) → Agrees (SymbolsLeft t base σ st l' n e' ix d') (Err r) (symbols_of base σ)
        → (b : Buffers) → Agrees (LaidLeft b) (Err r) (after_lines base σ)
    symbols_stop r a b =
        rw (after_symbols base σ) (then_stop (SymbolsLeft t base σ st l' n e' ix d') (LaidLeft b) (Err r) (symbols_of base σ) (emitting base σ) r refl a)

    -- what was found
    pub symbols_found : (m : ℕ) → Agrees (SymbolsLeft t base σ st l' n e' ix d') (Ok m) (symbols_of base σ)
        → Agreed (SymbolsLeft t base σ st l' n e' ix d') m (symbols_of base σ)
    symbols_found m a = agreed (SymbolsLeft t base σ st l' n e' ix d') m (symbols_of base σ) a

    -- what follows asks for all that was left
    abbrev pub resolved_read : (m : ℕ) → Agrees (SymbolsLeft t base σ st l' n e' ix d') (Ok m) (symbols_of base σ)
        → ResolvedRead t base st m l' n e' ix i lw w
    resolved_read m a =
        record {
          unplaced = l;
          pending = e;
          exprs = x;
          unfilled = d;
          filled = d';
          read = s;
          found = a;
        }

  -- what follows symbols that are found
  module _ {l' e' ix d' : List ℕ} {m : ℕ} (y : Agreed (SymbolsLeft t base σ st l' n e' ix d') m (symbols_of base σ)) (starts : Starts)
      (of : (τ : State) → length τ.rest.own.stored.bytes ≡ st.rest.own.stored.bytes → StartsAt starts base τ) where
    abbrev at : StartsAt starts base σ
    at = symbols_starts symbols_ready starts of

    abbrev scope : Scope
    scope = record { base = base; state = σ; known = y.it.turns.known }

    abbrev pub unemitted_stands : Unemitted t l' n st.labels t e' ix st.rest.equates starts i st.rest.own.items.items w
    unemitted_stands =
        record {
          scope = scope;
          room = s.room;
          reserved = st.rest.own.items.words;
          names = record { labels = y.stands.labels; equates = y.stands.resolved.equates };
          starting = at;
          items = s.stands.rest.own.items;
          zeros = s.zeros;
          lent = s.lent;
        }

    after_is : after_lines base σ ≡ emitting base σ y.it
    after_is = after_symbols base σ ∙ ap (λ (o : Result Symbols Refusal). and_then o (emitting base σ)) y.is

    pub emit-stop : (i' w' : List ℕ) (r : Refusal) → Agrees (EmitLeft i' w') (Err r) (emitted_in scope) → (b : Buffers)
        → Agrees (LaidLeft b) (Err r) (after_lines base σ)
    emit-stop i' w' r a b = rw after_is (then_stop (EmitLeft i' w') (LaidLeft b) (Err r) (emitted_in scope) _ r refl a)

    all_found : AllFound (turn base σ) σ.rest.equates y.it.turns.known y.it.turns.evaluations
    all_found = by (fill (label_address base σ) σ.rest.own.stored.label_words σ.rest.own.stored.bytes) (resolve base σ σ.rest.equates) (all_end base σ σ.rest.equates) y.is
      where
        by : (f : Result (List ℕ) Refusal) (g : Result Turns Refusal) → Comes (λ z. AllFound (turn base σ) σ.rest.equates z.known z.evaluations) (RoundsRefused base σ σ.rest.equates) g
            → and_then f (λ bytes. and_then g (λ z. Ok (record { bytes = bytes; turns = z }))) ≡ Ok y.it
            → AllFound (turn base σ) σ.rest.equates y.it.turns.known y.it.turns.evaluations
        by (Err r) g c q = absurd (refused-value q)
        by (Ok bytes) (Err r) c q = absurd (refused-value q)
        by (Ok bytes) (Ok z) c q = rw (ap (λ (o : Symbols). o.turns) (value_same q)) at c

    data_size : length y.it.bytes ≡ st.rest.own.stored.bytes
    data_size =
        by (fill (label_address base σ) σ.rest.own.stored.label_words σ.rest.own.stored.bytes) (resolve base σ σ.rest.equates)
        (fill_fits t (label_address base σ) σ.rest.own.stored.label_words (length σ.rest.own.stored.bytes) σ.rest.own.stored.bytes refl s.stands.rest.own.stored.fits.each)
        y.is ∙ sym s.stands.rest.own.stored.counted
      where
        by : (f : Result (List ℕ) Refusal) (g : Result Turns Refusal) → Comes (λ bs. length bs ≡ length σ.rest.own.stored.bytes) (InText t) f
            → and_then f (λ bytes. and_then g (λ z. Ok (record { bytes = bytes; turns = z }))) ≡ Ok y.it
            → length y.it.bytes ≡ length σ.rest.own.stored.bytes
        by (Err r) g c q = absurd (refused-value q)
        by (Ok bytes) (Err r) c q = absurd (refused-value q)
        by (Ok bytes) (Ok z) c q = ap (λ (o : Symbols). length o.bytes) (sym (value_same q)) ∙ c

    module _ (i' w' l'' : List ℕ) (count : ℕ) (ordering : LabelTable t l'' st.labels (ordered (map (placed base σ) σ.labels))) where
      abbrev counts : counted.Counts
      counts =
          record {
            words = count;
            data_bytes = st.rest.own.stored.bytes;
            data_base = starts.«data»;
            bss_size = st.rest.own.bss;
            labels = st.labels;
            equates = st.rest.equates;
            items = st.rest.own.items.items;
            evaluations = m;
          }

      laid_left : (z : Emitted) → EmitLeft i' w' count z → length z.items ≡ length σ.rest.own.items.list
          → LaidLeft (buffers w' d' l'' e' i') counts (layout base σ y.it.bytes y.it.turns z)
      laid_left z a c =
          let own = s.stands.rest.own in
          let found = none_pending y.it.turns.known all_found.found in
          let equates : st.rest.equates ≡ length (found_equates y.it.turns.known) = y.stands.resolved.equates.rows.counted ∙ sym (found_length y.it.turns.known found) in
          let items : st.rest.own.items.items ≡ length z.items = own.items.counted ∙ sym c in
          record {
            counts = λ j. record {
              words = a.counted j;
              data_bytes = sym data_size j;
              data_base = at.data_start j;
              bss_size = own.bss j;
              labels = ordering.counted j;
              equates = equates j;
              items = items j;
              evaluations = y.stands.resolved.evaluations j;
            };
            buffers = λ j. record {
              words = a.words j;
              data_bytes = y.stands.bytes j;
              labels = ordering.records j;
              equates = (y.stands.resolved.equates.rows.records ∙ found_rows (length e') y.it.turns.known found) j;
              items = a.items j;
            };
          }

      pub emit_go : Agrees (EmitLeft i' w') (Ok count) (emitted_in scope) → Agrees (LaidLeft (buffers w' d' l'' e' i')) (Ok counts) (after_lines base σ)
      emit_go a =
          rw after_is
          (by (emitted_in scope)
          (emit_fits t base s.base_limit (constant y.it.turns.known) (label_address base σ) σ.rest.own.items.words σ.rest.own.items.list [] [] s.stands.rest.own.items.fits.consecutive s.stands.rest.own.items.fits.each tt tt) a)
        where
          by : (o : Result Emitted Refusal) → Comes (EmitsFit t σ.rest.own.items.words σ.rest.own.items.list []) (InText t) o → Agrees (EmitLeft i' w') (Ok count) o
              → Agrees (LaidLeft (buffers w' d' l'' e' i')) (Ok counts) (and_then o (λ z. Ok (layout base σ y.it.bytes y.it.turns z)))
          by (Ok z) f q = laid_left z q (omega (arith, f.count))
          by (Err z) f q = absurd q

-- ---- the lines

-- buffers of zeros, and the stage's own tables of zeros, stand for nothing laid out
pub lines_ready : (t : List ℕ) (words : ℕ) (l e i d : List ℕ) → l ≡ replicate (length l) 0 → e ≡ replicate (length e) 0 → i ≡ replicate (length i) 0
    → d ≡ replicate (length d) 0
    → Stands t (room_of (record { words = words; data_bytes = length d; label_bytes = length l; equate_bytes = length e; item_bytes = length i })) start_counters
    (store l (replicate 2048 0) e (replicate 4096 0) i d (replicate 16384 0)) start
lines_ready t words l e i d zl ze zi zd =
    start_stands t words l (replicate 2048 0) e (replicate 4096 0) i d (replicate 16384 0) (length-replicate {A = ℕ} 2048 0) (length-replicate {A = ℕ} 4096 0)
    (length-replicate {A = ℕ} 16384 0) zl (zeros 2048) ze (zeros 4096) zi zd (zeros 16384)
  where
    zeros : (n : ℕ) → replicate {A = ℕ} n 0 ≡ replicate (length (replicate {A = ℕ} n 0)) 0
    zeros n = ap (λ (m : ℕ). replicate m 0) (sym (length-replicate {A = ℕ} n 0))

pub room_words : (k : Room) (lent : Lent) → k ≡ room_of lent → k.words ≤ lent.words
room_words k lent e = rw e (omega arith)

module _ (t : List ℕ) (k : Room) (base : ℕ) where
  -- lines that go through leave what follows them
  pub record Read (st : Counters) (l n e x i d lw w : List ℕ) (a : Result State Refusal) : Type 0 where
    pub read : LinesRead t base st l n e x i d lw w
    pub are : a ≡ Ok read.state

  pub lines-read : (st : Counters) (l n e x i d lw w : List ℕ) → length t ≤ text_limit → base ≤ base_limit → w ≡ replicate (length w) 0 → k.words ≤ length w
      → (a : Result State Refusal) → Agrees (λ c. Stands t k c (store l n e x i d lw)) (Ok st) a → Read st l n e x i d lw w a
  lines-read st l n e x i d lw w short low zeros room (Err r) s = absurd s
  lines-read st l n e x i d lw w short low zeros room (Ok σ) s =
      record { read = record { room = k; state = σ; text = short; base_limit = low; stands = s; zeros = zeros; lent = room }; are = refl }

module _ (t : List ℕ) (base : ℕ) (lent : Lent) (k : Room) (same : k ≡ room_of lent) where
  abbrev stage_of_lem : Result State Refusal
  stage_of_lem = line_stage k 0 (line_pieces 0 (lines t)) start

  pub lines_go : (σ : State) → stage_of_lem ≡ Ok σ → (b : Buffers) (r : Result counted.Counts Refusal) → Agrees (LaidLeft b) r (after_lines base σ)
      → Agrees (LaidLeft b) r (lines_of t base lent)
  lines_go σ q b r a =
      subst (Agrees (LaidLeft b) r) (sym (ap (λ (z : Room). and_then (line_stage z 0 (line_pieces 0 (lines t)) start) (after_lines base)) (sym same) ∙ ap (λ (o : Result State Refusal). and_then o (after_lines base)) q)) a

  pub lines-stop : (s : Store) (r : Refusal) → Agrees (λ c. Stands t k c s) (Err r) stage_of_lem → (b : Buffers) → Agrees (LaidLeft b) (Err r) (lines_of t base lent)
  lines-stop s r a b =
      subst (Agrees (LaidLeft b) (Err r)) (ap (λ (z : Room). and_then (line_stage z 0 (line_pieces 0 (lines t)) start) (after_lines base)) same)
      (then_stop (λ c. Stands t k c s) (LaidLeft b) (Err r) stage_of_lem (after_lines base) r refl a)

-- ---- before the lines

module _ (t : List ℕ) (base : ℕ) (k : Lent) (b : Buffers) where
  pub base_stop : base_limit < base → Agrees (LaidLeft b) (Err (record { number = 40; line = 0 })) (layout_of t base k)
  unfolding layout_of
  base_stop h = rw (lt-ltb base_limit base h) refl

  module _ (low : base ≤ base_limit) where
    pub text-stop : text_limit < length t → Agrees (LaidLeft b) (Err (record { number = 41; line = 0 })) (layout_of t base k)
    unfolding layout_of
    text-stop h = rw (le-ltb base_limit base low, lt-ltb text_limit (length t) h) refl

    module _ (short : length t ≤ text_limit) where
      checked : layout_of t base k ≡ and_then (check_bytes 0 t) (λ _. lines_of t base k)
      unfolding layout_of
      checked = rw (le-ltb base_limit base low, le-ltb text_limit (length t) short) refl

      pub bytes-stop : (r : Refusal) → Err r ≡ check_bytes 0 t → Agrees (LaidLeft b) (Err r) (layout_of t base k)
      bytes-stop r a = rw (checked, ← a) refl

      pub bytes_go : (r : Result counted.Counts Refusal) → Ok tt ≡ check_bytes 0 t → Agrees (LaidLeft b) r (lines_of t base k) → Agrees (LaidLeft b) r (layout_of t base k)
      bytes_go r a c = rw (checked, ← a) c

-- ---- the answer

module _ (t : List ℕ) (base : ℕ) (k : Lent) where
  assembled : (a : Answer) → a ≡ call_of t base k → Assembled t base k a
  assembled a e =
      record {
        answered = subst (Answered t k) (sym e) (always_answered t base k);
        given = e;
        demanded = subst (Demanded t base k) (sym e) (demanded t base k);
      }

-- ---- clearing

-- as many zeros as there were numbers
pub filled : (b : List ℕ) (i : ℕ) → length b ≤ i → (b' : List ℕ) → b' ≡ replicate i 0 ++ drop i b → i ≤ length b → b' ≡ replicate (length b) 0
filled b i h b' e g =
    let same : i ≡ length b = omega arith in
    e ∙ ap (λ (r : List ℕ). replicate i 0 ++ r) (drop_of_length-le b {i = i} h) ∙ append-nil (replicate i 0) ∙ ap (λ (n : ℕ). replicate n 0) same

pub cleared : (b b' : List ℕ) → b' ≡ replicate (length b) 0 → b' ≡ replicate (length b') 0
cleared b b' e = e ∙ ap (λ (n : ℕ). replicate n 0) (sym (ap length e ∙ length-replicate {A = ℕ} (length b) 0))

module _ (b b' : Buffers) where
  pub same-lengths : length b'.words ≡ length b.words → length b'.data_bytes ≡ length b.data_bytes → length b'.labels ≡ length b.labels
      → length b'.equates ≡ length b.equates → length b'.items ≡ length b.items → lengths b' ≡ lengths b
  same-lengths hw hd hl he hi = λ j. record { words = hw j; data_bytes = hd j; label_bytes = hl j; equate_bytes = he j; item_bytes = hi j }

  pub zeroed : b'.words ≡ replicate (length b.words) 0 → b'.data_bytes ≡ replicate (length b.data_bytes) 0 → b'.labels ≡ replicate (length b.labels) 0
      → b'.equates ≡ replicate (length b.equates) 0 → b'.items ≡ replicate (length b.items) 0 → b' ≡ zero_buffers (lengths b)
  zeroed hw hd hl he hi = λ j. record { words = hw j; data_bytes = hd j; labels = hl j; equates = he j; items = hi j }

-- ---- the call: b₀ was lent, b₁ is cleared, and the stages left b

module _ (t : List ℕ) (base : ℕ) (b₀ b₁ b : Buffers) (same : lengths b₁ ≡ lengths b₀) (kept : lengths b ≡ lengths b₁) where
  pub call_through : (c : counted.Counts) → Agrees (LaidLeft b) (Ok c) (layout_of t base (lengths b₁))
      → Assembled t base (lengths b₀) (answer_in (Ok c) b)
  call_through c a = assembled t base (lengths b₀) _ (by (layout_of t base (lengths b₀)) (rw same at a))
    where
      by : (o : Result Layout Refusal) → Agrees (LaidLeft b) (Ok c) o → answer_in (Ok c) b ≡ answer_of (lengths b₀) o
      by (Err r) q = absurd q
      by (Ok x) q =
          let left : b ≡ buffers_of (lengths b₀) x = q.buffers ∙ ap (λ (z : Lent). buffers_of z x) (kept ∙ same) in
          λ j. record { number = 0; line = 0; counts = q.counts j; buffers = left j }

  pub call-refused : (r : RefusedAt) → Agrees (LaidLeft b) (Err (record { number = refusal_number r.refusal; line = r.line })) (layout_of t base (lengths b₁))
      → (b' : Buffers) → b' ≡ zero_buffers (lengths b) → Assembled t base (lengths b₀) (answer_in (Err r) b')
  call-refused r a b' zeros =
      assembled t base (lengths b₀) _
      (ap (λ (z : Buffers). answer_in (Err r) z) (zeros ∙ ap zero_buffers (kept ∙ same))
      ∙ ap (answer_of (lengths b₀)) (sym (agreed_refused (LaidLeft b) _ (layout_of t base (lengths b₀)) (rw same at a))))
