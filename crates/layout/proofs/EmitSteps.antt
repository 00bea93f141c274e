-- The items' words, item by item: what is emitted so far, carried on over the items that are left, is what all of them emit.
use Prim.Native.Nat.{ℕ, ◌+◌, ◌-◌, ◌*◌, ◌≤◌, ◌<◌}
use native.Mathlib.Nat.{sub-zero}
use native.Mathlib.Omega.{arith}
use mathlib.Core.Path.{◌≡◌, refl, sym, ap, ap₂, ◌∙◌}
use mathlib.Core.List.{List, [], ◌∷◌, ◌++◌, map, append_assoc, append-nil}
use Rattle.std.proofs.Common.{Option}
use lib.ListN.{length, take, drop, get_or, length-append}
use lib.Seq.{set_at, get_or-append_seam}
use lib.IntN.{ℤ}
use Rattle.std.proofs.Common.{Result, Ok, Err}
use Rattle.numbers.specs.Code.Spans.{spanned}
use Rattle.layout.specs.declared.records.ItemRecord.{ItemRecord}
use Rattle.layout.specs.declared.pseudo.Pseudo.{Pseudo}
use Rattle.layout.specs.Bytes.{little_endian, put, padded, together}
use Rattle.layout.specs.Limits.{text_limit, word_limit, item_size}
use Rattle.layout.specs.Pieces.{piece}
use Rattle.layout.specs.Pseudos.{item_kind, reserved_words}
use Rattle.layout.specs.State.{ItemLine, Items}
use Rattle.layout.specs.Records.{four, field_bytes, item_fields, item_record_at, table_of}
use Rattle.layout.specs.Layouts.{ItemAt, emission, item_at, emit, item_row}
use Rattle.layout.specs.Addresses.{address_at, label_address}
use Rattle.layout.specs.Rounds.{constant}
use Rattle.layout.specs.declared.names.Names.{Names}
use Rattle.layout.specs.declared.addresses.Starts.{Starts}
use Rattle.layout.specs.Code.Fits.{Each, ItemFits, Consecutive}
use Rattle.layout.specs.Code.Emits.{emitted_in, EmitLeft, EmitReady}
use Rattle.layout.specs.Code.Steps.{Exists, Agrees}
use Rattle.layout.specs.Code.Placed.{PlaceCoded}
use Rattle.layout.specs.Code.Names.{Scope, StandFor}
use Rattle.encoder.specs.Code.Words.{WordsPut}
use Rattle.layout.specs.Code.Expands.{emission_in, source_span, ItemRecordFits}
use Rattle.layout.specs.declared.state.Section.TheVariants as section
use Rattle.layout.specs.Code.Stands.{item_so_far}
use Rattle.layout.proofs.ByteLaws.{length-put, put_lent, put_pad}
use Rattle.layout.proofs.TableLaws.{table_set, table_lent, read-four}
use Rattle.layout.proofs.StepLaws.{Agreed, agreed, agreed_refused}
use Rattle.layout.proofs.Kept.{consecutive_next, consecutive_up}
use Rattle.layout.proofs.Emissions.{emission-sized}
use Rattle.layout.proofs.PseudoLaws.{kind_small}

-- an item before it is emitted, as its record has it
abbrev pub unemitted : ItemLine → ItemAt
unemitted x = record { address = x.offset; line = x.line; kind = item_kind x.item; first = 0; source = x.source }

no_item : ItemAt
no_item = record { address = 0; line = 0; kind = 0; first = 0; source = piece 0 [] }

row_sized : (x : ItemAt) → length (field_bytes (item_row x)) ≡ item_size
unfolding field_bytes little_endian
row_sized x = refl

-- what is emitted of σ, and what is left: ws the words so far, done the items, todo those that are left
pub record Emit (base : ℕ) (const : List ℕ → Option ℤ) (label : List ℕ → Option ℕ) (t : List ℕ) (σ : Items) (done : List ItemAt)
    (todo : List ItemLine) (ws b w : List ℕ) : Type 0 where
  pub text : length t ≤ text_limit
  pub counted : length done + length todo ≡ length σ.list
  pub rows : b ≡ table_of (length b) item_row (done ++ map unemitted todo)
  pub words : w ≡ padded (length w) ws
  pub consecutive : Consecutive (length ws) todo σ.words
  pub fits : Each (ItemFits t) todo
  pub goes : emit base const label todo ws done ≡ emit base const label σ.list [] []

module _ (base : ℕ) (const : List ℕ → Option ℤ) (label : List ℕ → Option ℕ) (t : List ℕ) (σ : Items) (done : List ItemAt) (x : ItemLine)
    (rest : List ItemLine) (ws b w : List ℕ) (m : Emit base const label t σ done (x ∷ rest) ws b w) where
  abbrev rows : List ItemAt
  rows = done ++ map unemitted (x ∷ rest)

  within : length done < length rows
  within = omega (arith, length-append done (map unemitted (x ∷ rest)))

  pub items_lent : length done * item_size + item_size ≤ length b
  items_lent = omega (arith, table_lent item_row item_size row_sized b rows m.rows, within)

  here : get_or rows (length done) no_item ≡ unemitted x
  here = get_or-append_seam done (unemitted x) (map unemitted rest) no_item

  -- its record, read back
  pub item-read : item_record_at b (length done)
      ≡ record { address = x.offset; line = x.line; kind = item_kind x.item; first = 0; start = x.source.at; len = length x.source.bytes }
  unfolding field_bytes little_endian
  item-read =
      let f : ItemFits t x = m.fits.0 in
      let k = length done in
      let s = m.text in
      let a = four x.offset in
      let l = four x.line in
      let c = four (item_kind x.item) in
      let z = four 0 in
      let i = four x.source.at in
      let at_address = read-four item_row item_size row_sized b rows no_item k (k * item_size) x.offset [] _ m.rows within (ap item_row here) (omega arith) (omega (arith, f.place)) in
      let at_line_lem = read-four item_row item_size row_sized b rows no_item k (k * item_size + 4) x.line (a ∷ []) _ m.rows within (ap item_row here) refl (omega (arith, f.line, s)) in
      let at_kind = read-four item_row item_size row_sized b rows no_item k (k * item_size + 8) (item_kind x.item) (a ∷ l ∷ []) _ m.rows within (ap item_row here) refl (omega (arith, kind_small x.item)) in
      let at_first = read-four item_row item_size row_sized b rows no_item k (k * item_size + 12) 0 (a ∷ l ∷ c ∷ []) _ m.rows within (ap item_row here) refl (omega arith) in
      let at_start = read-four item_row item_size row_sized b rows no_item k (k * item_size + 16) x.source.at (a ∷ l ∷ c ∷ z ∷ []) _ m.rows within (ap item_row here) refl (omega (arith, f.source.within, s)) in
      let at_len = read-four item_row item_size row_sized b rows no_item k (k * item_size + 20) (length x.source.bytes) (a ∷ l ∷ c ∷ z ∷ i ∷ []) _ m.rows within (ap item_row here) refl (omega (arith, f.source.within, s)) in
      rw (at_address, at_line_lem, at_kind, at_first, at_start, at_len) refl

  -- its source is the text at its span
  pub item_source : spanned t (record { start = x.source.at; len = length x.source.bytes }) ≡ x.source.bytes
  unfolding spanned
  item_source = m.fits.0.source.is

  pub emit-refused : (n : ℕ) → emission const label x.item x.source.bytes ≡ Err n
      → emit base const label σ.list [] [] ≡ Err (record { number = n; line = x.line })
  unfolding emit
  emit-refused n e = sym m.goes ∙ rw e refl

  -- its words stand behind those before it, and its record has its address and its first word
  module _ (vs : List ℕ) (e : emission const label x.item x.source.bytes ≡ Ok vs) where
    pub emit_next : (b' w' : List ℕ) → length b' ≡ length b → length w' ≡ length w
        → b' ≡ put (length done * item_size) (field_bytes (item_row (item_at base x (length ws)))) b → w' ≡ put (length ws) vs w
        → Emit base const label t σ (done ++ item_at base x (length ws) ∷ []) rest (ws ++ vs) b' w'
    unfolding emit
    emit_next b' w' lb lw eb ew =
        let y = item_at base x (length ws) in
        record {
          text = m.text;
          counted = omega (arith, m.counted, length-append done (y ∷ []));
          rows = table_set item_row item_size row_sized b b' rows m.rows (length done) y within lb eb
              ∙ ap (table_of (length b') item_row) (set_at done (unemitted x) (map unemitted rest) y (length done) refl ∙ sym (append_assoc done (y ∷ []) (map unemitted rest)));
          words = ew ∙ ap (put (length ws) vs) m.words ∙ put_pad (length w) (length ws) ws vs refl ∙ ap (λ (n : ℕ). padded n (ws ++ vs)) (sym lw);
          consecutive = consecutive_next (length ws) (length (ws ++ vs)) x rest σ.words
              (omega (arith, length-append ws vs, emission-sized const label x.item x.source.bytes vs e)) m.consecutive;
          fits = m.fits.1;
          goes = sym (rw e refl) ∙ m.goes;
        }

-- ---- from the loop's places

pub record Emitting (base : ℕ) (const : List ℕ → Option ℤ) (label : List ℕ → Option ℕ) (t : List ℕ) (σ : Items) (b w : List ℕ) (k at : ℕ) : Type 0 where
  pub done : List ItemAt
  pub todo : List ItemLine
  pub ws : List ℕ
  pub place : k ≡ length done
  pub written : at ≡ length ws
  pub emit : Emit base const label t σ done todo ws b w

pub record ItemHere (base : ℕ) (const : List ℕ → Option ℤ) (label : List ℕ → Option ℕ) (t : List ℕ) (σ : Items) (b w : List ℕ) (k at : ℕ) : Type 0 where
  pub done : List ItemAt
  pub one : ItemLine
  pub rest : List ItemLine
  pub ws : List ℕ
  pub place : k ≡ length done
  pub written : at ≡ length ws
  pub emit : Emit base const label t σ done (one ∷ rest) ws b w

pub item-here : (base : ℕ) (const : List ℕ → Option ℤ) (label : List ℕ → Option ℕ) (t : List ℕ) (σ : Items) (b w : List ℕ) (k at : ℕ)
    → Emitting base const label t σ b w k at → k < length σ.list → ItemHere base const label t σ b w k at
item-here base const label t σ b w k at m h = by m.todo m.emit
  where
    by : (todo : List ItemLine) → Emit base const label t σ m.done todo m.ws b w → ItemHere base const label t σ b w k at
    by [] v = absurd (omega (arith, v.counted, m.place, h))
    by (x ∷ rest) v = record { done = m.done; one = x; rest = rest; ws = m.ws; place = m.place; written = m.written; emit = v }

-- ---- in the code: i was i₀ and w was w₀, whatever those and the names stood for

abbrev items_in : Scope → Items
items_in z = z.state.rest.own.items

abbrev EmittingIn : Scope → (t i w : List ℕ) → ℕ → ℕ → Type 0
EmittingIn z t i w k at = Emitting z.base (constant z.known) (label_address z.base z.state) t (items_in z) i w k at

pub record EmitLoop (names : Names) (starts : Starts) (i₀ : List ℕ) (count : ℕ) (w₀ i w : List ℕ) (k at : ℕ) : Type 0 where
  pub within : k ≤ count
  pub items_sized : length i ≡ length i₀
  pub words_sized : length w ≡ length w₀
  pub emitting : (u : EmitReady names starts i₀ count w₀) → EmittingIn u.scope names.labels.now.text.now i w k at

-- the table of the items as the lines left them
unemitted_rows : (n : ℕ) (xs : List ItemLine) → table_of n item_so_far xs ≡ table_of n item_row (map unemitted xs)
unemitted_rows n xs = ap (λ (bs : List (List ℕ)). padded n (together bs)) (each xs)
  where
    each : (ys : List ItemLine) → map (λ y. field_bytes (item_so_far y)) ys ≡ map (λ y. field_bytes (item_row y)) (map unemitted ys)
    each [] = refl
    each (y ∷ ys) = ap (λ (bs : List (List ℕ)). field_bytes (item_so_far y) ∷ bs) (each ys)

module _ {names : Names} {starts : Starts} {i₀ : List ℕ} {count : ℕ} {w₀ : List ℕ} where
  pub emit-first : EmitLoop names starts i₀ count w₀ i₀ w₀ 0 0
  emit-first =
      record {
        within = omega arith;
        items_sized = refl;
        words_sized = refl;
        emitting = λ u.
            record {
              done = [];
              todo = (items_in u.scope).list;
              ws = [];
              place = refl;
              written = refl;
              emit = record {
                text = u.names.labels.table.text;
                counted = omega arith;
                rows = u.items.bytes ∙ unemitted_rows (length i₀) (items_in u.scope).list;
                words = u.zeros ∙ rw (sub-zero (length w₀)) refl;
                consecutive = u.items.fits.consecutive;
                fits = u.items.fits.each;
                goes = refl;
              };
            };
      }

  module _ (u : EmitReady names starts i₀ count w₀) where
    module _ {i w : List ℕ} {k at : ℕ} (p : EmitLoop names starts i₀ count w₀ i w k at) where
      -- the room for all words
      words_room : ((items_in u.scope).words ≤ word_limit) × ((items_in u.scope).words ≤ length w₀)
      words_room = let f = u.items.fits in (omega (arith, f.room, u.items.word_limit), omega (arith, f.room, u.lent))

      so_far : at ≤ (items_in u.scope).words
      so_far = let q = p.emitting u in omega (arith, q.written, consecutive_up (length q.ws) q.todo _ q.emit.consecutive)

      pub emit-low : at ≤ word_limit
      emit-low = omega (arith, so_far, words_room.0)

      pub emit-within : at ≤ length w
      emit-within = omega (arith, so_far, words_room.1, p.words_sized)

      pub emit_ends : count ≤ k → Agrees (EmitLeft i w) (Ok at) (emitted_in u.scope)
      unfolding emit
      emit_ends h = by (p.emitting u).todo (p.emitting u).emit
        where
          by : (todo : List ItemLine)
              → Emit u.scope.base (constant u.scope.known) (label_address u.scope.base u.scope.state) names.labels.now.text.now (items_in u.scope) (p.emitting u).done todo (p.emitting u).ws i w
              → Agrees (EmitLeft i w) (Ok at) (emitted_in u.scope)
          by [] v = rw (← v.goes) (record { counted = (p.emitting u).written; words = v.words; items = v.rows ∙ rw (append-nil (p.emitting u).done) refl })
          by (y ∷ ys) v = absurd (omega (arith, v.counted, (p.emitting u).place, u.items.counted, h))

      module _ (more : k < count) where
        current : ItemHere u.scope.base (constant u.scope.known) (label_address u.scope.base u.scope.state) names.labels.now.text.now (items_in u.scope) i w k at
        current = item-here _ _ _ _ _ i w k at (p.emitting u) (omega (arith, u.items.counted))

        -- its own words among them
        behind_it : length current.ws + reserved_words current.one.item current.one.source.bytes ≤ (items_in u.scope).words
        behind_it = let h = current in consecutive_up _ h.rest _ h.emit.consecutive.1

        pub emit_lent : k * item_size + item_size ≤ length i
        emit_lent = let h = current in rw h.place (items_lent _ _ _ _ _ h.done h.one h.rest h.ws i w h.emit)

        module _ (r : ItemRecord) (read : r ≡ item_record_at i k) where
          item-is : r ≡ record {
            address = current.one.offset;
            line = current.one.line;
            kind = item_kind current.one.item;
            first = 0;
            start = current.one.source.at;
            len = length current.one.source.bytes;
          }
          item-is = let h = current in read ∙ ap (item_record_at i) h.place ∙ item-read _ _ _ _ _ h.done h.one h.rest h.ws i w h.emit

          source_is : spanned names.labels.now.text.now (source_span r) ≡ current.one.source.bytes
          source_is = let h = current in ap (λ (q : ItemRecord). spanned names.labels.now.text.now (source_span q)) item-is ∙ item_source _ _ _ _ _ h.done h.one h.rest h.ws i w h.emit

          -- what emitting it asks
          pub item_record_fits : (n : ℕ) → n ≡ length w - at → Exists (ItemRecordFits names.labels.now.text.now n r)
          item_record_fits n size =
              let h = current in
              record {
                it = h.one.item;
                stands = record {
                  kind = ap (λ (q : ItemRecord). q.kind) item-is;
                  room = rw source_is (omega (arith, size, h.written, behind_it, words_room.1, p.words_sized));
                };
              }

          pub emit_coded : PlaceCoded starts r.address
          emit_coded =
              let h = current in
              record {
                base = u.scope.base;
                state = u.scope.state;
                place = record { section = section.Text; offset = h.one.offset };
                starts = u.starting;
                fits = omega (arith, h.emit.fits.0.place);
                is = omega (arith, ap (λ (q : ItemRecord). q.address) item-is);
              }

          -- what it emits, by what emitting its record promises
          abbrev Emitted_so : List ℕ → List ℕ → Result ℕ ℕ → Type 0
          Emitted_so d d' a =
              (z : Scope) → StandFor names z → (o : Option Pseudo) → r.kind ≡ item_kind o
              → Agrees (WordsPut d d') a (emission_in z o (spanned names.labels.now.text.now (source_span r)))

          module _ (d d' : List ℕ) where
            told : (a : Result ℕ ℕ) → Emitted_so d d' a → Agrees (WordsPut d d') a (emission_in u.scope current.one.item current.one.source.bytes)
            told a f = rw source_is at (f u.scope u.names current.one.item (ap (λ (q : ItemRecord). q.kind) item-is))

            pub emit_stops : (number : ℕ) → Emitted_so d d' (Err number) → (i' w' : List ℕ)
                → Agrees (EmitLeft i' w') (Err (record { number = number; line = r.line })) (emitted_in u.scope)
            emit_stops number f i' w' =
                let h = current in
                let e = agreed_refused (WordsPut d d') number (emission_in u.scope h.one.item h.one.source.bytes) (told (Err number) f) in
                rw (emit-refused _ _ _ _ _ h.done h.one h.rest h.ws i w h.emit number e) (λ j. record { number = number; line = (item-is j).line })

            -- the words that it emits
            emitted : (n : ℕ) → Emitted_so d d' (Ok n) → Agreed (WordsPut d d') n (emission_in u.scope current.one.item current.one.source.bytes)
            emitted n f = agreed (WordsPut d d') n (emission_in u.scope current.one.item current.one.source.bytes) (told (Ok n) f)

            pub emit_more : (more-words : ℕ) → Emitted_so d d' (Ok more-words) → (at + more-words ≤ word_limit) × (at + more-words ≤ length w)
            emit_more n f =
                let h = current in
                let b = emitted n f in
                let sized = emission-sized _ _ h.one.item h.one.source.bytes b.it b.is in
                (omega (arith, b.stands.counted, sized, h.written, behind_it, words_room.0), omega (arith, b.stands.counted, sized, h.written, behind_it, words_room.1, p.words_sized))

            pub emit_goes : (at' : ℕ) → Emitted_so d d' (Ok at') → d ≡ take (length w - at) (drop at w)
                → (a : ℕ) → ((q : PlaceCoded starts r.address) → a ≡ address_at q.base q.state q.place)
                → (i' : List ℕ) → length i' ≡ length i
                → i' ≡ put (k * item_size) (field_bytes (item_fields (record { address = a; line = r.line; kind = r.kind; first = at; start = r.start; len = r.len }))) i
                → EmittingIn u.scope names.labels.now.text.now i' (take at w ++ (d' ++ drop (length w - at) (drop at w))) (k + 1) (at + at')
            unfolding emit_coded
            emit_goes n f part a coded i' sized is =
                let h = current in
                let e = emitted n f in
                let vs = e.it in
                let b = e.stands in
                let fits = (emit_more n f).1 in
                let w' = put_lent at n vs w d' (sym b.counted) fits (b.put ∙ ap (λ (y : List ℕ). vs ++ drop n y) part) in
                let row = is ∙ ap (λ (y : ItemRecord). put (k * item_size) (field_bytes (item_fields (record { address = a; line = y.line; kind = y.kind; first = at; start = y.start; len = y.len }))) i) item-is
                ∙ ap (λ (y : ℕ). put (k * item_size) (field_bytes (item_row (record { address = y; line = h.one.line; kind = item_kind h.one.item; first = at; source = h.one.source }))) i) (coded emit_coded) in
                record {
                  done = h.done ++ item_at u.scope.base h.one (length h.ws) ∷ [];
                  todo = h.rest;
                  ws = h.ws ++ vs;
                  place = omega (arith, h.place, length-append h.done (item_at u.scope.base h.one (length h.ws) ∷ []));
                  written = omega (arith, h.written, b.counted, length-append h.ws vs);
                  emit = emit_next _ _ _ _ _ h.done h.one h.rest h.ws i w h.emit vs e.is i' _ sized
                      (ap length w' ∙ length-put at vs w (omega (arith, fits, b.counted)))
                      (row ∙ ap₂ (λ (y z : ℕ). put (y * item_size) (field_bytes (item_row (item_at u.scope.base h.one z))) i) h.place h.written)
                      (w' ∙ ap (λ (y : ℕ). put y vs w) h.written);
                }
