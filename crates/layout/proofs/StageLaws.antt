-- A step of the line stage, from its parts' steps: what counters and buffers stand for then.
use Rattle.layout.proofs.ResultLaws.{value_same, refused-same, refused-value, value-refused}
use Rattle.std.proofs.Common.{sym}
use Rattle.layout.specs.Code.Numbers.{numbered, refusal_number}
use Rattle.layout.specs.Code.Spans.{LineStands}
use Rattle.layout.specs.declared.refusal.Refusal.{Refusal}
use Rattle.layout.specs.declared.line.Statement as code_statement
use Prim.Native.Nat.{ℕ, ◌-◌, ◌*◌, ◌≤◌}
use native.Mathlib.Omega.{arith}
use mathlib.Core.Path.{◌≡◌, refl, ap, subst, ◌∙◌}
use mathlib.Core.List.{List}
use Rattle.std.proofs.Common.{Option, None, Some}
use lib.ListN.{length, take, drop, length-drop}
use lib.Seq.{length-take-le}
use Rattle.std.proofs.Common.{Result, Ok, Err}
use Rattle.numbers.specs.Results.{and_then, mapped}
use Rattle.numbers.specs.declared.text.Span.{Span}
use Rattle.numbers.specs.Code.Spans.{spanned}
use Rattle.layout.specs.declared.limits.Room.{Room}
use Rattle.layout.specs.declared.state.Section.{Section}
use Rattle.layout.specs.declared.state.Section.TheVariants as section
use Rattle.layout.specs.declared.state.Place.{Place}
use Rattle.layout.specs.declared.state.ItemCount.{ItemCount}
use Rattle.layout.specs.declared.state.DataCount.{DataCount}
use Rattle.layout.specs.declared.state.OwnCounters.{OwnCounters}
use Rattle.layout.specs.declared.state.RestCounters.{RestCounters}
use Rattle.layout.specs.declared.state.Counters.{Counters}
use Rattle.layout.specs.declared.directives.Reservation.{Reservation}
use Rattle.layout.specs.declared.directives.Source.{Source}
use Rattle.layout.specs.declared.directives.Source.TheVariants.{Stores, String, Reserves}
use Rattle.layout.specs.declared.line.EquateParts.{EquateParts}
use Rattle.layout.specs.declared.line.OwnStatement.TheVariants.{InData}
use Rattle.layout.specs.declared.line.Line as code
use Rattle.layout.specs.Limits.{word_limit, bss_limit}
use Rattle.layout.specs.Pieces.{Piece, piece}
use Rattle.layout.specs.Statements.{OwnStatement, item, stores, string, reserves, reserves_bss, Statement, nothing, enters, equate, own, Line, line_of}
use Rattle.layout.specs.State.{Items, Stored, Own, Rest, State, offset_in, here}
use Rattle.layout.specs.Stage.{label_step, add_equate, data_line, bss_line, with_items, with_stored, with_bss, with_rest}
use Rattle.layout.specs.Stage.{own_line, statement_step, step_parsed, step_line}
use Rattle.layout.specs.Code.Steps.{Agrees, Steps}
use Rattle.layout.specs.Code.Places.{PlaceFits, section_limit}
use Rattle.layout.specs.Code.Spans.{span_of, piece_at, line_at, own_code, own_at, statement_code, statement_at, equate_at, label_part_of, label_part_at}
use Rattle.layout.specs.Code.Spans.{OwnWithin, StatementWithin, LabelWithin}
use Rattle.layout.specs.Code.Stands.{LabelsStand, EquateStore, EquatesStand, ItemsStand, DataStore, StoredStand, OwnStore, OwnStand, RestStore, RestStand}
use Rattle.layout.specs.Code.Stands.{Store, Stands, entered_own, offset_of, place_of}
use Rattle.layout.specs.Code.Fits.{Inside}
use Rattle.layout.specs.Code.Writes.{source_readings}
use Rattle.layout.proofs.Gives.{Gives}
use Rattle.layout.proofs.Kept.{bss_line_fits}
use Rattle.layout.proofs.LineInside.{LabelInside, OwnInside, StatementInside, LineInside, line_inside}
use Rattle.layout.proofs.StepLaws.{lift_go, lift_stop, then_go, then_stop}

-- ---- the present place

module _ {t : List ℕ} {k : Room} {c : OwnCounters} {b : OwnStore} {σ : Own} (s : OwnStand t k c b σ) where
  -- the counters are at the definition's place
  pub place_is : place_of c ≡ here σ
  place_is = λ j. record { section = s.section j; offset = offset j }
    where
      by : (x : Section) → offset_of x c ≡ offset_in x σ
      by section.Text = ap (λ (n : ℕ). 4 * n) s.items.words
      by section.Data = s.stored.counted
      by section.Bss = s.bss

      offset : offset_of c.section c ≡ offset_in σ.section σ
      offset = ap (λ (x : Section). offset_of x c) s.section ∙ by σ.section

  pub words_within : c.items.words ≤ word_limit
  words_within = omega (arith, s.items.words, s.items.fits.room, s.items.word_limit)

  pub place_fits : PlaceFits (place_of c)
  place_fits = by c.section
    where
      by : (x : Section) → offset_of x c ≤ section_limit x
      by section.Text = omega (arith, words_within)
      by section.Data = omega (arith, s.stored.counted, s.stored.fits.room, s.stored.limit)
      by section.Bss = s.bss_limit

-- ---- the section's own rule

module _ (t : List ℕ) (k : Room) (c : OwnCounters) where
  module _ (i i' : List ℕ) (d : DataStore) (f : Items → Result Items ℕ) (r : Result ItemCount ℕ) (h : Steps (ItemsStand t k) c.items i r i' f) where
    pub items_go : (x : ItemCount) → r ≡ Ok x
        → Steps (OwnStand t k) c (record { items = i; stored = d }) (Ok (record { section = c.section; items = x; stored = c.stored; bss = c.bss }))
        (record { items = i'; stored = d }) (λ σ. mapped (with_items σ) (f σ.items))
    items_go x e σ s =
        lift_go (λ y. ItemsStand t k y i') (λ y. OwnStand t k y (record { items = i'; stored = d })) r (f σ.items) _ x _ e (h σ.items s.items)
        (λ p q. record { section = s.section; items = q; stored = s.stored; bss = s.bss; bss_limit = s.bss_limit })

    pub items_stopped : (n : ℕ) → r ≡ Err n
        → Steps (OwnStand t k) c (record { items = i; stored = d }) (Err n) (record { items = i'; stored = d }) (λ σ. mapped (with_items σ) (f σ.items))
    items_stopped n e σ s = lift_stop _ (λ y. OwnStand t k y (record { items = i'; stored = d })) r (f σ.items) _ n e (h σ.items s.items)

  module _ (i : List ℕ) (d d' : DataStore) (f : Stored → Result Stored ℕ) (r : Result DataCount ℕ) (h : Steps (StoredStand t k) c.stored d r d' f) where
    pub stored_go : (x : DataCount) → r ≡ Ok x
        → Steps (OwnStand t k) c (record { items = i; stored = d }) (Ok (record { section = c.section; items = c.items; stored = x; bss = c.bss }))
        (record { items = i; stored = d' }) (λ σ. mapped (with_stored σ) (f σ.stored))
    stored_go x e σ s =
        lift_go (λ y. StoredStand t k y d') (λ y. OwnStand t k y (record { items = i; stored = d' })) r (f σ.stored) _ x _ e (h σ.stored s.stored)
        (λ p q. record { section = s.section; items = s.items; stored = q; bss = s.bss; bss_limit = s.bss_limit })

    pub stored_stopped : (n : ℕ) → r ≡ Err n
        → Steps (OwnStand t k) c (record { items = i; stored = d }) (Err n) (record { items = i; stored = d' }) (λ σ. mapped (with_stored σ) (f σ.stored))
    stored_stopped n e σ s = lift_stop _ (λ y. OwnStand t k y (record { items = i; stored = d' })) r (f σ.stored) _ n e (h σ.stored s.stored)

  module _ (b : OwnStore) (x : Result Reservation ℕ) (r : Result ℕ ℕ) (h : r ≡ bss_line x c.bss) where
    -- what the counter and the definition have alike
    abbrev Alike : ℕ → ℕ → Type 0
    Alike n m = (n ≡ m) × (n ≤ bss_limit)

    alike : (m : Result ℕ ℕ) → r ≡ m → Gives (λ n. n ≤ bss_limit) m → Agrees Alike r m
    alike (Ok n) e g = rw e (refl, g)
    alike (Err n) e g = rw e refl

    pub bss_go : (n : ℕ) → r ≡ Ok n
        → Steps (OwnStand t k) c b (Ok (record { section = c.section; items = c.items; stored = c.stored; bss = n })) b
        (λ σ. mapped (with_bss σ) (bss_line x σ.bss))
    bss_go n e σ s =
        rw (← s.bss)
        (lift_go Alike (λ y. OwnStand t k y b) r (bss_line x c.bss) _ n _ e (alike (bss_line x c.bss) h (bss_line_fits x c.bss))
        (λ p q. record { section = s.section; items = s.items; stored = s.stored; bss = q.0; bss_limit = q.1 }))

    pub bss_stopped : (n : ℕ) → r ≡ Err n → Steps (OwnStand t k) c b (Err n) b (λ σ. mapped (with_bss σ) (bss_line x σ.bss))
    bss_stopped n e σ s =
        rw (← s.bss)
        (lift_stop Alike (λ y. OwnStand t k y b) r (bss_line x c.bss) _ n e (alike (bss_line x c.bss) h (bss_line_fits x c.bss)))

-- a statement of the data section is what its source writes
pub source_line : (t : List ℕ) (k : Room) (line : ℕ) (x : Source) (q : Span) (σ : Own)
    → own_line k line (own_at t (InData x q)) σ ≡ mapped (with_stored σ) (data_line k line (source_readings x (spanned t q)) σ.stored)
unfolding own_line
source_line t k line (Stores x) q σ = refl
source_line t k line (String zeros) q σ = refl
source_line t k line (Reserves x) q σ = refl

-- ---- what a statement does

module _ (t : List ℕ) (k : Room) (c : RestCounters) (line : ℕ) where
  pub enters_goes : (x : Section) (b : RestStore) → Steps (RestStand t k) c b (Ok (record { equates = c.equates; own = entered_own x c.own })) b (statement_step k line (enters x))
  unfolding statement_step
  enters_goes x b σ s =
      record {
        equates = s.equates;
        own = record { section = refl; items = s.own.items; stored = s.own.stored; bss = s.own.bss; bss_limit = s.own.bss_limit };
      }

  module _ (e e' : EquateStore) (o : OwnStore) (parts : EquateParts) (place : Place) (at : place ≡ place_of c.own) (r : Result ℕ ℕ)
      (h : Steps (EquatesStand t k) c.equates e r e' (add_equate k (equate_at t place line parts))) where
    abbrev said : Statement
    said = equate (piece_at t parts.name) (record { source = piece_at t parts.expr; one_space = parts.one_space })

    added : (σ : Rest) → RestStand t k c (record { equates = e; own = o }) σ
        → Agrees (λ y. EquatesStand t k y e') r (add_equate k (equate_at t (here σ.own) line parts) σ.equates)
    added σ s =
        subst (λ (p : Place). Agrees (λ y. EquatesStand t k y e') r (add_equate k (equate_at t p line parts) σ.equates)) (at ∙ place_is s.own)
        (h σ.equates s.equates)

    pub equate_go : (n : ℕ) → r ≡ Ok n
        → Steps (RestStand t k) c (record { equates = e; own = o }) (Ok (record { equates = n; own = c.own })) (record { equates = e'; own = o }) (statement_step k line said)
    unfolding statement_step
    equate_go n q σ s = lift_go (λ y. EquatesStand t k y e') (λ y. RestStand t k y (record { equates = e'; own = o })) r _ _ n _ q (added σ s) (λ es p. record { equates = p; own = s.own })

    pub equate_stopped : (n : ℕ) → r ≡ Err n
        → Steps (RestStand t k) c (record { equates = e; own = o }) (Err n) (record { equates = e'; own = o }) (statement_step k line said)
    unfolding statement_step
    equate_stopped n q σ s = lift_stop _ (λ y. RestStand t k y (record { equates = e'; own = o })) r _ _ n q (added σ s)

  module _ (e : EquateStore) (o o' : OwnStore) (x : OwnStatement) (r : Result OwnCounters ℕ)
      (h : Steps (OwnStand t k) c.own o r o' (own_line k line x)) where
    pub own_go : (y : OwnCounters) → r ≡ Ok y
        → Steps (RestStand t k) c (record { equates = e; own = o }) (Ok (record { equates = c.equates; own = y })) (record { equates = e; own = o' })
        (statement_step k line (own x))
    unfolding statement_step
    own_go y q σ s = lift_go (λ z. OwnStand t k z o') (λ z. RestStand t k z (record { equates = e; own = o' })) r (own_line k line x σ.own) _ y _ q (h σ.own s.own) (λ ω p. record { equates = s.equates; own = p })

    pub own_stopped : (n : ℕ) → r ≡ Err n
        → Steps (RestStand t k) c (record { equates = e; own = o }) (Err n) (record { equates = e; own = o' }) (statement_step k line (own x))
    unfolding statement_step
    own_stopped n q σ s =
        lift_stop _ (λ y. RestStand t k y (record { equates = e; own = o' })) r (own_line k line x σ.own) _ n q (h σ.own s.own)

-- ---- a line's parts, by their spans

module _ (t : List ℕ) where
  -- a piece of the text is read back by its span
  piece_back : (p : Piece) → Inside t p → piece_at t (span_of p) ≡ p
  unfolding spanned
  piece_back p g = ap (piece p.at) g.is

  label_back : (l : Option Piece) → LabelInside t l → label_part_at t (label_part_of l) ≡ l
  label_back None g = refl
  label_back (Some p) g = ap Some (piece_back p g)

  own_back : (s : OwnStatement) → OwnInside t s → own_at t (own_code s) ≡ s
  own_back (item p) g = ap item (piece_back p g)
  own_back (stores x p) g = ap (stores x) (piece_back p g.1)
  own_back (string zeros p) g = ap (string zeros) (piece_back p g.1)
  own_back (reserves x p) g = ap (reserves x) (piece_back p g)
  own_back (reserves_bss x p) g = ap (reserves_bss x) (piece_back p g)

  said_back : (s : Statement) → StatementInside t s → (x : code_statement.Statement) → statement_code (Ok s) ≡ Ok x → statement_at t x ≡ s
  said_back nothing g x e = rw (← value_same e) refl
  said_back (enters s) g x e = rw (← value_same e) refl
  said_back (equate p y) g x e = rw (← value_same e, piece_back p g.0, piece_back y.source g.1) refl
  said_back (own s) g x e = rw (← value_same e) (ap own (own_back s g))

  label-within : (l : Option Piece) → LabelInside t l → LabelWithin t (label_part_of l)
  label-within None g = tt
  label-within (Some p) g = g.within

  own-within : (s : OwnStatement) → OwnInside t s → OwnWithin t (own_code s)
  own-within (item p) g = g.within
  own-within (stores x p) g = (g.0, g.1.within)
  own-within (string _ p) g = (g.0, g.1.within)
  own-within (reserves x p) g = (tt, g.within)
  own-within (reserves_bss x p) g = g.within

  said_within : (s : Statement) → StatementInside t s → (x : code_statement.Statement) → statement_code (Ok s) ≡ Ok x → StatementWithin t x
  said_within nothing g x e = rw (← value_same e) tt
  said_within (enters s) g x e = rw (← value_same e) tt
  said_within (equate p y) g x e = rw (← value_same e) (g.0.within, g.1.within)
  said_within (own s) g x e = rw (← value_same e) (own-within s g)

  -- what a line says is a statement that lies within the text, or the same refusal
  module _ (o : Result Statement ℕ) (g : Gives (StatementInside t) o) (says : Result code_statement.Statement Refusal) (e : numbered says ≡ statement_code o) where
    says-within : (x : code_statement.Statement) → says ≡ Ok x → StatementWithin t x
    says-within x f = by o g (sym e ∙ ap numbered f)
      where
        by : (o : Result Statement ℕ) → Gives (StatementInside t) o → statement_code o ≡ Ok x → StatementWithin t x
        by (Ok s) g e = said_within s g x e
        by (Err n) g e = absurd (refused-value e)

    says_back : (x : code_statement.Statement) → says ≡ Ok x → Ok (statement_at t x) ≡ o
    says_back x f = by o g (sym e ∙ ap numbered f)
      where
        by : (o : Result Statement ℕ) → Gives (StatementInside t) o → statement_code o ≡ Ok x → Ok (statement_at t x) ≡ o
        by (Ok s) g e = ap Ok (said_back s g x e)
        by (Err n) g e = absurd (refused-value e)

    says_refused : (r : Refusal) → says ≡ Err r → Err (refusal_number r) ≡ o
    says_refused r f = by o (sym e ∙ ap numbered f)
      where
        by : (o : Result Statement ℕ) → statement_code o ≡ Err (refusal_number r) → Err (refusal_number r) ≡ o
        by (Ok nothing) e = absurd (value-refused e)
        by (Ok (enters s)) e = absurd (value-refused e)
        by (Ok (equate p y)) e = absurd (value-refused e)
        by (Ok (own s)) e = absurd (value-refused e)
        by (Err n) e = ap Err (sym (refused-same e))

-- the line that stands from one place to another lies within the text; so do its parts, which are read back
module _ (t : List ℕ) (at end : ℕ) (h : at ≤ end) (g : end ≤ length t) where
  pub line_there : Inside t (line_at t at end)
  line_there =
      let e : length (take (end - at) (drop at t)) ≡ end - at = length-take-le (end - at) (drop at t) (rw (length-drop at t) (omega arith)) in
      record { within = rw e (omega arith); is = rw e refl }

  module _ (s : Section) (l : code.Line) (e : LineStands l (line_of s (line_at t at end))) where
    inside : LineInside t (line_of s (line_at t at end))
    inside = line_inside t s (line_at t at end) line_there

    pub line_label-within : LabelWithin t l.label
    line_label-within = rw e.label (label-within t (line_of s (line_at t at end)).label inside.label)

    pub line_says-within : (x : code_statement.Statement) → l.says ≡ Ok x → StatementWithin t x
    line_says-within = says-within t (line_of s (line_at t at end)).says inside.says l.says e.says

    pub line_label : label_part_at t l.label ≡ (line_of s (line_at t at end)).label
    line_label = rw e.label (label_back t (line_of s (line_at t at end)).label inside.label)

    pub line_says : (x : code_statement.Statement) → l.says ≡ Ok x → Ok (statement_at t x) ≡ (line_of s (line_at t at end)).says
    line_says = says_back t (line_of s (line_at t at end)).says inside.says l.says e.says

    pub line_refused : (r : Refusal) → l.says ≡ Err r → Err (refusal_number r) ≡ (line_of s (line_at t at end)).says
    line_refused = says_refused t (line_of s (line_at t at end)).says inside.says l.says e.says

-- ---- a line: its label, then what it says

module _ (t : List ℕ) (k : Room) (c : Counters) (b b' : Store) (line at end : ℕ) (h : at ≤ end) (g : end ≤ length t)
    (l : code.Line) (is : LineStands l (line_of c.rest.own.section (line_at t at end)))
    (place : Place) (there : place ≡ place_of c.rest.own) (r : Result ℕ ℕ)
    (label : Steps (LabelsStand t k) c.labels b.labels r b'.labels (label_step k place line (label_part_at t l.label))) where
  abbrev parts : Line
  parts = line_of c.rest.own.section (line_at t at end)

  abbrev told : Rest → Result Rest ℕ
  told σ = and_then parts.says (λ s. statement_step k line s σ)

  stepped : (σ : State) → Stands t k c b σ → step_line k line (line_at t at end) σ
      ≡ and_then (label_step k (here σ.rest.own) line parts.label σ.labels) (λ ls. mapped (with_rest ls) (told σ.rest))
  unfolding step_parsed
  stepped σ s = rw (← s.rest.own.section) refl

  labelled : (σ : State) → Stands t k c b σ → Agrees (λ n. LabelsStand t k n b'.labels) r (label_step k (here σ.rest.own) line parts.label σ.labels)
  labelled σ s =
      subst (λ (p : Place). Agrees (λ n. LabelsStand t k n b'.labels) r (label_step k p line parts.label σ.labels)) (there ∙ place_is s.rest.own)
      (subst (λ (x : Option Piece). Agrees (λ n. LabelsStand t k n b'.labels) r (label_step k place line x σ.labels)) (line_label t at end h g _ l is)
      (label σ.labels s.labels))

  pub label_stopped : (n : ℕ) → r ≡ Err n → Steps (Stands t k) c b (Err n) b' (step_line k line (line_at t at end))
  label_stopped n e σ s =
      rw (stepped σ s)
      (then_stop (λ n. LabelsStand t k n b'.labels) (λ d. Stands t k d b') r (label_step k (here σ.rest.own) line parts.label σ.labels) _ n e (labelled σ s))

  module _ (n : ℕ) (e : r ≡ Ok n) where
    -- the statement is refused, and what it would have written stands as it was
    pub says_stopped : (m : Refusal) → l.says ≡ Err m → Steps (Stands t k) c b (Err (refusal_number m)) b' (step_line k line (line_at t at end))
    says_stopped m f σ s =
        rw (stepped σ s)
        (then_go (λ n. LabelsStand t k n b'.labels) (λ d. Stands t k d b') r (label_step k (here σ.rest.own) line parts.label σ.labels) _ n (Err (refusal_number m)) e (labelled σ s)
        (λ ls x. rw (← line_refused t at end h g _ l is m f) refl))

    module _ (x : code_statement.Statement) (f : l.says ≡ Ok x) (q : Result RestCounters ℕ)
        (rest : Steps (RestStand t k) c.rest b.rest q b'.rest (statement_step k line (statement_at t x))) where
      rested : (σ : State) → Stands t k c b σ → Agrees (λ d. RestStand t k d b'.rest) q (told σ.rest)
      rested σ s =
          subst (λ (x : Result Statement ℕ). Agrees (λ d. RestStand t k d b'.rest) q (and_then x (λ y. statement_step k line y σ.rest))) (line_says t at end h g _ l is x f)
          (rest σ.rest s.rest)

      pub rest_stopped : (m : ℕ) → q ≡ Err m → Steps (Stands t k) c b (Err m) b' (step_line k line (line_at t at end))
      rest_stopped m p σ s =
          rw (stepped σ s)
          (then_go (λ n. LabelsStand t k n b'.labels) (λ d. Stands t k d b') r (label_step k (here σ.rest.own) line parts.label σ.labels) _ n (Err m) e (labelled σ s)
          (λ ls x. lift_stop (λ d. RestStand t k d b'.rest) (λ d. Stands t k d b') q (told σ.rest) (with_rest ls) m p (rested σ s)))

      pub line_goes : (x : RestCounters) → q ≡ Ok x
          → Steps (Stands t k) c b (Ok (record { labels = n; rest = x })) b' (step_line k line (line_at t at end))
      line_goes x p σ s =
          rw (stepped σ s)
          (then_go (λ n. LabelsStand t k n b'.labels) (λ d. Stands t k d b') r (label_step k (here σ.rest.own) line parts.label σ.labels) _ n
          (Ok (record { labels = n; rest = x })) e (labelled σ s)
          (λ ls y. lift_go (λ d. RestStand t k d b'.rest) (λ d. Stands t k d b') q (told σ.rest) (with_rest ls) x (record { labels = n; rest = x }) p (rested σ s)
          (λ ω w. record { labels = y; rest = w })))
