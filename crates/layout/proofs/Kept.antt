-- What the line stage keeps: what has been laid out fits its room, part by part, and a refusal names a line of the text.
use Prim.Native.Nat.{ℕ, suc, ◌+◌, ◌-◌, ◌*◌, ◌≤◌, ◌<◌}
use mathlib.Core.Path.{◌≡◌, refl, sym, ap, subst}
use mathlib.Core.List.{List, [], ◌∷◌, ◌++◌}
use mathlib.Core.Bool.{Bool, true, false, cond, ◌||◌, true≢false, false≢true}
use Rattle.std.proofs.Common.{Option, None, Some}
use native.Mathlib.Omega.{arith}
use lib.Dec.{eqb, ltb, leb}
use lib.ListN.{length, length-append, length-replicate}
use borrow.Author.Tests.{ltb-true, leb-true}
use Rattle.std.proofs.Common.{Result, Ok, Err}
use Rattle.numbers.specs.Results.{and_then, mapped}
use Rattle.numbers.specs.Text.{same}
use Rattle.numbers.specs.Numbers.{imm_of}
use Rattle.numbers.specs.Strings.{string_bytes}
use Rattle.numbers.specs.Operands.{cons_first}
use Rattle.layout.specs.declared.state.Section.{Section}
use Rattle.layout.specs.declared.state.Section.TheVariants as section
use Rattle.layout.specs.declared.state.Place.{Place}
use Rattle.layout.specs.declared.limits.Room.{Room}
use Rattle.layout.specs.declared.pseudo.Pseudo.{Pseudo}
use Rattle.layout.specs.declared.directives.Reservation.{Reservation}
use Rattle.layout.specs.Refusals.{at_line}
use Rattle.layout.specs.Limits.{word_limit, data_limit, bss_limit, label_word_limit, Lent, room_of}
use Rattle.layout.specs.Pieces.{Piece, lines, line_pieces}
use Rattle.layout.specs.Statements.{OwnStatement, item, stores, string, reserves, reserves_bss, Statement, nothing, enters, equate, own, Line, line_of}
use Rattle.layout.specs.Pseudos.{Item, ordinary, pseudo, other, item_of, reserved_words}
use Rattle.layout.specs.Directives.{Write, bytes, gap, address_of, place_after, reservation, string_write, store_writes}
use Rattle.layout.specs.State.{Label, Equate, ItemLine, LabelWord, Items, Stored, Own, Rest, State, start, offset_in, here}
use Rattle.layout.specs.Stage.{is_label, recorded, add_label, label_step, add_equate, add_item, text_line, write_size, write_bytes, grow_data}
use Rattle.layout.specs.Stage.{add_label_word, data_write, data_line, grow_bss, bss_line, in_section, with_items, with_stored, with_bss, with_equates}
use Rattle.layout.specs.Stage.{with_own, with_rest, own_line, statement_step, step_parsed, step_line, line_stage}
use Rattle.layout.specs.Code.Places.{section_limit, PlaceFits}
use Rattle.layout.specs.Code.Fits.{Each, Inside, LabelFits, EquateFits, ItemFits, LabelWordFits, Consecutive}
use Rattle.layout.specs.Code.Fits.{LabelsFit, EquatesFit, ItemsFit, StoredFits, OwnFits, RestFits, Fits}
use Rattle.layout.proofs.Each.{each_append, each_weaker}
use Rattle.layout.proofs.Gives.{Comes, Gives, and_then_comes, and_then_gives, mapped_gives, at_line_comes}
use Rattle.layout.proofs.Inside.{lines_inside}
use Rattle.layout.proofs.LineInside.{LabelInside, OwnInside, StatementInside, LineInside, line_inside}

-- ---- labels

-- a label of a name that there is takes its place; one of a new name is one more
pub recorded_known : (x : Label) (ls : List Label) → is_label x.name.bytes ls ≡ true → length (recorded x ls) ≡ length ls
unfolding is_label recorded
recorded_known x [] e = absurd (false≢true e)
recorded_known x (l ∷ ls) e = by (same l.name.bytes x.name.bytes) e (recorded_known x ls)
  where
    by : (c : Bool) → c || is_label x.name.bytes ls ≡ true → (is_label x.name.bytes ls ≡ true → length (recorded x ls) ≡ length ls)
        → length {A = Label} (elim c [ true ↦ x ∷ ls | false ↦ l ∷ recorded x ls ]) ≡ suc (length ls)
    by true r more = refl
    by false r more = ap suc (more r)

pub recorded_new : (x : Label) (ls : List Label) → is_label x.name.bytes ls ≡ false → length (recorded x ls) ≡ suc (length ls)
unfolding is_label recorded
recorded_new x [] e = refl
recorded_new x (l ∷ ls) e = by (same l.name.bytes x.name.bytes) e (recorded_new x ls)
  where
    by : (c : Bool) → c || is_label x.name.bytes ls ≡ false → (is_label x.name.bytes ls ≡ false → length (recorded x ls) ≡ suc (length ls))
        → length {A = Label} (elim c [ true ↦ x ∷ ls | false ↦ l ∷ recorded x ls ]) ≡ suc (suc (length ls))
    by true r more = absurd (true≢false r)
    by false r more = ap suc (more r)

pub recorded_each : (P : Label → Type 0) (x : Label) (ls : List Label) → P x → Each P ls → Each P (recorded x ls)
unfolding recorded
recorded_each P x [] g h = (g, tt)
recorded_each P x (l ∷ ls) g h = by (same l.name.bytes x.name.bytes) (recorded_each P x ls g h.1)
  where
    by : (c : Bool) → Each P (recorded x ls) → Each P (elim c [ true ↦ x ∷ ls | false ↦ l ∷ recorded x ls ])
    by true more = (g, h.1)
    by false more = (h.0, more)

-- ---- items

-- one more behind the others
consecutive_more : (n : ℕ) (xs : List ItemLine) (x : ItemLine) (m : ℕ) → Consecutive n xs m → x.offset ≡ 4 * m
    → Consecutive n (xs ++ x ∷ []) (m + reserved_words x.item x.source.bytes)
consecutive_more n [] x m g h = (rw g h, rw g refl)
consecutive_more n (y ∷ xs) x m g h = (g.0, consecutive_more (n + reserved_words y.item y.source.bytes) xs x m g.1 h)

-- those behind the first
pub consecutive_next : (n n' : ℕ) (x : ItemLine) (xs : List ItemLine) (m : ℕ) → n' ≡ n + reserved_words x.item x.source.bytes
    → Consecutive n (x ∷ xs) m → Consecutive n' xs m
consecutive_next n n' x xs m e g = subst (λ (k : ℕ). Consecutive k xs m) (sym e) g.1

pub consecutive_up : (n : ℕ) (xs : List ItemLine) (m : ℕ) → Consecutive n xs m → n ≤ m
consecutive_up n [] m g = omega (arith, g)
consecutive_up n (x ∷ xs) m g = omega (arith, consecutive_up (n + reserved_words x.item x.source.bytes) xs m g.1)

-- ---- data

-- a write has as many bytes as it takes
pub write-length : (p : ℕ) (w : Write) → length (write_bytes p w) ≡ write_size p w
write-length p (bytes bs) = refl
write-length p (gap r) = length-replicate (place_after p r - p) 0
write-length p (address_of name) = refl

-- the data after a write
abbrev pub Grown : Room → Write → List ℕ → List ℕ → Type 0
Grown k w bs next = (length next ≡ length bs + write_size (length bs) w) × (length next ≤ k.bytes)

-- the label words among n bytes
abbrev pub LabelWordsFit : List ℕ → ℕ → List LabelWord → Type 0
LabelWordsFit t n ws = (length ws ≤ label_word_limit) × Each (LabelWordFits t n) ws

-- more bytes, within the room
pub grow_data_fits : (k : Room) (w : Write) (bs : List ℕ) → Gives (Grown k w bs) (grow_data k w bs)
unfolding grow_data
grow_data_fits k w bs = by (leb (length bs + write_size (length bs) w) k.bytes) refl
  where
    by : (c : Bool) → leb (length bs + write_size (length bs) w) k.bytes ≡ c
        → Gives {R = ℕ} (Grown k w bs) (elim c [ true ↦ Ok (bs ++ write_bytes (length bs) w) | false ↦ Err 42 ])
    by true q =
        let e : length (bs ++ write_bytes (length bs) w) ≡ length bs + write_size (length bs) w =
        omega (arith, length-append bs (write_bytes (length bs) w), write-length (length bs) w) in
        (e, rw e (leb-true _ _ q))
    by false q = tt

-- of n bytes, of which a write takes those from p on
pub add_label_word_fits : (t : List ℕ) (line p n : ℕ) (w : Write) (ws : List LabelWord) → line < length t → p + write_size p w ≤ n
    → LabelWordsFit t n ws → Gives (LabelWordsFit t n) (add_label_word line p w ws)
unfolding add_label_word
add_label_word_fits t line p n (bytes bs) ws h i g = g
add_label_word_fits t line p n (gap r) ws h i g = g
add_label_word_fits t line p n (address_of name) ws h i g = by (ltb (length ws) label_word_limit) refl
  where
    x : LabelWord
    x = record { at = p; name = name; line = line }

    by : (c : Bool) → ltb (length ws) label_word_limit ≡ c
        → Gives {R = ℕ} (LabelWordsFit t n) (elim c [ true ↦ Ok (ws ++ x ∷ []) | false ↦ Err 47 ])
    by true q = (
      rw (length-append ws (x ∷ [])) (omega (arith, ltb-true)),
      each_append (LabelWordFits t n) ws (x ∷ []) g.1 (record { place = i; line = h }, tt),
    )
    by false q = tt

-- among more bytes too
pub label_words_more : (t : List ℕ) (n m : ℕ) (ws : List LabelWord) → n ≤ m → LabelWordsFit t n ws → LabelWordsFit t m ws
label_words_more t n m ws h g =
    (g.0, each_weaker (LabelWordFits t n) (LabelWordFits t m) (λ x q. record { place = omega (arith, q.place); line = q.line }) ws g.1)

-- ---- bss

pub grow_bss_fits : (n : ℕ) → Gives (λ m. m ≤ bss_limit) (grow_bss n)
unfolding grow_bss
grow_bss_fits n = by (leb n bss_limit) refl
  where
    by : (c : Bool) → leb n bss_limit ≡ c → Gives {R = ℕ} (λ m. m ≤ bss_limit) (elim c [ true ↦ Ok n | false ↦ Err 43 ])
    by true q = leb-true _ _ q
    by false q = tt

pub bss_line_fits : (r : Result Reservation ℕ) (p : ℕ) → Gives (λ m. m ≤ bss_limit) (bss_line r p)
unfolding bss_line
bss_line_fits (Ok x) p = grow_bss_fits (place_after p x)
bss_line_fits (Err n) p = tt

module _ (t : List ℕ) (k : Room) where
  -- ---- each part's step

  pub add_label_fits : (x : Label) (ls : List Label) → LabelFits t x → LabelsFit t k ls → Gives (LabelsFit t k) (add_label k x ls)
  unfolding add_label
  add_label_fits x ls g f = by (is_label x.name.bytes ls) (ltb (length ls) k.labels) refl refl
    where
      more : length (recorded x ls) ≤ k.labels → LabelsFit t k (recorded x ls)
      more few = record { few = few; each = recorded_each (LabelFits t) x ls g f.each }

      by : (a b : Bool) → is_label x.name.bytes ls ≡ a → ltb (length ls) k.labels ≡ b
          → Gives {R = ℕ} (LabelsFit t k) (elim (a || b) [ true ↦ Ok (recorded x ls) | false ↦ Err 45 ])
      by true b p q = more (rw (recorded_known x ls p) f.few)
      by false true p q = more (rw (recorded_new x ls p) (ltb-true _ _ q))
      by false false p q = tt

  pub add_equate_fits : (x : Equate) (es : List Equate) → EquateFits t x → EquatesFit t k es → Gives (EquatesFit t k) (add_equate k x es)
  unfolding add_equate
  add_equate_fits x es g f = by (ltb (length es) k.equates) refl
    where
      by : (c : Bool) → ltb (length es) k.equates ≡ c
          → Gives {R = ℕ} (EquatesFit t k) (elim c [ true ↦ Ok (es ++ x ∷ []) | false ↦ Err 46 ])
      by true q =
          record { few = rw (length-append es (x ∷ [])) (omega (arith, ltb-true)); each = each_append (EquateFits t) es (x ∷ []) f.each (g, tt) }
      by false q = tt

  -- ---- at a line of the text

  module _ (line : ℕ) (h : line < length t) where
    pub label_step_fits : (place : Place) (l : Option Piece) (ls : List Label) → PlaceFits place → LabelInside t l → LabelsFit t k ls
        → Gives (LabelsFit t k) (label_step k place line l ls)
    unfolding label_step
    label_step_fits place None ls i g f = f
    label_step_fits place (Some name) ls i g f = add_label_fits _ ls (record { name = g; place = i; line = h }) f

    pub data_write_fits : (w : Write) (σ : Stored) → StoredFits t k σ → Gives (StoredFits t k) (data_write k line w σ)
    unfolding data_write
    data_write_fits w σ f =
        let p : ℕ = length σ.bytes in
        and_then_gives (Grown k w σ.bytes) (StoredFits t k) (grow_data k w σ.bytes) _ (grow_data_fits k w σ.bytes) (λ bs g.
        mapped_gives (LabelWordsFit t (length bs)) (StoredFits t k) _ (add_label_word line p w σ.label_words)
        (λ ws i. record { room = g.1; few = i.0; each = i.1 })
        (add_label_word_fits t line p (length bs) w σ.label_words h (omega (arith, g.0))
        (label_words_more t p (length bs) σ.label_words (omega (arith, g.0)) (f.few, f.each))))

    pub data_line_fits : (rs : List (Result Write ℕ)) (σ : Stored) → StoredFits t k σ → Gives (StoredFits t k) (data_line k line rs σ)
    unfolding data_line
    data_line_fits [] σ f = f
    data_line_fits (Ok w ∷ rs) σ f = and_then_gives _ _ (data_write k line w σ) (data_line k line rs) (data_write_fits w σ f) (data_line_fits rs)
    data_line_fits (Err n ∷ rs) σ f = tt

  pub enters_fits : (s : Section) (σ : Own) → OwnFits t k σ → OwnFits t k (in_section s σ)
  enters_fits s σ f = record { items = f.items; stored = f.stored; bss = f.bss }

  -- ---- in a room within the limits

  module _ (few_words : k.words ≤ word_limit) (line : ℕ) (h : line < length t) where
    pub add_item_fits : (kind : Option Pseudo) (p : Piece) (σ : Items) → Inside t p → ItemsFit t k σ
        → Gives (ItemsFit t k) (add_item k line kind p σ)
    unfolding add_item
    add_item_fits kind p σ g f = by (ltb (length σ.list) k.items) (leb (σ.words + n) k.words) refl refl
      where
        n : ℕ
        n = reserved_words kind p.bytes

        x : ItemLine
        x = record { offset = 4 * σ.words; line = line; item = kind; source = p }

        by : (a b : Bool) → ltb (length σ.list) k.items ≡ a → leb (σ.words + n) k.words ≡ b
            → Gives {R = ℕ} (ItemsFit t k) (elim a [
              | true ↦ elim b [ true ↦ Ok (record { list = σ.list ++ x ∷ []; words = σ.words + n }) | false ↦ Err 44 ]
              | false ↦ Err 48
            ])
        by true true q r =
            let room : σ.words + n ≤ k.words = leb-true _ _ r in
            record {
              room = room;
              consecutive = consecutive_more 0 σ.list x σ.words f.consecutive refl;
              few = rw (length-append σ.list (x ∷ [])) (omega (arith, ltb-true));
              each = each_append (ItemFits t) σ.list (x ∷ []) f.each (record { source = g; place = omega (arith, room); line = h }, tt);
            }
        by true false q r = tt
        by false b q r = tt

    pub text_line_fits : (p : Piece) (i : Item) (σ : Items) → Inside t p → ItemsFit t k σ → Gives (ItemsFit t k) (text_line k line p i σ)
    unfolding text_line
    text_line_fits p other σ g f = tt
    text_line_fits p ordinary σ g f = add_item_fits None p σ g f
    text_line_fits p (pseudo q) σ g f = add_item_fits (Some q) p σ g f

  module _ (few_words : k.words ≤ word_limit) (few_bytes : k.bytes ≤ data_limit) where
    -- a place that has been reached is within its section
    pub here_fits : (σ : Own) → OwnFits t k σ → PlaceFits (here σ)
    here_fits σ f = by σ.section
      where
        by : (s : Section) → offset_in s σ ≤ section_limit s
        by section.Text = omega (arith, f.items.room)
        by section.Data = omega (arith, f.stored.room)
        by section.Bss = f.bss

    module _ (line : ℕ) (h : line < length t) where
      pub own_line_fits : (s : OwnStatement) (σ : Own) → OwnInside t s → OwnFits t k σ → Gives (OwnFits t k) (own_line k line s σ)
      unfolding own_line
      own_line_fits s σ g f = by s g
        where
          in_data : (rs : List (Result Write ℕ)) → Gives (OwnFits t k) (mapped (with_stored σ) (data_line k line rs σ.stored))
          in_data rs =
              mapped_gives (StoredFits t k) (OwnFits t k) (with_stored σ) (data_line k line rs σ.stored)
              (λ x i. record { items = f.items; stored = i; bss = f.bss }) (data_line_fits line h rs σ.stored f.stored)

          by : (s : OwnStatement) → OwnInside t s → Gives (OwnFits t k) (own_line k line s σ)
          by (item p) g =
              mapped_gives (ItemsFit t k) (OwnFits t k) (with_items σ) (text_line k line p (item_of p.bytes) σ.items)
              (λ x i. record { items = i; stored = f.stored; bss = f.bss })
              (text_line_fits few_words line h p (item_of p.bytes) σ.items g f.items)
          by (stores x p) g = in_data (store_writes x p.bytes)
          by (string zeros p) g = in_data (string_write zeros (string_bytes p.bytes) ∷ [])
          by (reserves x p) g = in_data (mapped gap (reservation x (imm_of p.bytes)) ∷ [])
          by (reserves_bss x p) g =
              let r = reservation x (imm_of p.bytes) in
              mapped_gives (λ m. m ≤ bss_limit) (OwnFits t k) (with_bss σ) (bss_line r σ.bss)
              (λ x i. record { items = f.items; stored = f.stored; bss = i }) (bss_line_fits r σ.bss)

      pub statement_fits : (s : Statement) (σ : Rest) → StatementInside t s → RestFits t k σ → Gives (RestFits t k) (statement_step k line s σ)
      unfolding statement_step
      statement_fits nothing σ g f = f
      statement_fits (enters s) σ g f = record { equates = f.equates; own = enters_fits s σ.own f.own }
      statement_fits (equate name e) σ g f =
          let x : Equate = record { name = name; expr = e; place = here σ.own; line = line } in
          mapped_gives (EquatesFit t k) (RestFits t k) (with_equates σ) (add_equate k x σ.equates) (λ es i. record { equates = i; own = f.own })
          (add_equate_fits x σ.equates (record { name = g.0; source = g.1; place = here_fits σ.own f.own; line = h }) f.equates)
      statement_fits (own s) σ g f =
          mapped_gives (OwnFits t k) (RestFits t k) (with_own σ) (own_line k line s σ.own) (λ x i. record { equates = f.equates; own = i })
          (own_line_fits s σ.own g f.own)

      pub step_parsed_fits : (l : Line) (σ : State) → LineInside t l → Fits t k σ → Gives (Fits t k) (step_parsed k line l σ)
      unfolding step_parsed
      step_parsed_fits l σ g f =
          let place = here σ.rest.own in
          let said = and_then_gives (StatementInside t) (RestFits t k) l.says (λ s. statement_step k line s σ.rest) g.says
          (λ s i. statement_fits s σ.rest i f.rest) in
          and_then_gives (LabelsFit t k) (Fits t k) (label_step k place line l.label σ.labels)
          (λ ls. mapped (with_rest ls) (and_then l.says (λ s. statement_step k line s σ.rest)))
          (label_step_fits line h place l.label σ.labels (here_fits σ.rest.own f.rest.own) g.label f.labels) (λ ls i.
          mapped_gives (RestFits t k) (Fits t k) (with_rest ls) (and_then l.says (λ s. statement_step k line s σ.rest))
          (λ x j. record { labels = i; rest = j }) said)

      pub step_line_fits : (p : Piece) (σ : State) → Inside t p → Fits t k σ → Gives (Fits t k) (step_line k line p σ)
      step_line_fits p σ g = step_parsed_fits (line_of σ.rest.own.section p) σ (line_inside t σ.rest.own.section p g)

    -- all lines from one on
    pub lines_fit : (line : ℕ) (ps : List Piece) (σ : State) → line + length ps ≤ length t → Each (Inside t) ps → Fits t k σ
        → Comes (Fits t k) (λ r. r.line < length t) (line_stage k line ps σ)
    unfolding line_stage
    lines_fit line [] σ h g f = f
    lines_fit line (p ∷ ps) σ h g f =
        let here : line < length t = omega (arith, h) in
        and_then_comes (Fits t k) (Fits t k) (λ r. r.line < length t) (at_line line (step_line k line p σ)) (line_stage k (suc line) ps)
        (at_line_comes (Fits t k) (λ l. l < length t) line (step_line k line p σ) here (step_line_fits line here p σ g.0 f))
        (λ τ. lines_fit (suc line) ps τ (omega (arith, h)) g.1)

-- ---- the whole stage

pub start_fits : (t : List ℕ) (k : Room) → Fits t k start
start_fits t k =
    record {
      labels = record { few = omega arith; each = tt };
      rest = record {
        equates = record { few = omega arith; each = tt };
        own = record {
          items = record { room = omega arith; consecutive = refl; few = omega arith; each = tt };
          stored = record { room = omega arith; few = omega arith; each = tt };
          bss = omega arith;
        };
      };
    }

-- a text has no more lines than bytes
pub lines_few : (t : List ℕ) → length (lines t) ≤ length t
unfolding lines
lines_few [] = omega arith
lines_few (b ∷ bs) = by (eqb b 10) (lines bs) (lines_few bs)
  where
    by : (c : Bool) (ls : List (List ℕ)) → length ls ≤ length bs → length (cond c ([] ∷ ls) (cons_first b ls)) ≤ suc (length bs)
    by true ls h = omega arith
    by false [] h = omega arith
    by false (l ∷ ls) h = omega arith

pub pieces_length : (at : ℕ) (ls : List (List ℕ)) → length (line_pieces at ls) ≡ length ls
unfolding line_pieces
pieces_length at [] = refl
pieces_length at (l ∷ ls) = ap suc (pieces_length (suc (at + length l)) ls)

-- in what a caller lends: what the stage leaves fits, and a refusal names a line of the text
pub stage_fits : (t : List ℕ) (k : Lent)
    → Comes (Fits t (room_of k)) (λ r. r.line < length t) (line_stage (room_of k) 0 (line_pieces 0 (lines t)) start)
stage_fits t k =
    lines_fit t (room_of k) (omega arith) (omega arith) 0 (line_pieces 0 (lines t)) start
    (omega (arith, pieces_length 0 (lines t), lines_few t)) (lines_inside t) (start_fits t (room_of k))
