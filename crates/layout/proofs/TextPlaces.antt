-- Places of the text section: what is reached at a line, a label or an equate's `.`, stands behind the words that the items above that line reserve; so
-- in an accepted layout it is the address of the first word at its line or below it.
use Prim.Native.Nat.{ℕ, suc, ◌+◌, ◌*◌, ◌≤◌, ◌<◌}
use mathlib.Core.Path.{◌≡◌, refl, sym, ◌∙◌, ap, subst}
use mathlib.Core.List.{List, [], ◌∷◌, ◌++◌}
use mathlib.Core.Bool.{Bool, true, false, ◌||◌}
use Rattle.std.proofs.Common.{Option, None, Some}
use native.Mathlib.Nat.{zero-add}
use native.Mathlib.Omega.{arith}
use lib.Dec.{ltb, leb}
use lib.IntN.{ℤ}
use lib.ListN.{length}
use borrow.Author.Tests.{lt-ltb, le-ltb}
use Rattle.std.proofs.Common.{Result, Ok, Err}
use Rattle.numbers.specs.Results.{and_then, mapped}
use Rattle.numbers.specs.Numbers.{imm_of}
use Rattle.numbers.specs.Strings.{string_bytes}
use Rattle.layout.specs.declared.state.Section.{Section}
use Rattle.layout.specs.declared.state.Section.TheVariants as section
use Rattle.layout.specs.declared.state.Place.{Place}
use Rattle.layout.specs.declared.limits.Room.{Room}
use Rattle.layout.specs.declared.pseudo.Pseudo.{Pseudo}
use Rattle.layout.specs.Refusals.{at_line, is_in, line_numbers}
use Rattle.layout.specs.Limits.{data_limit, word_limit, Lent, room_of}
use Rattle.layout.specs.Pieces.{Piece, lines, line_pieces}
use Rattle.layout.specs.Directives.{Write, gap, reservation, string_write, store_writes}
use Rattle.layout.specs.Statements.{OwnStatement, item, stores, string, reserves, reserves_bss}
use Rattle.layout.specs.Statements.{Statement, nothing, enters, equate, own, line_of}
use Rattle.layout.specs.Pseudos.{Item, ordinary, pseudo, other, item_of, reserved_words}
use Rattle.layout.specs.State.{Label, Equate, ItemLine, Items, Own, Rest, State, start, offset_in, here}
use Rattle.layout.specs.Stage.{is_label, recorded, add_label, label_step, add_equate, add_item, text_line, data_line, bss_line}
use Rattle.layout.specs.Stage.{with_items, with_stored, with_bss, with_equates, with_own, with_rest, own_line, statement_step, step_parsed, step_line, line_stage}
use Rattle.layout.specs.Addresses.{section_start, address_at}
use Rattle.layout.specs.Layouts.{ItemAt, Layout, Emitted}
use Rattle.layout.specs.Demands.{word_from}
use Rattle.layout.specs.Code.Fits.{Each, Inside, Consecutive, Fits}
use Rattle.layout.proofs.Each.{each_append, each_weaker, test_has}
use Rattle.layout.proofs.Gives.{Comes, Gives, gives_any, and_then_gives, mapped_gives}
use Rattle.layout.proofs.Inside.{lines_inside}
use Rattle.layout.proofs.Kept.{recorded_each, step_line_fits, start_fits, lines_few, pieces_length}
use Rattle.layout.proofs.StageOrder.{ItemBelow, Laid, step_laid, start_laid}
use Rattle.layout.proofs.Emissions.{emission-sized}
use Rattle.layout.proofs.ItemsHold.{Emission, no_item, an_item, EmittedAs, behind}

-- ---- the words above a line

unfoldable pub words_above : ℕ → List ItemLine → ℕ
words_above line [] = 0
words_above line (x ∷ xs) = elim (ltb x.line line) [ true ↦ reserved_words x.item x.source.bytes + words_above line xs | false ↦ 0 ]

-- an item at that line or below it is not among them
above_more : (line : ℕ) (xs : List ItemLine) (x : ItemLine) → line ≤ x.line → words_above line (xs ++ x ∷ []) ≡ words_above line xs
unfolding words_above
above_more line [] x h = rw (words_above, le-ltb x.line line h) refl
above_more line (y ∷ ys) x h = by (ltb y.line line) (above_more line ys x h)
  where
    n : ℕ
    n = reserved_words y.item y.source.bytes

    by : (c : Bool) → words_above line (ys ++ x ∷ []) ≡ words_above line ys
        → ◌≡◌ {A = ℕ} (elim c [ true ↦ n + words_above line (ys ++ x ∷ []) | false ↦ 0 ]) (elim c [ true ↦ n + words_above line ys | false ↦ 0 ])
    by true e = ap (λ (m : ℕ). n + m) e
    by false e = refl

-- where all items are above it: all words
above_all : (line n m : ℕ) (xs : List ItemLine) → Each (ItemBelow line) xs → Consecutive n xs m → n + words_above line xs ≡ m
unfolding words_above
above_all line n m [] b g = omega (arith, g)
above_all line n m (x ∷ xs) b g = rw (words_above, lt-ltb x.line line b.0) (omega (arith, above_all line (n + reserved_words x.item x.source.bytes) m xs b.1 g.1))

-- ---- what the lines reach

-- a place that one of the first m lines reached: in text, behind the words above that line
abbrev pub Reached : ℕ → List ItemLine → ℕ → Place → Type 0
Reached m xs line p = (line < m) × (p.section ≡ section.Text → p.offset ≡ 4 * words_above line xs)

abbrev pub LabelsReached : ℕ → List ItemLine → List Label → Type 0
LabelsReached m xs ls = Each (λ (x : Label). Reached m xs x.line x.place) ls

abbrev pub EquatesReached : ℕ → List ItemLine → List Equate → Type 0
EquatesReached m xs es = Each (λ (e : Equate). Reached m xs e.line e.place) es

-- what is above a line up to this one stays
abbrev Stays : ℕ → List ItemLine → List ItemLine → Type 0
Stays line xs ys = (n : ℕ) → n ≤ line → words_above n ys ≡ words_above n xs

stays_same : (line : ℕ) (xs : List ItemLine) → Stays line xs xs
stays_same line xs n h = refl

still_reached : (line m : ℕ) (xs ys : List ItemLine) → m ≤ suc line → Stays line xs ys → (n : ℕ) (p : Place) → Reached m xs n p
    → Reached (suc line) ys n p
still_reached line m xs ys h s n p r = (omega (arith, r.0), λ e. r.1 e ∙ ap (λ (k : ℕ). 4 * k) (sym (s n (omega (arith, r.0)))))

module _ (k : Room) (line : ℕ) where
  here_reached : (σ : Own) → Each (ItemBelow line) σ.items.list → Consecutive 0 σ.items.list σ.items.words
      → Reached (suc line) σ.items.list line (here σ)
  here_reached σ b g = (
    omega arith,
    λ e. subst (λ (s : Section). offset_in s σ ≡ 4 * words_above line σ.items.list) (sym e)
        (omega (arith, above_all line 0 σ.items.words σ.items.list b g)),
  )

  abbrev OwnStays : Own → Own → Type 0
  OwnStays σ τ = Stays line σ.items.list τ.items.list

  item_stays : (o : Option Pseudo) (p : Piece) (σ : Items) → Gives (λ τ. Stays line σ.list τ.list) (add_item k line o p σ)
  unfolding add_item
  item_stays o p σ =
      let P : Result Items ℕ → Type 0 = Gives (λ τ. Stays line σ.list τ.list) in
      test_has P (ltb (length σ.list) k.items) _ _
      (test_has P (leb (σ.words + reserved_words o p.bytes) k.words) _ _ (λ n h. above_more n σ.list _ h) tt) tt

  text_stays : (p : Piece) (i : Item) (σ : Items) → Gives (λ τ. Stays line σ.list τ.list) (text_line k line p i σ)
  unfolding text_line
  text_stays p other σ = tt
  text_stays p ordinary σ = item_stays None p σ
  text_stays p (pseudo q) σ = item_stays (Some q) p σ

  -- what writes elsewhere leaves the items
  elsewhere : {A : Type 0} (σ : Own) (f : A → Own) → ((a : A) → OwnStays σ (f a)) → (x : Result A ℕ) → Gives (OwnStays σ) (mapped f x)
  elsewhere σ f h (Ok a) = h a
  elsewhere σ f h (Err n) = tt

  in_data : (rs : List (Result Write ℕ)) (σ : Own) → Gives (OwnStays σ) (mapped (with_stored σ) (data_line k line rs σ.stored))
  in_data rs σ = elsewhere σ (with_stored σ) (λ x. stays_same line σ.items.list) (data_line k line rs σ.stored)

  own_stays : (s : OwnStatement) (σ : Own) → Gives (OwnStays σ) (own_line k line s σ)
  unfolding own_line
  own_stays (item p) σ =
      mapped_gives (λ x. Stays line σ.items.list x.list) (OwnStays σ) (with_items σ) (text_line k line p (item_of p.bytes) σ.items) (λ x h. h)
      (text_stays p (item_of p.bytes) σ.items)
  own_stays (stores x p) σ = in_data (store_writes x p.bytes) σ
  own_stays (string zeros p) σ = in_data (string_write zeros (string_bytes p.bytes) ∷ []) σ
  own_stays (reserves x p) σ = in_data (mapped gap (reservation x (imm_of p.bytes)) ∷ []) σ
  own_stays (reserves_bss x p) σ =
      elsewhere σ (with_bss σ) (λ n. stays_same line σ.items.list) (bss_line (reservation x (imm_of p.bytes)) σ.bss)

  statement_reached : (s : Statement) (σ : Rest) → Reached (suc line) σ.own.items.list line (here σ.own)
      → EquatesReached line σ.own.items.list σ.equates
      → Gives (λ ρ. OwnStays σ.own ρ.own × EquatesReached (suc line) ρ.own.items.list ρ.equates) (statement_step k line s σ)
  unfolding statement_step add_equate
  statement_reached s σ g r = by s
    where
      xs : List ItemLine
      xs = σ.own.items.list

      same : Stays line xs xs
      same = stays_same line xs

      on : (ys : List ItemLine) → Stays line xs ys → EquatesReached (suc line) ys σ.equates
      on ys h = each_weaker _ _ (λ e. still_reached line line xs ys (omega arith) h e.line e.place) σ.equates r

      by : (s : Statement)
          → Gives (λ ρ. OwnStays σ.own ρ.own × EquatesReached (suc line) ρ.own.items.list ρ.equates) (statement_step k line s σ)
      by nothing = (same, on xs same)
      by (enters s) = (same, on xs same)
      by (equate name e) =
          let x : Equate = record { name = name; expr = e; place = here σ.own; line = line } in
          mapped_gives (EquatesReached (suc line) xs) _ (with_equates σ) (add_equate k x σ.equates) (λ es h. (same, h))
          (test_has (Gives (EquatesReached (suc line) xs)) (ltb (length σ.equates) k.equates) (Ok (σ.equates ++ x ∷ [])) (Err 46)
          (each_append _ σ.equates (x ∷ []) (on xs same) (g, tt)) tt)
      by (own s) =
          mapped_gives (OwnStays σ.own) _ (with_own σ) (own_line k line s σ.own) (λ τ h. (h, on τ.items.list h)) (own_stays s σ.own)

  label_reached : (o : Option Piece) (σ : State) → Reached (suc line) σ.rest.own.items.list line (here σ.rest.own)
      → LabelsReached line σ.rest.own.items.list σ.labels
      → Gives (LabelsReached (suc line) σ.rest.own.items.list) (label_step k (here σ.rest.own) line o σ.labels)
  unfolding label_step add_label
  label_reached o σ g r = by o
    where
      xs : List ItemLine
      xs = σ.rest.own.items.list

      on : LabelsReached (suc line) xs σ.labels
      on = each_weaker _ _ (λ x. still_reached line line xs xs (omega arith) (stays_same line xs) x.line x.place) σ.labels r

      by : (o : Option Piece) → Gives (LabelsReached (suc line) xs) (label_step k (here σ.rest.own) line o σ.labels)
      by None = on
      by (Some name) =
          let x : Label = record { name = name; place = here σ.rest.own; line = line } in
          test_has (Gives (LabelsReached (suc line) xs)) (is_label name.bytes σ.labels || ltb (length σ.labels) k.labels)
          (Ok (recorded x σ.labels)) (Err 45)
          (recorded_each _ x σ.labels g on) tt

-- all that the first m lines reached
pub record PlacesReached (m : ℕ) (σ : State) : Type 0 where
  pub labels : LabelsReached m σ.rest.own.items.list σ.labels
  pub equates : EquatesReached m σ.rest.own.items.list σ.rest.equates

step_reached : (t : List ℕ) (k : Room) (line : ℕ) (p : Piece) (σ : State) → Fits t k σ → Laid line σ → PlacesReached line σ
    → Gives (PlacesReached (suc line)) (step_line k line p σ)
unfolding step_parsed
step_reached t k line p σ f g r =
    let l = line_of σ.rest.own.section p in
    let xs = σ.rest.own.items.list in
    let at = here_reached k line σ.rest.own g.rest.item_lines f.rest.own.items.consecutive in
    and_then_gives (LabelsReached (suc line) xs) (PlacesReached (suc line)) (label_step k (here σ.rest.own) line l.label σ.labels)
    (λ ls. mapped (with_rest ls) (and_then l.says (λ s. statement_step k line s σ.rest)))
    (label_reached k line l.label σ at r.labels) (λ ls h.
    mapped_gives (λ ρ. OwnStays k line σ.rest.own ρ.own × EquatesReached (suc line) ρ.own.items.list ρ.equates)
    (PlacesReached (suc line)) (with_rest ls) (and_then l.says (λ s. statement_step k line s σ.rest))
    (λ ρ i. record {
      labels = each_weaker _ _ (λ x. still_reached line (suc line) xs ρ.own.items.list (omega arith) i.0 x.line x.place) ls h;
      equates = i.1;
    })
    (and_then_gives (λ _. Unit) _ l.says (λ s. statement_step k line s σ.rest) (gives_any l.says)
    (λ s u. statement_reached k line s σ.rest at r.equates)))

-- what the lines leave: it fits, it is laid, and it is reached
module _ (t : List ℕ) (k : Room) (few_words : k.words ≤ word_limit) (few_bytes : k.bytes ≤ data_limit) where
  lines_reached : (line : ℕ) (ps : List Piece) (σ : State) → line + length ps ≤ length t → Each (Inside t) ps → Fits t k σ → Laid line σ
      → PlacesReached line σ → Gives (PlacesReached (line + length ps)) (line_stage k line ps σ)
  unfolding line_stage
  lines_reached line [] σ h i f g r = let e : line + 0 ≡ line = omega arith in rw e r
  lines_reached line (p ∷ ps) σ h i f g r =
      let e : line + suc (length ps) ≡ suc line + length ps = omega arith in
      rw e (by (step_line k line p σ) (step_line_fits t k few_words few_bytes line (omega (arith, h)) p σ i.0 f) (step_laid k line p σ g)
      (step_reached t k line p σ f g r) (λ τ. lines_reached (suc line) ps τ (omega (arith, h)) i.1))
    where
      by : (x : Result State ℕ) → Gives (Fits t k) x → Comes (Laid (suc line)) (λ n. is_in line_numbers n ≡ true) x → Gives (PlacesReached (suc line)) x
          → ((τ : State) → Fits t k τ → Laid (suc line) τ → PlacesReached (suc line) τ
          → Gives (PlacesReached (suc line + length ps)) (line_stage k (suc line) ps τ))
          → Gives (PlacesReached (suc line + length ps)) (and_then (at_line line x) (line_stage k (suc line) ps))
      by (Ok τ) f g r more = more τ f g r
      by (Err n) f g r more = tt

-- all that the lines reached
pub stage_reached : (t : List ℕ) (k : Lent) → Gives (PlacesReached (length (lines t))) (line_stage (room_of k) 0 (line_pieces 0 (lines t)) start)
stage_reached t k =
    rw (pieces_length 0 (lines t), zero-add (length (lines t))) at
    (lines_reached t (room_of k) (omega arith) (omega arith) 0 (line_pieces 0 (lines t)) start
    (omega (arith, pieces_length 0 (lines t), lines_few t)) (lines_inside t) (start_fits t (room_of k)) start_laid (record { labels = tt; equates = tt }))

-- ---- in an accepted layout

module _ (const : List ℕ → Option ℤ) (label : List ℕ → Option ℕ) (base : ℕ) (l : Layout) (line : ℕ) where
  -- the first word at a line or below it stands behind those above it
  word_from_lem : {xs : List ItemLine} {n : ℕ} {ws : List ℕ} {is : List ItemAt} (m : ℕ) → Emission const label base xs n ws is → Consecutive n xs m
      → length l.words ≡ m → word_from line l is ≡ n + words_above line xs
  unfolding word_from words_above
  word_from_lem m no_item g e = omega (arith, g, e)
  word_from_lem {n = n} m (an_item {x = x} {xs = xs} {is = is} vs q r) g e =
      by (ltb x.line line) (word_from_lem m r (behind const label base x xs n m vs q g) e)
    where
      by : (c : Bool) → word_from line l is ≡ n + length vs + words_above line xs
          → ◌≡◌ {A = ℕ} (elim c [ true ↦ word_from line l is | false ↦ n ])
          (n + elim c [ true ↦ reserved_words x.item x.source.bytes + words_above line xs | false ↦ 0 ])
      by true h = omega (arith, h, emission-sized const label x.item x.source.bytes vs q)
      by false h = omega arith

  pub words_above_lem : (σ : Items) (x : Emitted) → length l.words ≡ σ.words → EmittedAs const label base σ.list [] [] x
      → Consecutive 0 σ.list σ.words → word_from line l x.items ≡ words_above line σ.list
  words_above_lem σ x e r g = ap (word_from line l) r.all_items ∙ word_from_lem σ.words r.emits g e ∙ zero-add (words_above line σ.list)

-- so what is reached there is that word's address
pub text_address : (base : ℕ) (σ : State) (m line : ℕ) (p : Place) (n : ℕ) → Reached m σ.rest.own.items.list line p
    → n ≡ words_above line σ.rest.own.items.list → p.section ≡ section.Text → address_at base σ p ≡ base + 4 * n
text_address base σ m line p n r e q =
    ap (λ (s : Section). section_start base σ s + p.offset) q ∙ omega (arith, r.1 q, e)
