-- What the line stage leaves besides what Kept.antt says: labels of different names, label words side by side, equates at rising lines, every
-- recorded line a line of the text; and which numbers it can refuse by, at a line of the text.
use Prim.Native.Nat.{ℕ, suc, ◌+◌, ◌≤◌, ◌<◌}
use mathlib.Core.Path.{◌≡◌, refl, sym, ◌∙◌, ap}
use mathlib.Core.List.{List, [], ◌∷◌, ◌++◌, map}
use mathlib.Core.Bool.{Bool, true, false, ◌||◌, true≢false}
use Rattle.std.proofs.Common.{Option, None, Some}
use native.Mathlib.Nat.{zero-add}
use native.Mathlib.Omega.{arith}
use lib.Dec.{ltb, leb, eqb}
use lib.IntN.{ℤ, pos, negsuc}
use lib.ListN.{length}
use Rattle.std.proofs.Common.{Result, Ok, Err}
use Rattle.numbers.specs.Results.{and_then, mapped}
use Rattle.numbers.specs.Text.{text, byte, trimmed, starts_with, same}
use Rattle.numbers.specs.Numbers.{imm_of}
use Rattle.numbers.specs.Operands.{operands}
use Rattle.numbers.specs.Literals.{string_of}
use Rattle.numbers.specs.Strings.{string_bytes}
use Rattle.numbers.proofs.Bools.{or_left, or_right}
use Rattle.numbers.proofs.Prefixes.{same_equal, same_refl}
use Rattle.layout.specs.declared.state.Section.{Section}
use Rattle.layout.specs.declared.state.Section.TheVariants as section
use Rattle.layout.specs.declared.state.Place.{Place}
use Rattle.layout.specs.declared.limits.Room.{Room}
use Rattle.layout.specs.declared.pseudo.Pseudo.{Pseudo}
use Rattle.layout.specs.declared.directives.Width.{Width}
use Rattle.layout.specs.declared.directives.Width.TheVariants.{Byte, Half, Word, Dword}
use Rattle.layout.specs.declared.directives.Reserve.{Reserve}
use Rattle.layout.specs.declared.directives.Reserve.TheVariants.{Space, Align}
use Rattle.layout.specs.declared.directives.Store.{Store}
use Rattle.layout.specs.declared.directives.Store.TheVariants.{Numbers, Text, Float}
use Rattle.layout.specs.declared.directives.Directive.{Directive}
use Rattle.layout.specs.declared.directives.Directive.TheVariants as directive
use Rattle.layout.specs.declared.directives.Reservation.{Reservation}
use Rattle.layout.specs.Bytes.{is_one_of}
use Rattle.layout.specs.Refusals.{Refusal, at_line, is_in, line_numbers}
use Rattle.layout.specs.Limits.{bss_limit, label_word_limit}
use Rattle.layout.specs.Pieces.{Piece, trim_piece, holds, is_empty, statement_of, lines, line_pieces}
use Rattle.layout.specs.Directives.{Row, directives, row_in, place_after, reservation, Write, bytes, gap, address_of, is_label_name, range_at}
use Rattle.layout.specs.Directives.{read_at, unread, number_or_name, operand_write, string_write, store_writes}
use Rattle.layout.specs.Statements.{Expr, OwnStatement, item, stores, string, reserves, reserves_bss}
use Rattle.layout.specs.Statements.{Statement, nothing, enters, equate, own, section_named, without_dot, section_of, is_section_line}
use Rattle.layout.specs.Statements.{section_line, symbol_after, equate_of, equ_of, is_assignment, other_in, assignment_of}
use Rattle.layout.specs.Statements.{directive_in, on_row, unlabelled_of, Line, after_label, labelled, before_quote, string_in, string_or, parsed, line_of}
use Rattle.layout.specs.Pseudos.{Item, ordinary, pseudo, other, item_of, reserved_words}
use Rattle.layout.specs.State.{Label, Equate, ItemLine, LabelWord, Items, Stored, Own, Rest, State, start, here}
use Rattle.layout.specs.Stage.{is_label, recorded, add_label, label_step, add_equate, add_item, text_line, write_size, write_bytes, grow_data}
use Rattle.layout.specs.Stage.{add_label_word, data_write, data_line, grow_bss, bss_line, with_items, with_stored, with_bss, with_equates, with_own}
use Rattle.layout.specs.Stage.{with_rest, own_line, statement_step, step_parsed, step_line, line_stage}
use Rattle.layout.specs.Code.Fits.{Each}
use Rattle.layout.proofs.Each.{each_append, each_weaker, cond_has, test_has}
use Rattle.layout.proofs.Gives.{Comes, and_then_comes, mapped_comes}
use Rattle.layout.proofs.RefusalLaws.{Said, at_line_said}
use Rattle.layout.proofs.Kept.{Grown, grow_data_fits, pieces_length}

-- ---- numbers of refusals

-- one that the lines can say
abbrev OfLines : ℕ → Type 0
OfLines n = is_in line_numbers n ≡ true

-- P of the value, and a refusal of such a number
abbrev ComesSaid : {A : Type 0} → (A → Type 0) → Result A ℕ → Type 0
ComesSaid P x = Comes P OfLines x

abbrev Sound : {A : Type 0} → Result A ℕ → Type 0
Sound x = ComesSaid (λ _. Unit) x

-- ---- what a line's operands say

unread_sound : (w : Width) (s : List ℕ) → Sound (unread w s)
unread_sound Byte s = refl
unread_sound Half s = refl
unread_sound Word s = cond_has Sound (is_label_name s) _ _ tt refl
unread_sound Dword s = refl

operand_sound : (w : Width) (s : List ℕ) → Sound (operand_write w s)
operand_sound w s = by (read_at w s)
  where
    by : (o : Option ℤ) → Sound (number_or_name w o s)
    by None = unread_sound w s
    by (Some z) = cond_has Sound (range_at w z) _ _ tt refl

string_sound : (zeros : ℕ) (o : Option (List ℕ)) → Sound (string_write zeros o)
string_sound _ None = refl
string_sound _ (Some bs) = tt

store_sound : (x : Store) (s : List ℕ) → Each Sound (store_writes x s)
store_sound (Numbers w) s = by (operands s)
  where
    by : (ops : List (List ℕ)) → Each Sound (map (operand_write w) ops)
    by [] = tt
    by (op ∷ ops) = (operand_sound w op, by ops)
store_sound (Text zeros) s = (string_sound zeros (string_of s), tt)
store_sound Float s = (refl, tt)

reservation_sound : (x : Reserve) (o : Option ℤ) → Sound (reservation x o)
reservation_sound Space None = refl
reservation_sound Align None = refl
reservation_sound Space (Some (pos n)) = tt
reservation_sound Space (Some (negsuc n)) = refl
reservation_sound Align (Some (pos n)) = cond_has Sound (eqb n 0) _ _ refl tt
reservation_sound Align (Some (negsuc n)) = refl

-- ---- what a line says

section_sound : (n : List ℕ) → Sound (section_of n)
unfolding section_of section_named
section_sound n =
    cond_has Sound (eqb (length n) 0) _ _ refl (cond_has Sound (same n (text ".note.GNU-stack")) _ _ tt (by (without_dot n)))
  where
    by : (m : List ℕ) → Sound (section_named m)
    by m =
        cond_has Sound (is_one_of (text "text" ∷ []) m) _ _ tt
        (cond_has Sound (is_one_of (text "data" ∷ text "rodata" ∷ text "sdata" ∷ text "srodata" ∷ []) m) _ _ tt
        (cond_has Sound (is_one_of (text "bss" ∷ text "sbss" ∷ []) m) _ _ tt refl))

equate_sound : (name : Piece) (e : Expr) → Sound (equate_of name e)
unfolding equate_of
equate_sound name e = cond_has Sound (is_empty name || is_empty e.source) _ _ refl tt

equ_sound : (p : Piece) → Sound (equ_of p)
unfolding equ_of
equ_sound p = cond_has Sound (holds (byte ",") p) _ _ (equate_sound _ _) (equate_sound _ _)

other_sound : (s : Section) (p : Piece) → Sound (other_in s p)
other_sound section.Text p = tt
other_sound section.Data p = refl
other_sound section.Bss p = refl

assignment_sound : (s : Section) (p : Piece) → Sound (assignment_of s p)
unfolding assignment_of
assignment_sound s p = cond_has Sound (is_assignment p) _ _ (equate_sound _ _) (other_sound s p)

directive_sound : (s : Section) (d : Directive) (b : Bool) (p rest : Piece) → Sound (directive_in s d b p rest)
unfolding symbol_after
directive_sound s directive.Symbol b p rest = cond_has Sound (eqb (length (trimmed rest.bytes)) 0) _ _ refl tt
directive_sound s directive.Ignored b p rest = tt
directive_sound s directive.Equate b p rest = equ_sound (trim_piece rest)
directive_sound section.Text (directive.Reserves x) b p rest = tt
directive_sound section.Data (directive.Reserves x) b p rest = cond_has Sound b _ _ tt refl
directive_sound section.Bss (directive.Reserves x) b p rest = tt
directive_sound section.Text (directive.Stores x) b p rest = tt
directive_sound section.Data (directive.Stores x) b p rest = tt
directive_sound section.Bss (directive.Stores x) b p rest = refl

unlabelled_sound : (s : Section) (p : Piece) → Sound (unlabelled_of s p)
unfolding unlabelled_of
unlabelled_sound s p = cond_has Sound (is_empty p) _ _ tt (by (row_in directives p.bytes))
  where
    by : (o : Option Row) → Sound (on_row o s p)
    by None = assignment_sound s p
    by (Some r) = directive_sound s r.directive r.in_data p _

line_sound : (s : Section) (l : Piece) → Sound (line_of s l).says
unfolding parsed labelled section_line
line_sound s l =
    cond_has SaysSound (is_section_line p.bytes) _ _
    (cond_has Sound (starts_with (text ".section") p.bytes) _ _ (section_sound _) (section_sound p.bytes))
    (by (string_in l (unlabelled_of s (after_label (before_quote p) p))))
  where
    p : Piece
    p = statement_of l

    SaysSound : Line → Type 0
    SaysSound x = Sound x.says

    by : (o : Option OwnStatement) → SaysSound (string_or o s p)
    by None = unlabelled_sound s (after_label p p)
    by (Some x) = tt

-- ---- labels

-- no two have one name
abbrev pub Apart : List Label → Type 0
Apart [] = Unit
Apart (l ∷ ls) = (is_label l.name.bytes ls ≡ false) × Apart ls

same_swap : (a b : List ℕ) → same a b ≡ false → same b a ≡ false
same_swap a b e = by (same b a) refl
  where
    by : (c : Bool) → same b a ≡ c → same b a ≡ false
    by true q = absurd (true≢false (sym (same_refl a) ∙ ap (same a) (sym (same_equal b a q)) ∙ e))
    by false q = q

not-recorded : (n : List ℕ) (x : Label) (ls : List Label) → is_label n ls ≡ false → same x.name.bytes n ≡ false
    → is_label n (recorded x ls) ≡ false
unfolding is_label recorded
not-recorded n x [] e q = rw q refl
not-recorded n x (l ∷ ls) e q =
    by (same l.name.bytes x.name.bytes) (not-recorded n x ls (or_right (same l.name.bytes n) (is_label n ls) e) q)
  where
    by : (c : Bool) → is_label n (recorded x ls) ≡ false → is_label n (elim c [ true ↦ x ∷ ls | false ↦ l ∷ recorded x ls ]) ≡ false
    by true h = rw q (or_right (same l.name.bytes n) (is_label n ls) e)
    by false h = rw (or_left (same l.name.bytes n) (is_label n ls) e) h

recorded_apart : (x : Label) (ls : List Label) → Apart ls → Apart (recorded x ls)
unfolding recorded is_label
recorded_apart x [] g = (refl, tt)
recorded_apart x (l ∷ ls) g = by (same l.name.bytes x.name.bytes) refl (recorded_apart x ls g.1)
  where
    by : (c : Bool) → same l.name.bytes x.name.bytes ≡ c → Apart (recorded x ls)
        → Apart (elim c [ true ↦ x ∷ ls | false ↦ l ∷ recorded x ls ])
    by true e h = (ap (λ (n : List ℕ). is_label n ls) (sym (same_equal l.name.bytes x.name.bytes e)) ∙ g.0, g.1)
    by false e h = (not-recorded l.name.bytes x ls g.0 (same_swap l.name.bytes x.name.bytes e), h)

label_apart : (k : Room) (place : Place) (line : ℕ) (o : Option Piece) (ls : List Label) → Apart ls → ComesSaid Apart (label_step k place line o ls)
unfolding label_step add_label
label_apart k place line None ls g = g
label_apart k place line (Some name) ls g =
    let x : Label = record { name = name; place = place; line = line } in
    test_has (ComesSaid Apart) (is_label name.bytes ls || ltb (length ls) k.labels) (Ok (recorded x ls)) (Err 45)
    (recorded_apart x ls g) refl

-- ---- label words

-- one after another, from n on and within m
abbrev pub Spread : ℕ → List LabelWord → ℕ → Type 0
Spread n [] m = n ≤ m
Spread n (w ∷ ws) m = (n ≤ w.at) × Spread (w.at + 4) ws m

spread_more : (n : ℕ) (ws : List LabelWord) (m p : ℕ) → m ≤ p → Spread n ws m → Spread n ws p
spread_more n [] m p h g = omega arith
spread_more n (w ∷ ws) m p h g = (g.0, spread_more (w.at + 4) ws m p h g.1)

spread_last : (n : ℕ) (ws : List LabelWord) (w : LabelWord) (p : ℕ) → Spread n ws w.at → w.at + 4 ≤ p → Spread n (ws ++ w ∷ []) p
spread_last n [] w p g h = (g, h)
spread_last n (x ∷ ws) w p g h = (g.0, spread_last (x.at + 4) ws w p g.1 h)

-- the lines that are recorded are among the first m
abbrev pub LabelWordBelow : ℕ → LabelWord → Type 0
LabelWordBelow m w = w.line < m

abbrev pub ItemBelow : ℕ → ItemLine → Type 0
ItemBelow m x = x.line < m

abbrev WordsLaid : ℕ → ℕ → List LabelWord → Type 0
WordsLaid m n ws = Spread 0 ws n × Each (LabelWordBelow m) ws

abbrev StoredLaid : ℕ → Stored → Type 0
StoredLaid m σ = WordsLaid m (length σ.bytes) σ.label_words

-- the data grow by what is written, or 42
grows : (k : Room) (w : Write) (bs : List ℕ) → ComesSaid (Grown k w bs) (grow_data k w bs)
unfolding grow_data
grows k w bs = by (grow_data k w bs) (grow_data_fits k w bs) sound
  where
    sound : Sound (grow_data k w bs)
    sound = test_has Sound (leb (length bs + write_size (length bs) w) k.bytes) (Ok (bs ++ write_bytes (length bs) w)) (Err 42) tt refl

    by : (x : Result (List ℕ) ℕ) → Comes (Grown k w bs) (λ _. Unit) x → Sound x → ComesSaid (Grown k w bs) x
    by (Ok a) g s = g
    by (Err n) g s = s

bss_sound : (r : Result Reservation ℕ) (p : ℕ) → Sound r → Sound (bss_line r p)
unfolding bss_line grow_bss
bss_sound (Ok x) p s = test_has Sound (leb (place_after p x) bss_limit) _ _ tt refl
bss_sound (Err n) p s = s

gap_sound : (r : Result Reservation ℕ) → Sound r → Sound (mapped gap r)
gap_sound (Ok x) s = tt
gap_sound (Err n) s = s

-- at one of the first m lines
module _ (k : Room) (line m : ℕ) (below : line < m) where
  add_word_laid : (p n : ℕ) (w : Write) (ws : List LabelWord) → p + write_size p w ≤ n → WordsLaid m p ws
      → ComesSaid (WordsLaid m n) (add_label_word line p w ws)
  unfolding add_label_word
  add_word_laid p n (bytes bs) ws h g = (spread_more 0 ws p n (omega arith) g.0, g.1)
  add_word_laid p n (gap r) ws h g = (spread_more 0 ws p n (omega arith) g.0, g.1)
  add_word_laid p n (address_of name) ws h g =
      let x : LabelWord = record { at = p; name = name; line = line } in
      test_has (ComesSaid (WordsLaid m n)) (ltb (length ws) label_word_limit) (Ok (ws ++ x ∷ [])) (Err 47)
      (spread_last 0 ws x n g.0 h, each_append (LabelWordBelow m) ws (x ∷ []) g.1 (below, tt)) refl

  write_laid : (w : Write) (σ : Stored) → StoredLaid m σ → ComesSaid (StoredLaid m) (data_write k line w σ)
  unfolding data_write
  write_laid w σ g =
      let p : ℕ = length σ.bytes in
      and_then_comes (Grown k w σ.bytes) (StoredLaid m) OfLines (grow_data k w σ.bytes) _ (grows k w σ.bytes) (λ bs h.
      mapped_comes (WordsLaid m (length bs)) (StoredLaid m) OfLines _ (add_label_word line p w σ.label_words) (λ us i. i)
      (add_word_laid p (length bs) w σ.label_words (omega (arith, h.0)) g))

  data_laid : (rs : List (Result Write ℕ)) (σ : Stored) → Each Sound rs → StoredLaid m σ → ComesSaid (StoredLaid m) (data_line k line rs σ)
  unfolding data_line
  data_laid [] σ s g = g
  data_laid (Ok w ∷ rs) σ s g =
      and_then_comes (StoredLaid m) (StoredLaid m) OfLines (data_write k line w σ) (data_line k line rs) (write_laid w σ g) (λ τ. data_laid rs τ s.1)
  data_laid (Err n ∷ rs) σ s g = s.0

  abbrev ItemsLaid : Items → Type 0
  ItemsLaid σ = Each (ItemBelow m) σ.list

  item_laid : (o : Option Pseudo) (p : Piece) (σ : Items) → ItemsLaid σ → ComesSaid ItemsLaid (add_item k line o p σ)
  unfolding add_item
  item_laid o p σ g =
      test_has (ComesSaid ItemsLaid) (ltb (length σ.list) k.items) _ _
      (test_has (ComesSaid ItemsLaid) (leb (σ.words + reserved_words o p.bytes) k.words) _ _
      (each_append (ItemBelow m) σ.list _ g (below, tt)) refl) refl

  text_laid : (p : Piece) (i : Item) (σ : Items) → ItemsLaid σ → ComesSaid ItemsLaid (text_line k line p i σ)
  unfolding text_line
  text_laid p other σ g = refl
  text_laid p ordinary σ g = item_laid None p σ g
  text_laid p (pseudo q) σ g = item_laid (Some q) p σ g

  abbrev OwnLaid : Own → Type 0
  OwnLaid σ = StoredLaid m σ.stored × ItemsLaid σ.items

  own_laid : (s : OwnStatement) (σ : Own) → OwnLaid σ → ComesSaid OwnLaid (own_line k line s σ)
  unfolding own_line
  own_laid (item p) σ g =
      mapped_comes ItemsLaid OwnLaid OfLines (with_items σ) (text_line k line p (item_of p.bytes) σ.items) (λ x h. (g.0, h))
      (text_laid p (item_of p.bytes) σ.items g.1)
  own_laid (stores x p) σ g =
      mapped_comes (StoredLaid m) OwnLaid OfLines (with_stored σ) (data_line k line (store_writes x p.bytes) σ.stored) (λ y h. (h, g.1))
      (data_laid (store_writes x p.bytes) σ.stored (store_sound x p.bytes) g.0)
  own_laid (string zeros p) σ g =
      let r = string_write zeros (string_bytes p.bytes) in
      mapped_comes (StoredLaid m) OwnLaid OfLines (with_stored σ) (data_line k line (r ∷ []) σ.stored) (λ y h. (h, g.1))
      (data_laid (r ∷ []) σ.stored (string_sound zeros (string_bytes p.bytes), tt) g.0)
  own_laid (reserves x p) σ g =
      let r = reservation x (imm_of p.bytes) in
      mapped_comes (StoredLaid m) OwnLaid OfLines (with_stored σ) (data_line k line (mapped gap r ∷ []) σ.stored) (λ y h. (h, g.1))
      (data_laid (mapped gap r ∷ []) σ.stored (gap_sound r (reservation_sound x (imm_of p.bytes)), tt) g.0)
  own_laid (reserves_bss x p) σ g =
      let r = reservation x (imm_of p.bytes) in
      mapped_comes (λ _. Unit) OwnLaid OfLines (with_bss σ) (bss_line r σ.bss) (λ y u. g)
      (bss_sound r σ.bss (reservation_sound x (imm_of p.bytes)))

-- ---- equates

-- lines from n on, each after the one before, and below m
abbrev pub Rising : ℕ → List Equate → ℕ → Type 0
Rising n [] m = n ≤ m
Rising n (e ∷ es) m = (n ≤ e.line) × Rising (suc e.line) es m

rising_more : (n : ℕ) (es : List Equate) (m p : ℕ) → m ≤ p → Rising n es m → Rising n es p
rising_more n [] m p h g = omega arith
rising_more n (e ∷ es) m p h g = (g.0, rising_more (suc e.line) es m p h g.1)

rising_last : (n : ℕ) (es : List Equate) (e : Equate) (p : ℕ) → Rising n es e.line → suc e.line ≤ p → Rising n (es ++ e ∷ []) p
rising_last n [] e p g h = (g, h)
rising_last n (x ∷ es) e p g h = (g.0, rising_last (suc x.line) es e p g.1 h)

-- ---- the whole state, where m lines are read

pub record RestLaid (m : ℕ) (σ : Rest) : Type 0 where
  pub equates : Rising 0 σ.equates m
  pub words : Spread 0 σ.own.stored.label_words (length σ.own.stored.bytes)
  pub word_lines : Each (LabelWordBelow m) σ.own.stored.label_words
  pub item_lines : Each (ItemBelow m) σ.own.items.list

pub record Laid (m : ℕ) (σ : State) : Type 0 where
  pub labels : Apart σ.labels
  pub rest : RestLaid m σ.rest

module _ (k : Room) (line : ℕ) where
  abbrev OwnHere : Own → Type 0
  OwnHere = OwnLaid k line (suc line) (omega arith)

  rest_laid : (σ : Rest) → Rising 0 σ.equates (suc line) → OwnHere σ.own → RestLaid (suc line) σ
  rest_laid σ e g = record { equates = e; words = g.0.0; word_lines = g.0.1; item_lines = g.1 }

  statement_laid : (s : Statement) (σ : Rest) → RestLaid line σ → ComesSaid (RestLaid (suc line)) (statement_step k line s σ)
  unfolding statement_step add_equate
  statement_laid s σ g = by s
    where
      more : OwnHere σ.own
      more = (
        (g.words, each_weaker (LabelWordBelow line) (LabelWordBelow (suc line)) (λ w h. omega arith) σ.own.stored.label_words g.word_lines),
        each_weaker (ItemBelow line) (ItemBelow (suc line)) (λ x h. omega arith) σ.own.items.list g.item_lines,
      )

      rising : Rising 0 σ.equates (suc line)
      rising = rising_more 0 σ.equates line (suc line) (omega arith) g.equates

      by : (s : Statement) → ComesSaid (RestLaid (suc line)) (statement_step k line s σ)
      by nothing = rest_laid σ rising more
      by (enters s) = rest_laid _ rising more
      by (equate name e) =
          let x : Equate = record { name = name; expr = e; place = here σ.own; line = line } in
          mapped_comes (λ es. Rising 0 es (suc line)) (RestLaid (suc line)) OfLines (with_equates σ) (add_equate k x σ.equates)
          (λ es h. rest_laid (with_equates σ es) h more)
          (test_has (ComesSaid (λ es. Rising 0 es (suc line))) (ltb (length σ.equates) k.equates) (Ok (σ.equates ++ x ∷ [])) (Err 46)
          (rising_last 0 σ.equates x (suc line) g.equates (omega arith)) refl)
      by (own s) =
          mapped_comes OwnHere (RestLaid (suc line)) OfLines (with_own σ) (own_line k line s σ.own) (λ x h. rest_laid (with_own σ x) rising h)
          (own_laid k line (suc line) (omega arith) s σ.own more)

  pub step_laid : (p : Piece) (σ : State) → Laid line σ → ComesSaid (Laid (suc line)) (step_line k line p σ)
  unfolding step_parsed
  step_laid p σ g =
      let l = line_of σ.rest.own.section p in
      let said : Rest → Result Rest ℕ = λ ρ. and_then l.says (λ s. statement_step k line s ρ) in
      and_then_comes Apart (Laid (suc line)) OfLines (label_step k (here σ.rest.own) line l.label σ.labels)
      (λ ls. mapped (with_rest ls) (said σ.rest))
      (label_apart k (here σ.rest.own) line l.label σ.labels g.labels) (λ ls h.
      mapped_comes (RestLaid (suc line)) (Laid (suc line)) OfLines (with_rest ls) (said σ.rest) (λ ρ i. record { labels = h; rest = i })
      (and_then_comes (λ _. Unit) (RestLaid (suc line)) OfLines l.says (λ s. statement_step k line s σ.rest)
      (line_sound σ.rest.own.section p)
      (λ s u. statement_laid s σ.rest g.rest)))

-- what the stage leaves of m lines, or one of its refusals at one of them
abbrev pub StageLaid : ℕ → Result State Refusal → Type 0
StageLaid m x = Comes (Laid m) (Said line_numbers m) x

lines_laid : (k : Room) (line : ℕ) (ps : List Piece) (σ : State) → Laid line σ → StageLaid (line + length ps) (line_stage k line ps σ)
unfolding line_stage
lines_laid k line [] σ g = let e : line + 0 ≡ line = omega arith in rw e g
lines_laid k line (p ∷ ps) σ g =
    let e : line + suc (length ps) ≡ suc line + length ps = omega arith in
    let m = suc line + length ps in
    rw e (and_then_comes (Laid (suc line)) (Laid m) (Said line_numbers m) (at_line line (step_line k line p σ)) (line_stage k (suc line) ps)
    (at_line_said (Laid (suc line)) line_numbers line m (step_line k line p σ) (omega arith) (step_laid k line p σ g)) (lines_laid k (suc line) ps))

pub start_laid : Laid 0 start
start_laid = record { labels = tt; rest = record { equates = omega arith; words = omega arith; word_lines = tt; item_lines = tt } }

-- the lines' own law
pub stage_laid : (t : List ℕ) (k : Room) → StageLaid (length (lines t)) (line_stage k 0 (line_pieces 0 (lines t)) start)
stage_laid t k =
    rw (pieces_length 0 (lines t), zero-add (length (lines t))) at
    (lines_laid k 0 (line_pieces 0 (lines t)) start start_laid)
