-- Whatever answers as the programs would that document 01 excludes by demand 3, "How much the layout promises", 3, does not meet it; nor does
-- a label or a label word one word off, an li whose word is blank or another than lui and addi, of x0 too, an li by name that is counted as one word, or
-- an equate whose name another equate or a label has.
use Prim.Native.Nat.{ℕ, zero, suc, ◌+◌, ◌*◌, ◌^◌, ◌<◌}
use mathlib.Core.Path.{◌≡◌, refl, sym, ◌∙◌, ap, subst}
use mathlib.Core.List.{List, [], ◌∷◌, ◌++◌}
use mathlib.Core.Bool.{true, false, false≢true}
use Rattle.std.proofs.Common.{Option, None, Some}
use native.Mathlib.Omega.{arith}
use lib.IntN.{ℤ, pos}
use lib.ListN.{length, get_or, replicate}
use Rattle.std.proofs.Common.{Ok}
use Rattle.numbers.specs.Text.{text}
use Rattle.numbers.specs.Registers.{register_of}
use Rattle.encoder.specs.Run.{Registers, done, failed, is_lui, is_addi, run}
use Rattle.layout.specs.declared.state.Section.{Section}
use Rattle.layout.specs.declared.state.Section.TheVariants as section
use Rattle.layout.specs.declared.pseudo.Pseudo.TheVariants.{Li}
use Rattle.layout.specs.Bytes.{little_endian}
use Rattle.layout.specs.Pieces.{piece, lines, line_pieces}
use Rattle.layout.specs.Limits.{full, room_of}
use Rattle.layout.specs.Pseudos.{pseudo_operands}
use Rattle.layout.specs.State.{Label, Equate, ItemLine, LabelWord, Own, State, start}
use Rattle.layout.specs.Stage.{line_stage}
use Rattle.layout.specs.Addresses.{LabelAt}
use Rattle.layout.specs.Layouts.{EquateAt, ItemAt, Layout, layout_of, Answer}
use Rattle.layout.specs.Terms.{Term, terms_from, terms_of, signed_sum, names_in, is_used}
use Rattle.layout.specs.Chains.{Among, first, later, name_of, Reaches, uses, onto, Unresolved, undefined, circular, NamesFirst}
use Rattle.layout.specs.Held.{held_layout}
use Rattle.layout.specs.Demands.{recorded_value, recorded_address, final_value, largest, sum_of_rounds, word_from, LabelWordHolds, li_value, Loads, Holds, Demanded}
use Rattle.numbers.proofs.Bools.{none-some}
use Rattle.layout.proofs.ResultLaws.{value_same, some_same}
use Rattle.layout.proofs.Computing.{computing}
use Rattle.layout.proofs.RecordCases.{shrunk}

-- ---- answers

-- an answer of which the caller holds this layout
pub record Claims (t : List ℕ) (l : Layout) (x : Answer) : Type 0 where
  pub number : x.number ≡ 0
  pub held : held_layout t x.counts x.buffers ≡ l

-- what its lines say
abbrev LinesSay : List ℕ → State → Type 0
LinesSay t σ = line_stage (room_of full) 0 (line_pieces 0 (lines t)) start ≡ Ok σ

-- it would have to hold of that
claim_holds : (t : List ℕ) (σ : State) (l : Layout) (x : Answer) → LinesSay t σ → Claims t l x → Demanded t 0 full x → Holds 0 σ l
claim_holds t σ l x r c d =
    let h = d.accepted c.number in
    let s : h.0 ≡ σ = value_same (sym h.2.read ∙ r) in
    subst (λ (τ : State). Holds 0 τ l) s (subst (Holds 0 h.0) c.held h.3)

-- ---- states and layouts with one part alone

abbrev state_with : List Label → List Equate → Own → State
state_with ls es own = record { labels = ls; rest = record { equates = es; own = own } }

abbrev own_with : Section → List ItemLine → ℕ → List ℕ → List LabelWord → Own
own_with s items words bytes label_words =
    record { section = s; items = record { list = items; words = words }; stored = record { bytes = bytes; label_words = label_words }; bss = 0 }

-- before any item, data or bss
abbrev none_own : Own
none_own = start.rest.own

abbrev layout_with : List ℕ → List ℕ → List LabelAt → List EquateAt → List ItemAt → ℕ → Layout
layout_with words bytes labels equates items n =
    record {
      words = words;
      data_bytes = bytes;
      data_base = 0x1000;
      bss_size = 0;
      labels = labels;
      equates = equates;
      items = items;
      evaluations = n;
    }

abbrev equate : ℕ → List ℕ → ℕ → List ℕ → ℕ → Equate
equate n name m expr line =
    record {
      name = piece n name;
      expr = record { source = piece m expr; one_space = false };
      place = record { section = section.Text; offset = 0 };
      line = line;
    }

-- ---- `a = b+1`, `b = 5`

abbrev two : List ℕ
two = text "a = b+1\nb = 5"

abbrev a : Equate
a = equate 0 (text "a") 4 (text "b+1") 0

abbrev two_state : State
two_state = state_with [] (a ∷ equate 8 (text "b") 12 (text "5") 1 ∷ []) none_own

two_says : LinesSay two two_state
unfolding computing
two_says = refl

-- with this value and round of a, and so many evaluations
abbrev two_layout : ℤ → ℕ → ℕ → Layout
two_layout v r n =
    layout_with [] [] [] (
    record { name = piece 0 (text "a"); line = 0; value = v; round = r } ∷
    record { name = piece 8 (text "b"); line = 1; value = pos 5; round = 1 } ∷ []
    ) [] n

two_holds : (v : ℤ) (r n : ℕ) (x : Answer) → Claims two (two_layout v r n) x → Demanded two 0 full x → Holds 0 two_state (two_layout v r n)
two_holds v r n x = claim_holds two two_state (two_layout v r n) x two_says

-- "an evaluation count made up as n"
pub count_made_up : (x : Answer) → Claims two (two_layout (pos 6) 2 2) x → Demanded two 0 full x → ⊥
unfolding sum_of_rounds
count_made_up x c d = let e = (two_holds (pos 6) 2 2 x c d).evaluations in omega arith

-- "a layout that resolves round one and fills the later equates with zeros"
pub later_zeros : (x : Answer) → Claims two (two_layout (pos 0) 2 3) x → Demanded two 0 full x → ⊥
unfolding computing terms_from signed_sum recorded_value recorded_address
later_zeros x c d = by h.equates.0.terms h.equates.0.well_formed h.equates.0.value
  where
    l : Layout
    l = two_layout (pos 0) 2 3

    h : Holds 0 two_state l
    h = two_holds (pos 0) 2 3 x c d

    -- under the value that is claimed of b it is 6
    by : (ts : List Term) → terms_of a ≡ Some ts → signed_sum (final_value l) (pos 0) ts ≡ Some (pos 0) → ⊥
    by ts e v =
        let w : Some (pos 6) ≡ Some (pos 0) = ap (signed_sum (final_value l) (pos 0)) (some_same e) ∙ v in
        let y : ◌≡◌ {A = ℕ} 6 0 = cc in
        omega arith

-- a round that the law does not give
pub round_made_up : (x : Answer) → Claims two (two_layout (pos 6) 1 2) x → Demanded two 0 full x → ⊥
unfolding computing names_in largest
round_made_up x c d = let e : ◌≡◌ {A = ℕ} 1 2 = (two_holds (pos 6) 1 2 x c d).equates.0.round in omega arith

-- ---- `t` at the start of the data: a label, and a label word of it, one word off

abbrev label : Label
label = record { name = piece 6 (text "t"); place = record { section = section.Data; offset = 0 }; line = 1 }

abbrev label_at : ℕ → LabelAt
label_at n = record { name = piece 6 (text "t"); address = n; line = 1 }

abbrev lettered : List ℕ
lettered = text ".data\nt: .byte 7"

abbrev lettered_state : State
lettered_state = state_with (label ∷ []) [] (own_with section.Data [] 0 (7 ∷ []) [])

lettered_says : LinesSay lettered lettered_state
unfolding computing
lettered_says = refl

abbrev lettered_layout : ℕ → Layout
lettered_layout n = layout_with [] (7 ∷ []) (label_at n ∷ []) [] [] 0

pub label_off : (x : Answer) → Claims lettered (lettered_layout 0x1004) x → Demanded lettered 0 full x → ⊥
unfolding computing recorded_address
label_off x c d =
    let e : ◌≡◌ {A = ℕ} 0x1004 0x1000 =
    some_same ((claim_holds lettered lettered_state (lettered_layout 0x1004) x lettered_says c d).labels (text "t")) in
    omega arith

abbrev pointing : List ℕ
pointing = text ".data\nt: .word t"

abbrev label_word : LabelWord
label_word = record { at = 0; name = text "t"; line = 1 }

abbrev pointing_state : State
pointing_state = state_with (label ∷ []) [] (own_with section.Data [] 0 (0 ∷ 0 ∷ 0 ∷ 0 ∷ []) (label_word ∷ []))

pointing_says : LinesSay pointing pointing_state
unfolding computing
pointing_says = refl

abbrev pointing_layout : ℕ → Layout
pointing_layout n = layout_with [] (little_endian 4 n) (label_at 0x1000 ∷ []) [] [] 0

pub label-word_off : (x : Answer) → Claims pointing (pointing_layout 0x1004) x → Demanded pointing 0 full x → ⊥
unfolding computing recorded_address
label-word_off x c d = by ((claim_holds pointing pointing_state (pointing_layout 0x1004) x pointing_says c d).label_words label_word first)
  where
    by : LabelWordHolds (pointing_layout 0x1004) label_word → ⊥
    by h =
        let e : ◌≡◌ {A = ℕ} 0x1000 h.address = some_same h.known in
        let w : little_endian 4 0x1004 ≡ little_endian 4 0x1000 = h.stands ∙ ap (little_endian 4) (sym e) in
        let y : ◌≡◌ {A = ℕ} 4 0 = cc in
        omega arith

-- ---- `li a0, 5` and `li x0, 5`: a word that is neither lui nor addi, "any other word fails the demand"

abbrev loading : List ℕ → List ℕ
loading r = text "li " ++ r ++ text ", 5"

abbrev loading_state : List ℕ → State
loading_state r = state_with [] [] (own_with section.Text (record { offset = 0; line = 0; item = Some Li; source = piece 0 (loading r) } ∷ []) 1 [] [])

abbrev loading_layout : List ℕ → ℕ → Layout
loading_layout r w = layout_with (w ∷ []) [] [] [] (record { address = 0; line = 0; kind = 1; first = 0; source = piece 0 (loading r) } ∷ []) 0

-- registers that hold zeros
zeros : Registers (replicate 32 0)
zeros = record { count = refl; below = λ r. at 32 r }
  where
    at : (n r : ℕ) → get_or (replicate n 0) r 0 < 2 ^ 32
    at zero r = omega arith
    at (suc n) zero = omega arith
    at (suc n) (suc r) = at n r

other_fails : (w : ℕ) (regs after : List ℕ) → is_lui w ≡ false → is_addi w ≡ false → run (w ∷ []) regs ≡ done after → ⊥
other_fails w regs after p q e = by (rw (p, q) at e)
  where
    by : failed ≡ done after → ⊥
    by e = let z : ◌≡◌ {A = ℕ} 0 1 = cc in omega arith

-- the register that the first operand names
named : {s ws a b : List ℕ} {says : List ℕ → Option ℤ} {n : ℕ} → pseudo_operands s ≡ a ∷ b ∷ [] → register_of a ≡ Some n → (g : Loads s ws says)
    → n ≡ g.register
named {a = a} p q g = some_same (sym q ∙ ap register_of (first-same (sym p ∙ g.operands)) ∙ g.is_register)
  where
    first-same : {a b c d : List ℕ} → ◌≡◌ {A = List (List ℕ)} (a ∷ b ∷ []) (c ∷ d ∷ []) → a ≡ c
    first-same e = cc

pub words_other : (w : ℕ) → is_lui w ≡ false → is_addi w ≡ false → (x : Answer) → Claims (loading (text "a0")) (loading_layout (text "a0") w) x
    → Demanded (loading (text "a0")) 0 full x → ⊥
unfolding computing
words_other w p q x c d = by ((claim_holds (loading a0) (loading_state a0) (loading_layout a0 w) x refl c d).items.0.li refl)
  where
    a0 : List ℕ
    a0 = text "a0"

    by : Loads (loading a0) (w ∷ []) (li_value (loading_layout a0 w)) → ⊥
    by g =
        let e : ◌≡◌ {A = ℕ} 10 g.register = named refl refl g in
        let r = g.loads.leaves (omega arith) (replicate 32 0) zeros in
        other_fails w (replicate 32 0) r.0 p q r.1

-- x0 is no exception
pub words_other-x0 : (w : ℕ) → is_lui w ≡ false → is_addi w ≡ false → (x : Answer) → Claims (loading (text "x0")) (loading_layout (text "x0") w) x
    → Demanded (loading (text "x0")) 0 full x → ⊥
unfolding computing
words_other-x0 w p q x c d = by ((claim_holds (loading x0) (loading_state x0) (loading_layout x0 w) x refl c d).items.0.li refl)
  where
    x0 : List ℕ
    x0 = text "x0"

    by : Loads (loading x0) (w ∷ []) (li_value (loading_layout x0 w)) → ⊥
    by g =
        let e : ◌≡◌ {A = ℕ} 0 g.register = named refl refl g in
        other_fails w (replicate 32 0) (replicate 32 0) p q (g.loads.keeps (sym e) (replicate 32 0) zeros)

-- a blank word, for one
pub words_blank : (x : Answer) → Claims (loading (text "x0")) (loading_layout (text "x0") 0) x → Demanded (loading (text "x0")) 0 full x → ⊥
words_blank = words_other-x0 0 refl refl

-- ---- `n = 5`, `li a0, n`, `x: ecall`: a small equate's li counted as one word

abbrev shrunk_label : Label
shrunk_label = record { name = piece 15 (text "x"); place = record { section = section.Text; offset = 8 }; line = 2 }

abbrev shrunk_state : State
shrunk_state =
    state_with (shrunk_label ∷ [])
    (equate 0 (text "n") 4 (text "5") 0 ∷ [])
    (own_with section.Text (
    record { offset = 0; line = 1; item = Some Li; source = piece 6 (text "li a0, n") } ∷
    record { offset = 8; line = 2; item = None; source = piece 18 (text "ecall") } ∷ []
    ) 3 [] [])

shrunk_says : LinesSay shrunk shrunk_state
unfolding computing
shrunk_says = refl

-- with these words, this address of x, and this address and index of the ecall's word
abbrev shrunk_layout : List ℕ → ℕ → ℕ → ℕ → Layout
shrunk_layout ws x address n =
    layout_with ws [] (record { name = piece 15 (text "x"); address = x; line = 2 } ∷ [])
    (record { name = piece 0 (text "n"); line = 0; value = pos 5; round = 1 } ∷ []) (
    record { address = 0; line = 1; kind = 1; first = 0; source = piece 6 (text "li a0, n") } ∷
    record { address = address; line = 2; kind = 0; first = n; source = piece 18 (text "ecall") } ∷ []
    ) 1

-- what the call gives
shrunk_laid : layout_of shrunk 0 full ≡ Ok (shrunk_layout (0x00000537 ∷ 0x00550513 ∷ 0 ∷ []) 8 8 2)
unfolding computing
shrunk_laid = refl

module _ (ws : List ℕ) (x address n : ℕ) (a : Answer) (c : Claims shrunk (shrunk_layout ws x address n) a) (d : Demanded shrunk 0 full a) where
  shrunk_holds : Holds 0 shrunk_state (shrunk_layout ws x address n)
  shrunk_holds = claim_holds shrunk shrunk_state (shrunk_layout ws x address n) a shrunk_says c d

  -- an index other than 2: 1 where the li is counted as one word
  pub first_off : (n ≡ 2 → ⊥) → ⊥
  first_off other = let h = shrunk_holds.items.1.0 in other (omega (arith, h.address, h.at_word))

  -- another address than 8, of the item
  pub address_off : (address ≡ 8 → ⊥) → ⊥
  address_off other = other shrunk_holds.items.1.0.address

  -- or of its label: the address of another word than the item's
  pub text-label_off : (x ≡ 4 * n → ⊥) → ⊥
  unfolding computing recorded_address word_from
  text-label_off other = let e : x ≡ 0 + 4 * n = some_same (shrunk_holds.text_labels shrunk_label first refl) in other (omega (arith, e))

  -- other words than three: two where the li emits one
  pub words_lost : (length ws ≡ 3 → ⊥) → ⊥
  words_lost other = other shrunk_holds.words

-- ---- `a = 5`: a name that another equate, or a label, has too

abbrev five : Equate
five = equate 0 (text "a") 4 (text "5") 0

-- of an equate at a place of the text: what is recorded of it
abbrev found : ℕ → ℕ → ℕ → EquateAt
found n line v = record { name = piece n (text "a"); line = line; value = pos v; round = 1 }

abbrev twice : List ℕ
twice = text "a = 5\na = 6"

abbrev twice_state : State
twice_state = state_with [] (five ∷ equate 6 (text "a") 10 (text "6") 1 ∷ []) none_own

twice_says : LinesSay twice twice_state
unfolding computing
twice_says = refl

abbrev twice_layout : Layout
twice_layout = layout_with [] [] [] (found 0 0 5 ∷ found 6 1 6 ∷ []) [] 2

pub name_shared : (x : Answer) → Claims twice twice_layout x → Demanded twice 0 full x → ⊥
unfolding computing recorded_value
name_shared x c d = none-some (sym (claim_holds twice twice_state twice_layout x twice_says c d).equates.0.unshared)

abbrev both : List ℕ
both = text "a:\na = 5"

abbrev both_state : State
both_state =
    state_with (record { name = piece 0 (text "a"); place = record { section = section.Text; offset = 0 }; line = 0 } ∷ [])
    (equate 3 (text "a") 7 (text "5") 1 ∷ []) none_own

both_says : LinesSay both both_state
unfolding computing
both_says = refl

abbrev both_layout : Layout
both_layout = layout_with [] [] (record { name = piece 0 (text "a"); address = 0; line = 0 } ∷ []) (found 3 1 5 ∷ []) [] 1

pub name_of-label : (x : Answer) → Claims both both_layout x → Demanded both 0 full x → ⊥
unfolding computing recorded_address
name_of-label x c d = none-some (sym (claim_holds both both_state both_layout x both_says c d).equates.0.no_label)

-- ---- `a = 5`: "one that says 17 before the first round"

abbrev five_state : State
five_state = state_with [] (five ∷ []) none_own

five_says : LinesSay (text "a = 5") five_state
unfolding computing
five_says = refl

uses-none : (n : List ℕ) → is_used five n ≡ true → ⊥
unfolding computing names_in
uses-none n e = false≢true e

reaches_none : {e : Equate} {n : List ℕ} → Reaches (five ∷ []) e n → e ≡ five → ⊥
reaches_none {n = n} (uses u) q = uses-none n (ap (λ (x : Equate). is_used x n) (sym q) ∙ u)
reaches_none (onto d m u r) q = uses-none (name_of d) (ap (λ (x : Equate). is_used x (name_of d)) (sym q) ∙ u)

starts_none : Unresolved five_state five → ⊥
starts_none (undefined n r u) = reaches_none r refl
starts_none (circular d m r c) = reaches_none r refl

pub seventeen_early : (x : Answer) → x.number ≡ 17 → Demanded (text "a = 5") 0 full x → ⊥
seventeen_early x n d =
    let h = d.unresolved n in
    let s : h.0 ≡ five_state = value_same (sym h.2.read ∙ five_says) in
    by (subst (λ (σ : State). NamesFirst σ x.line) s h.3)
  where
    last : (e : Equate) → Among e (five ∷ []) → Unresolved five_state e → ⊥
    last e first u = starts_none u
    last e (later never) u = elim never [ ]

    by : NamesFirst five_state x.line → ⊥
    by f = last f.equate f.among f.starts
