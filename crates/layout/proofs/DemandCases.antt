-- Worked texts for demand 3, by computing: what an accepted layout has, 17 of each kind, and why each of document 01's conditions is needed.
-- So no theorem of DemandLaws.antt speaks of nothing.
use Prim.Native.Nat.{ℕ}
use mathlib.Core.Path.{◌≡◌, refl}
use mathlib.Core.List.{List, [], ◌∷◌, ◌++◌, map}
use mathlib.Core.Bool.{false, true}
use Rattle.std.proofs.Common.{Option, None, Some}
use lib.IntN.{ℤ, pos, negsuc}
use Rattle.std.proofs.Common.{Result, Ok, Err}
use Rattle.numbers.specs.Results.{mapped}
use Rattle.numbers.specs.Text.{text}
use Rattle.layout.specs.Refusals.{Refusal}
use Rattle.layout.specs.Limits.{full, room_of}
use Rattle.layout.specs.Pieces.{lines, line_pieces}
use Rattle.layout.specs.State.{Equate, State, start}
use Rattle.layout.specs.Stage.{line_stage}
use Rattle.layout.specs.Addresses.{address_at}
use Rattle.layout.specs.Layouts.{EquateAt, ItemAt, Layout}
use Rattle.layout.specs.Terms.{literal, named, Term, terms_from, terms_of, signed_sum, names_in, is_used}
use Rattle.layout.specs.Demands.{recorded_value, recorded_address, final_value, largest, lawful_round, sum_of_rounds, item_words, word_from}
use Rattle.layout.proofs.Computing.{computing}
use Rattle.layout.proofs.TwelveCases.{laid, words_of, laid_data, no}

-- what the line stage reads
abbrev state_of : Result State Refusal → State
state_of (Ok σ) = σ
state_of (Err r) = start

abbrev pub read_of : List ℕ → State
read_of t = state_of (line_stage (room_of full) 0 (line_pieces 0 (lines t)) start)

-- ---- the equates of an accepted layout: sums and rounds by the definitions of demand 3, and as they are recorded

abbrev sum_in : State → Layout → Equate → Option (List Term) → Option ℤ
sum_in σ l e None = None
sum_in σ l e (Some ts) = signed_sum (final_value l) (pos (address_at 0 σ e.place)) ts

abbrev lawful_from : List Equate → List EquateAt → List EquateAt → List ℕ
lawful_from [] above rs = []
lawful_from (e ∷ es) above [] = []
lawful_from (e ∷ es) above (r ∷ rs) = lawful_round (is_used e) above rs ∷ lawful_from es (above ++ r ∷ []) rs

pub record Equates : Type 0 where
  pub sums : List (Option ℤ)
  pub values : List ℤ
  pub lawful : List ℕ
  pub rounds : List ℕ
  pub sum : ℕ
  pub evaluations : ℕ

abbrev pub equates_of : List ℕ → Result Equates Refusal
equates_of t =
    mapped (λ l. record {
      sums = map (λ e. sum_in (read_of t) l e (terms_of e)) (read_of t).rest.equates;
      values = map (λ r. r.value) l.equates;
      lawful = lawful_from (read_of t).rest.equates [] l.equates;
      rounds = map (λ r. r.round) l.equates;
      sum = sum_of_rounds l.equates;
      evaluations = l.evaluations;
    }) (laid t)

-- sums and values the same, rounds lawful and as recorded
abbrev told : List ℤ → List ℕ → ℕ → Result Equates Refusal
told zs rs n = Ok (record { sums = map Some zs; values = zs; lawful = rs; rounds = rs; sum = n; evaluations = n })

pub accepted-cases :
    -- document 01's case 10
    (equates_of (text "a = b+1\nb = c+1\nc = 5") ≡ told (pos 7 ∷ pos 6 ∷ pos 5 ∷ []) (3 ∷ 2 ∷ 1 ∷ []) 6)
    -- signs, `.` and a label: - (-3) - 2 + 4 - 0, and - 4
    × (equates_of (text "nop\nx = --3 - 2 + . - l\nl = 0\nt: nop\ny = -t") ≡ told (pos 5 ∷ pos 0 ∷ negsuc 3 ∷ []) (2 ∷ 1 ∷ 1 ∷ []) 4)
    -- one that uses one above is found in the same round
    × (equates_of (text "a = 1\nb = a + a") ≡ told (pos 1 ∷ pos 2 ∷ []) (1 ∷ 1 ∷ []) 2)
    -- terms with their signs
    × (map terms_of (read_of (text "x = --3 - -y")).rest.equates ≡ Some (
    record { joining = false; own = false; atom = literal (pos 3) } ∷
    record { joining = true; own = true; atom = named (text "y") } ∷ []
    ) ∷ [])
    × (map terms_of (read_of (text "x = 3 +")).rest.equates ≡ None ∷ [])
unfolding computing terms_from signed_sum recorded_value recorded_address names_in largest sum_of_rounds
accepted-cases = (refl, refl, refl, refl, refl)

-- ---- items and label words

-- each item's words, from its first to the next item's or the end
abbrev items_from : Layout → List ItemAt → List (List ℕ)
items_from l [] = []
items_from l (i ∷ below) = item_words l i below ∷ items_from l below

abbrev pub laid_items : List ℕ → Result (List (List ℕ)) Refusal
laid_items t = mapped (λ l. items_from l l.items) (laid t)

abbrev pub first_words_at : List ℕ → List ℕ → Result (List ℕ) Refusal
first_words_at t ns = mapped (λ l. map (λ n. word_from n l l.items) ns) (laid t)

pub item-cases :
    -- an li by name, whose upper part is 0; an li by its number; an la
    (laid_items (text "n = 5\nli a0, n\nli a1, 2048\nla a2, t\nt: nop")
    ≡ Ok ((0x00000537 ∷ 0x00550513 ∷ []) ∷ (0x000015B7 ∷ 0x80058593 ∷ []) ∷ (0x00000637 ∷ 0x01860613 ∷ []) ∷ (0 ∷ []) ∷ []))
    -- an equate may be named as a number that `parse_imm` does not take: li then loads its value
    × (words_of (text ".equ 99999999999, 5\nli a0, 99999999999") ≡ Ok (0x00000537 ∷ 0x00550513 ∷ []))
    -- the first word at a line or below it: of an item at the line, of one below it, and behind all of them
    × (first_words_at (text "x: nop\nn = 5\nli a0, n\ny: nop\nz:") (0 ∷ 1 ∷ 3 ∷ 4 ∷ []) ≡ Ok (0 ∷ 1 ∷ 3 ∷ 4 ∷ []))
    -- label words side by side
    × (laid_data (text ".data\nt: .word u, t\nu: .byte 7") ≡ Ok (0x08 ∷ 0x10 ∷ 0 ∷ 0 ∷ 0x00 ∷ 0x10 ∷ 0 ∷ 0 ∷ 7 ∷ []))
unfolding computing word_from
item-cases = (refl, refl, refl, refl)

-- ---- 17

pub unresolved-cases :
    -- a cycle of one, of two, through a shared name, an undefined name, behind a found equate, before a malformed rest
    (laid (text "a = a") ≡ no 17 0)
    × (laid (text "z = 1\na = b\nb = a") ≡ no 17 1)
    × (laid (text "x = a\na = b\na = u\nb = a") ≡ no 17 0)
    × (laid (text "a = u") ≡ no 17 0)
    × (laid (text "a = 1\nb = a + u") ≡ no 17 1)
    × (laid (text "a = u +") ≡ no 17 0)
    -- no product or partial sum is formed behind the unknown name
    × (laid (text "a = u + 9223372036854775807 + 1") ≡ no 17 0)
unfolding computing
unresolved-cases = (refl, refl, refl, refl, refl, refl, refl)

-- each of document 01's conditions is needed: an equate starts a chain, and another number comes
pub other-cases :
    -- names distinct: the second has its value in round one, and the first is then one whose name already has a value
    (laid (text "a = a\na = 1") ≡ no 15 0)
    -- no label
    × (laid (text "u = v\na: a = 1") ≡ no 14 1)
    -- well formed, the others too, and before the unknown name
    × (laid (text "a = u\nb = 1 2") ≡ no 16 1)
    × (laid (text "a = 1 2 + u") ≡ no 16 0)
    -- no product or partial sum beyond 64 signed bits, the others' too, and before the unknown name
    × (laid (text "a = u\nb = 9223372036854775807 + 1") ≡ no 24 1)
    × (laid (text "a = 9223372036854775807 + 1 + u") ≡ no 24 0)
    -- nothing before the rounds refuses
    × (laid (text "a = u\n.section") ≡ no 2 1)
unfolding computing
other-cases = (refl, refl, refl, refl, refl, refl, refl)
