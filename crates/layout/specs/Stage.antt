-- The line stage: labels, equates, items, data and bss, line by line, with the refusals in document 01's order.
-- Document 01, "Lines to places", "Refused because of the state", "Order"; document 02, W-201.
use Rattle.std.specs.Prelude.{ℕ, suc, ◌+◌, ◌-◌, ◌*◌, List, [], ◌∷◌, ◌++◌, Bool, true, false, ◌||◌, ltb, leb, length, replicate}
use Rattle.std.specs.Prelude.{Option, None, Some}
use Rattle.std.specs.Prelude.{Result, Ok, Err}
use Rattle.numbers.specs.Results.{and_then, mapped}
use Rattle.numbers.specs.Text.{same}
use Rattle.numbers.specs.Numbers.{imm_of}
use Rattle.numbers.specs.Strings.{string_bytes}
use Rattle.layout.specs.declared.state.Section.{Section}
use Rattle.layout.specs.declared.state.Place.{Place}
use Rattle.layout.specs.declared.limits.Room.{Room}
use Rattle.layout.specs.declared.pseudo.Pseudo.{Pseudo}
use Rattle.layout.specs.declared.directives.Reservation.{Reservation}
use Rattle.layout.specs.Refusals.{Refusal, at_line}
use Rattle.layout.specs.Limits.{bss_limit, label_word_limit}
use Rattle.layout.specs.Pieces.{Piece}
use Rattle.layout.specs.Statements.{OwnStatement, item, stores, string, reserves, reserves_bss}
use Rattle.layout.specs.Statements.{Statement, nothing, enters, equate, own, Line, line_of}
use Rattle.layout.specs.Pseudos.{Item, ordinary, pseudo, other, item_of, reserved_words}
use Rattle.layout.specs.Directives.{Write, bytes, gap, address_of, place_after, reservation, string_write, store_writes}
use Rattle.layout.specs.State.{Label, Equate, LabelWord, Items, Stored, Own, Rest, State, here}

-- ---- labels

-- is there a label of this name?
unfoldable pub is_label : List ℕ → List Label → Bool
is_label n [] = false
is_label n (l ∷ ls) = same l.name.bytes n || is_label n ls

-- "the last definition of a name wins"
unfoldable pub recorded : Label → List Label → List Label
recorded x [] = x ∷ []
recorded x (l ∷ ls) = elim (same l.name.bytes x.name.bytes) [ true ↦ x ∷ ls | false ↦ l ∷ recorded x ls ]

-- "45 labels above 1,024 distinct names or the lent records"
unfoldable pub add_label : Room → Label → List Label → Result (List Label) ℕ
add_label k x ls =
    elim (is_label x.name.bytes ls || ltb (length ls) k.labels) [ true ↦ Ok (recorded x ls) | false ↦ Err 45 ]

-- the label of a line that has one
unfoldable pub label_step : Room → Place → ℕ → Option Piece → List Label → Result (List Label) ℕ
label_step k place line None ls = Ok ls
label_step k place line (Some name) ls = add_label k (record { name = name; place = place; line = line }) ls

-- ---- equates

-- "46 equates above 256 or the lent records"
unfoldable pub add_equate : Room → Equate → List Equate → Result (List Equate) ℕ
add_equate k x es = elim (ltb (length es) k.equates) [ true ↦ Ok (es ++ x ∷ []) | false ↦ Err 46 ]

-- ---- items

-- "48 items above 2,048 or the lent records", then "44 reserved words above 16,384 or the lent length"
unfoldable pub add_item : Room → ℕ → Option Pseudo → Piece → Items → Result Items ℕ
add_item k line kind source σ =
    elim (ltb (length σ.list) k.items) [
      | true ↦ elim (leb (σ.words + reserved_words kind source.bytes) k.words) [
        | true ↦ Ok (record {
          list = σ.list ++ record { offset = 4 * σ.words; line = line; item = kind; source = source } ∷ [];
          words = σ.words + reserved_words kind source.bytes;
        })
        | false ↦ Err 44
      ]
      | false ↦ Err 48
    ]

-- "for an item 21, then 48, then 44"
unfoldable pub text_line : Room → ℕ → Piece → Item → Items → Result Items ℕ
text_line k line p other σ = Err 21
text_line k line p ordinary σ = add_item k line None p σ
text_line k line p (pseudo q) σ = add_item k line (Some q) p σ

-- ---- data

-- how many bytes a write takes where the data have p bytes, and which; an alignment never goes back (`aligned_bounds`)
abbrev pub write_size : ℕ → Write → ℕ
write_size p (bytes bs) = length bs
write_size p (gap r) = place_after p r - p
write_size p (address_of name) = 4

abbrev pub write_bytes : ℕ → Write → List ℕ
write_bytes p (bytes bs) = bs
write_bytes p (gap r) = replicate (place_after p r - p) 0
write_bytes p (address_of name) = replicate 4 0

-- the one place where the data grow: "42 data above 65,536 bytes or the lent length"
unfoldable pub grow_data : Room → Write → List ℕ → Result (List ℕ) ℕ
grow_data k w bs =
    elim (leb (length bs + write_size (length bs) w) k.bytes) [ true ↦ Ok (bs ++ write_bytes (length bs) w) | false ↦ Err 42 ]

-- "47 label words above 1,024": the label word that a write makes, if it makes one
unfoldable pub add_label_word : ℕ → ℕ → Write → List LabelWord → Result (List LabelWord) ℕ
add_label_word line p (bytes bs) ws = Ok ws
add_label_word line p (gap r) ws = Ok ws
add_label_word line p (address_of name) ws =
    elim (ltb (length ws) label_word_limit) [ true ↦ Ok (ws ++ record { at = p; name = name; line = line } ∷ []) | false ↦ Err 47 ]

-- "in data for each operand in turn its own check, then 42, then 47"
unfoldable pub data_write : Room → ℕ → Write → Stored → Result Stored ℕ
data_write k line w σ =
    and_then (grow_data k w σ.bytes) (λ bs.
    mapped (λ ws. record { bytes = bs; label_words = ws }) (add_label_word line (length σ.bytes) w σ.label_words))

unfoldable pub data_line : Room → ℕ → List (Result Write ℕ) → Stored → Result Stored ℕ
data_line k line [] σ = Ok σ
data_line k line (r ∷ rs) σ = and_then r (λ w. and_then (data_write k line w σ) (data_line k line rs))

-- ---- bss

-- "43 bss above 1,048,576"
unfoldable pub grow_bss : ℕ → Result ℕ ℕ
grow_bss n = elim (leb n bss_limit) [ true ↦ Ok n | false ↦ Err 43 ]

-- "in bss the operand's check, then 43"
unfoldable pub bss_line : Result Reservation ℕ → ℕ → Result ℕ ℕ
bss_line r p = and_then r (λ x. grow_bss (place_after p x))

-- ---- a line

-- the state with a part anew
abbrev pub in_section : Section → Own → Own
in_section s σ = record { section = s; items = σ.items; stored = σ.stored; bss = σ.bss }

abbrev pub with_items : Own → Items → Own
with_items σ x = record { section = σ.section; items = x; stored = σ.stored; bss = σ.bss }

abbrev pub with_stored : Own → Stored → Own
with_stored σ x = record { section = σ.section; items = σ.items; stored = x; bss = σ.bss }

abbrev pub with_bss : Own → ℕ → Own
with_bss σ x = record { section = σ.section; items = σ.items; stored = σ.stored; bss = x }

abbrev pub with_equates : Rest → List Equate → Rest
with_equates σ x = record { equates = x; own = σ.own }

abbrev pub with_own : Rest → Own → Rest
with_own σ x = record { equates = σ.equates; own = x }

abbrev pub with_rest : List Label → Rest → State
with_rest ls x = record { labels = ls; rest = x }

-- "then the section's own rule"
unfoldable pub own_line : Room → ℕ → OwnStatement → Own → Result Own ℕ
own_line k line (item p) σ = mapped (with_items σ) (text_line k line p (item_of p.bytes) σ.items)
own_line k line (stores x p) σ = mapped (with_stored σ) (data_line k line (store_writes x p.bytes) σ.stored)
own_line k line (string zeros p) σ = mapped (with_stored σ) (data_line k line (string_write zeros (string_bytes p.bytes) ∷ []) σ.stored)
own_line k line (reserves x p) σ = mapped (with_stored σ) (data_line k line (mapped gap (reservation x (imm_of p.bytes)) ∷ []) σ.stored)
own_line k line (reserves_bss x p) σ = mapped (with_bss σ) (bss_line (reservation x (imm_of p.bytes)) σ.bss)

-- what a statement does
unfoldable pub statement_step : Room → ℕ → Statement → Rest → Result Rest ℕ
statement_step k line nothing σ = Ok σ
statement_step k line (enters s) σ = Ok (with_own σ (in_section s σ.own))
statement_step k line (equate name expr) σ =
    mapped (with_equates σ) (add_equate k (record { name = name; expr = expr; place = here σ.own; line = line }) σ.equates)
statement_step k line (own s) σ = mapped (with_own σ) (own_line k line s σ.own)

-- "a label's 45 first", then what the line says
unfoldable pub step_parsed : Room → ℕ → Line → State → Result State ℕ
step_parsed k line l σ =
    and_then (label_step k (here σ.rest.own) line l.label σ.labels) (λ ls.
    mapped (with_rest ls) (and_then l.says (λ s. statement_step k line s σ.rest)))

-- a line as it stands in the text, read in the section that the layout is in
abbrev pub step_line : Room → ℕ → Piece → State → Result State ℕ
step_line k line p σ = step_parsed k line (line_of σ.rest.own.section p) σ

-- "then lines in order"
unfoldable pub line_stage : Room → ℕ → List Piece → State → Result State Refusal
line_stage k line [] σ = Ok σ
line_stage k line (p ∷ ps) σ = and_then (at_line line (step_line k line p σ)) (line_stage k (suc line) ps)
