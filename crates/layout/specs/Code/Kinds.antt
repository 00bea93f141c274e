-- What the code's answers about a line of the text section mean.
use Rattle.std.specs.Prelude.{Ok, Err}
use Rattle.std.specs.Prelude.{Result}
use Rattle.std.specs.Prelude.{ℕ, List, [], ◌∷◌, map, Bool, cond, ◌||◌}
use Rattle.std.specs.Prelude.{Option, None, Some}
use Rattle.numbers.specs.Text.{text, starts_with}
use Rattle.numbers.specs.Code.Tables.{row_of, slot_of, TableOf}
use Rattle.layout.specs.declared.pseudo.Pseudo.{Pseudo}
use Rattle.layout.specs.Pseudos.{Item, ordinary, pseudo, other, Spelling, pseudo_kind, spellings}

-- what a spelling names, as a number in a row: its kind as an item's record has it, and 0 for one of the four others; no spelling names an ordinary line
-- (`spellings-named`)
abbrev pub item_number : Item → ℕ
item_number ordinary = 0
item_number (pseudo p) = pseudo_kind p
item_number other = 0

-- a spelling's row: its name, what it names and whether it may end the line
abbrev pub spelling_row : Spelling → List ℕ
spelling_row x = row_of x.name (item_number x.item ∷ cond x.bare 1 0 ∷ [])

-- the table of all spellings, which is lent
abbrev pub PseudoNames : List ℕ → Type 0
PseudoNames t = TableOf slot_of (map spelling_row spellings) t

-- the first letters of all spellings
abbrev pub begins_as_pseudo : List ℕ → Bool
begins_as_pseudo s = starts_with (text "l") s || (starts_with (text "p") s || starts_with (text "r") s)

-- what a line is: ordinary, a pseudo, or one of the four others, which is refused before it is laid out
abbrev pub text_line_code : Item → Result (Option Pseudo) ℕ
text_line_code ordinary = Ok None
text_line_code (pseudo p) = Ok (Some p)
text_line_code other = Err 21
