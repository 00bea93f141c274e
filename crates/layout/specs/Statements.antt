-- What a line says, read in a section: its label; a section, a symbol, an ignored directive, an equate, or what the section's own rule
-- takes. Document 01, "Lines to places"; document 02, W-201.
use Rattle.std.specs.Prelude.{ℕ, List, [], ◌∷◌, Bool, true, false, cond, not, ◌&&◌, ◌||◌, eqb, length, take, drop}
use Rattle.std.specs.Prelude.{Option, None, Some}
use Rattle.std.specs.Prelude.{Result, Ok, Err}
use Rattle.numbers.specs.Text.{text, byte, is_space, trimmed, starts_with, same, one_spaced}
use Rattle.layout.specs.declared.state.Section.{Section}
use Rattle.layout.specs.declared.state.Section.TheVariants as section
use Rattle.layout.specs.declared.directives.Reserve.{Reserve}
use Rattle.layout.specs.declared.directives.Store.{Store}
use Rattle.layout.specs.declared.directives.Store.TheVariants.{Numbers, Text, Float}
use Rattle.layout.specs.declared.directives.Directive.{Directive}
use Rattle.layout.specs.declared.directives.Directive.TheVariants as directive
use Rattle.layout.specs.Bytes.{is_one_of, count_before}
use Rattle.layout.specs.Directives.{Row, directives, row_in}
use Rattle.layout.specs.Pieces.{Piece, piece, trim_piece, from_byte, from_place, holds, piece_before, piece_after, is_empty, statement_of}

-- an equate's expression: where it stands, and whether its white space is read in runs
pub record Expr : Type 0 where
  pub source : Piece
  pub one_space : Bool

abbrev pub as_written : Piece → Expr
as_written p = record { source = p; one_space = false }

-- "an `.equ` or `.set` parted at a blank first has whitespace runs made one space"
abbrev pub with_one_space : Piece → Expr
with_one_space p = record { source = p; one_space = true }

abbrev pub expr_text : Expr → List ℕ
expr_text e = cond e.one_space (one_spaced e.source.bytes) e.source.bytes

-- what the section's own rule takes: a line of the text section; in data what is stored, a string to its closing quote with so many
-- bytes 0 after it, or zeros; in bss zeros
pub data OwnStatement : Type 0 where
  item : Piece → OwnStatement
  stores : Store → Piece → OwnStatement
  string : ℕ → Piece → OwnStatement
  reserves : Reserve → Piece → OwnStatement
  reserves_bss : Reserve → Piece → OwnStatement

-- what a statement says
pub data Statement : Type 0 where
  -- nothing: an empty statement, a symbol made global, an ignored directive, `.note.GNU-stack`
  nothing : Statement
  -- another section from here on
  enters : Section → Statement
  -- a name and its expression
  equate : Piece → Expr → Statement
  -- what the section's own rule takes
  own : OwnStatement → Statement

-- a section's name without its dot: "`text`; `data`, `rodata`, `sdata` and `srodata` are data; `bss` and `sbss` are bss"
unfoldable pub section_named : List ℕ → Result Statement ℕ
section_named n =
    cond (is_one_of (text "text" ∷ []) n) (Ok (enters section.Text))
    (cond (is_one_of (text "data" ∷ text "rodata" ∷ text "sdata" ∷ text "srodata" ∷ []) n) (Ok (enters section.Data))
    (cond (is_one_of (text "bss" ∷ text "sbss" ∷ []) n) (Ok (enters section.Bss))
    (Err 3)))

abbrev pub without_dot : List ℕ → List ℕ
without_dot [] = []
without_dot (x ∷ xs) = cond (eqb x (byte ".")) xs (x ∷ xs)

-- "each with or without a leading dot. `.note.GNU-stack` changes nothing"; 2 where the name is missing, 3 where it is unknown
unfoldable pub section_of : List ℕ → Result Statement ℕ
section_of n =
    cond (eqb (length n) 0) (Err 2)
    (cond (same n (text ".note.GNU-stack")) (Ok nothing)
    (section_named (without_dot n)))

-- "A section's name ends at a blank or comma"
abbrev pub ends_section_name : ℕ → Bool
ends_section_name b = is_space b || eqb b (byte ",")

abbrev pub section_name : List ℕ → List ℕ
section_name s = take (count_before ends_section_name s) s

-- "A line `.text`, `.data`, `.bss` or beginning `.section` is taken whole"
abbrev pub is_section_line : List ℕ → Bool
is_section_line s = is_one_of (text ".text" ∷ text ".data" ∷ text ".bss" ∷ []) s || starts_with (text ".section") s

unfoldable pub section_line : List ℕ → Result Statement ℕ
section_line s = cond (starts_with (text ".section") s) (section_of (section_name (trimmed (drop 8 s)))) (section_of s)

-- "4 no symbol after `.globl`/`.global`"
unfoldable pub symbol_after : List ℕ → Result Statement ℕ
symbol_after rest = cond (eqb (length (trimmed rest)) 0) (Err 4) (Ok nothing)

-- "5 `.equ`/`.set` without name or expression"
unfoldable pub equate_of : Piece → Expr → Result Statement ℕ
equate_of name expr = cond (is_empty name || is_empty expr.source) (Err 5) (Ok (equate name expr))

-- "`.equ` and `.set` part at the first comma, else at the first blank"
unfoldable pub equ_of : Piece → Result Statement ℕ
equ_of p =
    cond (holds (byte ",") p)
    (equate_of (trim_piece (piece_before (byte ",") p)) (as_written (trim_piece (piece_after (byte ",") p))))
    (equate_of (piece p.at (take (count_before is_space p.bytes) p.bytes))
    (with_one_space (trim_piece (from_byte (count_before is_space p.bytes) p))))

-- "`name = expr` doesn't begin with a dot and has neither side empty; otherwise the line isn't an equate"
abbrev pub is_assignment : Piece → Bool
is_assignment p =
    not (starts_with (text ".") p.bytes) && holds (byte "=") p
    && not (is_empty (trim_piece (piece_before (byte "=") p))) && not (is_empty (trim_piece (piece_after (byte "=") p)))

-- "then the section's own rule", for what is neither a directive nor an equate: "10 unknown data directive. 11 unknown bss directive"
abbrev pub other_in : Section → Piece → Result Statement ℕ
other_in section.Text p = Ok (own (item p))
other_in section.Data p = Err 10
other_in section.Bss p = Err 11

unfoldable pub assignment_of : Section → Piece → Result Statement ℕ
assignment_of s p =
    cond (is_assignment p)
    (equate_of (trim_piece (piece_before (byte "=") p)) (as_written (trim_piece (piece_after (byte "=") p))))
    (other_in s p)

-- "then the section's own rule", for a directive and what follows its name: in text any line is an item; `.skip` is unknown in data;
-- "12 stored data in bss"
abbrev pub reserves_in : Section → Bool → Reserve → Piece → Piece → Result Statement ℕ
reserves_in section.Text in_data x p rest = Ok (own (item p))
reserves_in section.Data in_data x p rest = cond in_data (Ok (own (reserves x rest))) (Err 10)
reserves_in section.Bss in_data x p rest = Ok (own (reserves_bss x rest))

abbrev pub stores_in : Section → Store → Piece → Piece → Result Statement ℕ
stores_in section.Text x p rest = Ok (own (item p))
stores_in section.Data x p rest = Ok (own (stores x rest))
stores_in section.Bss x p rest = Err 12

abbrev pub directive_in : Section → Directive → Bool → Piece → Piece → Result Statement ℕ
directive_in s directive.Symbol in_data p rest = symbol_after rest.bytes
directive_in s directive.Ignored in_data p rest = Ok nothing
directive_in s directive.Equate in_data p rest = equ_of (trim_piece rest)
directive_in s (directive.Reserves x) in_data p rest = reserves_in s in_data x p rest
directive_in s (directive.Stores x) in_data p rest = stores_in s x p rest

abbrev pub on_row : Option Row → Section → Piece → Result Statement ℕ
on_row None s p = assignment_of s p
on_row (Some r) s p = directive_in s r.directive r.in_data p (from_byte (length r.name) p)

-- "Then `.globl`, ignored directives, `.equ`/`.set`, `name = expr`, then the section's own rule"; no directive is an equate, since it
-- begins with a dot
unfoldable pub unlabelled_of : Section → Piece → Result Statement ℕ
unlabelled_of s p = cond (is_empty p) (Ok nothing) (on_row (row_in directives p.bytes) s p)

-- a line's label, if it has one, and what follows it
pub record Line : Type 0 where
  pub label : Option Piece
  pub says : Result Statement ℕ

-- "Otherwise text before the first `:` is a label, possibly empty"; an empty name starts at its colon
abbrev pub label_in : Piece → Option Piece
label_in p = cond (holds (byte ":") p) (Some (trim_piece (piece_before (byte ":") p))) None

-- what follows p's label, if h, which p begins with, has a colon; else all of p
abbrev pub after_label : Piece → Piece → Piece
after_label h p = cond (holds (byte ":") h) (trim_piece (piece_after (byte ":") p)) p

-- the line whose statement is p, in a section
unfoldable pub labelled : Section → Piece → Line
labelled s p = record { label = label_in p; says = unlabelled_of s (after_label p p) }

-- ---- strings to their closing quote: document 02, W-201

-- "an optional label whose colon precedes the first quote": it stands in what comes before that, or in all where there is no quote
abbrev pub before_quote : Piece → Piece
before_quote p = piece_before (byte "\"") p

-- "On a line in the data section that begins .. with `.ascii`, `.asciz` or `.string`": no other statement stores a string. Its operand is
-- what stands behind the directive to the line's end
abbrev pub string_in : Piece → Result Statement ℕ → Option OwnStatement
string_in l (Ok (own (stores (Text zeros) rest))) = Some (string zeros (from_place rest.at l))
string_in l (Ok (own (stores (Numbers w) rest))) = None
string_in l (Ok (own (stores Float rest))) = None
string_in l (Ok (own (item p))) = None
string_in l (Ok (own (string _ rest))) = None
string_in l (Ok (own (reserves x rest))) = None
string_in l (Ok (own (reserves_bss x rest))) = None
string_in l (Ok nothing) = None
string_in l (Ok (enters s)) = None
string_in l (Ok (equate name expr)) = None
string_in l (Err n) = None

-- any other line is read as document 01 has it, also one whose label has the first quote: `": .ascii "a\n"` stores three bytes
abbrev pub string_or : Option OwnStatement → Section → Piece → Line
string_or None s p = labelled s p
string_or (Some x) s p = record { label = label_in (before_quote p); says = Ok (own x) }

-- the line l, whose statement is p, in a section
unfoldable pub parsed : Section → Piece → Piece → Line
parsed s l p =
    cond (is_section_line p.bytes) (record { label = None; says = section_line p.bytes })
    (string_or (string_in l (unlabelled_of s (after_label (before_quote p) p))) s p)

-- a line as it stands in the text, in a section: its label and what it says
abbrev pub line_of : Section → Piece → Line
line_of s l = parsed s l (statement_of l)
