-- Pieces of the text, and its lines. Document 01, "Text, numbers, registers".
use Rattle.std.specs.Prelude.{ℕ, suc, ◌+◌, ◌-◌, List, [], ◌∷◌, Bool, cond, ltb, eqb, length, drop}
use Rattle.numbers.specs.Text.{leading_spaces, trimmed, index_of, before, uncommented}
use Rattle.numbers.specs.Operands.{cons_first}

-- a piece of the text: where it starts, and its bytes
pub record Piece : Type 0 where
  pub at : ℕ
  pub bytes : List ℕ

abbrev pub piece : ℕ → List ℕ → Piece
piece n s = record { at = n; bytes = s }

-- a piece without the white space at its ends
abbrev pub trim_piece : Piece → Piece
trim_piece p = piece (p.at + leading_spaces p.bytes) (trimmed p.bytes)

-- a piece from its nth byte on
abbrev pub from_byte : ℕ → Piece → Piece
from_byte n p = piece (p.at + n) (drop n p.bytes)

-- a piece from a place of the text on
abbrev pub from_place : ℕ → Piece → Piece
from_place n p = from_byte (n - p.at) p

-- does a byte stand in a piece? what stands before the first, and after it
abbrev pub holds : ℕ → Piece → Bool
holds b p = ltb (index_of b p.bytes) (length p.bytes)

abbrev pub piece_before : ℕ → Piece → Piece
piece_before b p = piece p.at (before b p.bytes)

abbrev pub piece_after : ℕ → Piece → Piece
piece_after b p = from_byte (suc (index_of b p.bytes)) p

abbrev pub is_empty : Piece → Bool
is_empty p = eqb (length p.bytes) 0

-- "Lines end at LF"; a text that ends with LF has no line after it
unfoldable pub lines : List ℕ → List (List ℕ)
lines [] = []
lines (b ∷ bs) = cond (eqb b 10) ([] ∷ lines bs) (cons_first b (lines bs))

-- the lines as pieces, the first of which starts at a place
unfoldable pub line_pieces : ℕ → List (List ℕ) → List Piece
line_pieces at [] = []
line_pieces at (l ∷ ls) = piece at l ∷ line_pieces (suc (at + length l)) ls

-- "A line is cut at its first `;`, then at its first `#`, then trimmed": its statement
abbrev pub statement_of : Piece → Piece
statement_of l = trim_piece (piece l.at (uncommented l.bytes))
