-- The nine pseudo-instructions and the four others, by every spelling that `assemble` lists, and the words that an item reserves.
-- Document 01, "Lines to places"; document 02, W-202.
use Rattle.std.specs.Prelude.{ℕ, List, [], ◌∷◌, Bool, true, false, cond, ◌||◌, ◌&&◌, length, drop, ℤ}
use Rattle.std.specs.Prelude.{Option, None, Some}
use Rattle.numbers.specs.Text.{text, is_space, starts_with, same, one_spaced}
use Rattle.numbers.specs.Ints.{is_signed12}
use Rattle.numbers.specs.Numbers.{imm_of}
use Rattle.numbers.specs.Operands.{item_operands}
use Rattle.layout.specs.declared.pseudo.Pseudo.{Pseudo}
use Rattle.layout.specs.declared.pseudo.Pseudo.TheVariants.{Li, La, Push, Pop, Print, PrintStr, Read, ReadByte, Random}
use Rattle.layout.specs.Bytes.{count_before}

-- what an item is: an ordinary line, one of the nine, or one of the four others, which is 21
pub data Item : Type 0 where
  ordinary : Item
  pseudo : Pseudo → Item
  other : Item

-- a spelling, what it names, and whether it may end the line
pub record Spelling : Type 0 where
  pub name : List ℕ
  pub item : Item
  pub bare : Bool

abbrev spelled : List ℕ → Item → Bool → Spelling
spelled n i b = record { name = n; item = i; bare = b }

-- "A pseudo's name, in any spelling that `assemble` lists, is followed by a space or, except li, la, push, pop and random_bytes, ends
-- the line"
unfoldable pub spellings : List Spelling
spellings =
    spelled (text "li") (pseudo Li) false ∷
    spelled (text "la") (pseudo La) false ∷
    spelled (text "push") (pseudo Push) false ∷
    spelled (text "pop") (pseudo Pop) false ∷
    spelled (text "print") (pseudo Print) true ∷
    spelled (text "print_str") (pseudo PrintStr) true ∷
    spelled (text "printStr") (pseudo PrintStr) true ∷
    spelled (text "printString") (pseudo PrintStr) true ∷
    spelled (text "print_str_ln") other true ∷
    spelled (text "printStrLn") other true ∷
    spelled (text "read") (pseudo Read) true ∷
    spelled (text "read_byte") (pseudo ReadByte) true ∷
    spelled (text "readByte") (pseudo ReadByte) true ∷
    spelled (text "read_half") other true ∷
    spelled (text "readHalf") other true ∷
    spelled (text "read_word") other true ∷
    spelled (text "readWord") other true ∷
    spelled (text "random") (pseudo Random) true ∷
    spelled (text "random_bytes") other false ∷
    spelled (text "randomBytes") other false ∷ []

-- followed by a space, or the whole line
abbrev pub is_spelled : Spelling → List ℕ → Bool
is_spelled x s = starts_with x.name s && (starts_with (text " ") (drop (length x.name) s) || (x.bare && same x.name s))

-- "otherwise, as with a tab, it is an ordinary line"
unfoldable pub item_in : List Spelling → List ℕ → Item
item_in [] s = ordinary
item_in (x ∷ xs) s = cond (is_spelled x s) x.item (item_in xs s)

abbrev pub item_of : List ℕ → Item
item_of s = item_in spellings s

-- an item's operands: what follows its first word, "inside pseudos whitespace runs become one space", "empties dropped"
abbrev pub pseudo_operands : List ℕ → List (List ℕ)
pseudo_operands s = item_operands (one_spaced (drop (count_before is_space s) s))

-- is an li a single addi, by what its second operand reads as? Document 02, W-202: "Where li's second operand isn't a readable number, two words are
-- emitted". What an li reserves (`li_words`) and what it emits (`li_load`) both go by this
abbrev pub is_single : Option ℤ → Bool
is_single None = false
is_single (Some z) = is_signed12 z

-- "li reserves one word if it has fewer than two operands or its second reads as -2048 to 2047, else two"
abbrev pub li_words : List (List ℕ) → ℕ
li_words [] = 1
li_words (a ∷ []) = 1
li_words (a ∷ b ∷ bs) = cond (is_single (imm_of b)) 1 2

-- "Words reserved: la, push, pop 2; print 3; print_str 11; read 6; read_byte 4; random 8"
abbrev pub pseudo_words : Pseudo → List ℕ → ℕ
pseudo_words Li s = li_words (pseudo_operands s)
pseudo_words La s = 2
pseudo_words Push s = 2
pseudo_words Pop s = 2
pseudo_words Print s = 3
pseudo_words PrintStr s = 11
pseudo_words Read s = 6
pseudo_words ReadByte s = 4
pseudo_words Random s = 8

-- the words that an item reserves: "An ordinary instruction line yields an item and one text word"
abbrev pub reserved_words : Option Pseudo → List ℕ → ℕ
reserved_words None s = 1
reserved_words (Some p) s = pseudo_words p s

-- "kind (0 ordinary; 1 to 9 li, la, push, pop, print, print_str, read, read_byte, random)"
abbrev pub pseudo_kind : Pseudo → ℕ
pseudo_kind Li = 1
pseudo_kind La = 2
pseudo_kind Push = 3
pseudo_kind Pop = 4
pseudo_kind Print = 5
pseudo_kind PrintStr = 6
pseudo_kind Read = 7
pseudo_kind ReadByte = 8
pseudo_kind Random = 9

abbrev pub item_kind : Option Pseudo → ℕ
item_kind None = 0
item_kind (Some p) = pseudo_kind p
