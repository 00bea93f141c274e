-- The rows of the table of directives as the code has them, and its answers about zeros.
use Rattle.std.specs.Prelude.{ℕ, zero, suc, ◌≤◌, List, [], ◌∷◌, map, cond, length}
use Rattle.std.specs.Prelude.{Option, None, Some}
use Rattle.std.specs.Prelude.{Result, Ok, Err}
use Rattle.numbers.specs.Code.Tables.{row_of, prefix_slot, TableOf}
use Rattle.layout.specs.declared.directives.Width.TheVariants.{Byte, Half, Word, Dword}
use Rattle.layout.specs.declared.directives.Reserve.TheVariants.{Space, Align}
use Rattle.layout.specs.declared.directives.Store.{Store}
use Rattle.layout.specs.declared.directives.Store.TheVariants.{Numbers, Text, Float}
use Rattle.layout.specs.declared.directives.Source.{Source}
use Rattle.layout.specs.declared.directives.Source.TheVariants as source
use Rattle.layout.specs.declared.directives.Directive.{Directive}
use Rattle.layout.specs.declared.directives.Directive.TheVariants.{Symbol, Ignored, Equate, Reserves, Stores}
use Rattle.layout.specs.declared.directives.Reservation.{Reservation}
use Rattle.layout.specs.declared.directives.Reservation.TheVariants.{Zeros, Aligns}
use Rattle.layout.specs.Directives.{Row, directives}
use Rattle.layout.specs.declared.refusal.Refusal as code
use Rattle.layout.specs.declared.directives.Spelling.{Spelling}

-- a directive as a number in a row; a string that adds more than one byte 0 is none
abbrev pub directive_number : Directive → ℕ
directive_number Symbol = 0
directive_number Ignored = 1
directive_number Equate = 2
directive_number (Reserves Align) = 3
directive_number (Reserves Space) = 4
directive_number (Stores (Numbers Byte)) = 5
directive_number (Stores (Numbers Half)) = 6
directive_number (Stores (Numbers Word)) = 7
directive_number (Stores (Numbers Dword)) = 8
directive_number (Stores Float) = 9
directive_number (Stores (Text zero)) = 11
directive_number (Stores (Text (suc zero))) = 10
directive_number (Stores (Text (suc (suc z)))) = 12

-- a directive's row: its name, how long that is, what it is and whether the data section has it
abbrev pub directive_row : Row → List ℕ
directive_row r = row_of r.name (length r.name ∷ directive_number r.directive ∷ cond r.in_data 1 0 ∷ [])

-- the table of all directives, which is lent
abbrev pub DirectiveNames : List ℕ → Type 0
DirectiveNames t = TableOf prefix_slot (map directive_row directives) t

abbrev pub row_code : Option Row → Option Spelling
row_code None = None
row_code (Some r) = Some (record { directive = r.directive; len = length r.name; in_data = r.in_data })

-- a string adds one byte 0 at most
abbrev pub FewZeros : Store → Type 0
FewZeros (Numbers w) = Unit
FewZeros (Text zeros) = zeros ≤ 1
FewZeros Float = Unit

abbrev pub SourceFits : Source → Type 0
SourceFits (source.Stores x) = FewZeros x
SourceFits (source.String zeros) = zeros ≤ 1
SourceFits (source.Reserves x) = Unit

-- a name is no longer than the statement that begins with it
abbrev pub DirectiveFits : Directive → Type 0
DirectiveFits Symbol = Unit
DirectiveFits Ignored = Unit
DirectiveFits Equate = Unit
DirectiveFits (Reserves x) = Unit
DirectiveFits (Stores x) = FewZeros x

abbrev pub SpelledWithin : Option Spelling → ℕ → Type 0
SpelledWithin (Some s) n = (s.len ≤ n) × DirectiveFits s.directive
SpelledWithin None n = Unit

-- ---- zeros

-- a size of 32 bits; an alignment is 1 at least
abbrev pub Small : Reservation → Type 0
Small (Zeros n) = n ≤ 4294967296
Small (Aligns n) = (1 ≤ n) × (n ≤ 4294967296)

abbrev pub ReservedSmall : Result Reservation code.Refusal → Type 0
ReservedSmall (Ok r) = Small r
ReservedSmall (Err n) = Unit
