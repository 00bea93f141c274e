-- What has been laid out so far, nested as the rules take it: a line's label; then an equate; then what the section's own rule writes.
use Rattle.std.specs.Prelude.{ℕ, ◌*◌, List, [], length}
use Rattle.std.specs.Prelude.{Option}
use Rattle.layout.specs.declared.state.Section.{Section}
use Rattle.layout.specs.declared.state.Section.TheVariants as section
use Rattle.layout.specs.declared.state.Place.{Place}
use Rattle.layout.specs.declared.pseudo.Pseudo.{Pseudo}
use Rattle.layout.specs.Pieces.{Piece}
use Rattle.layout.specs.Statements.{Expr}

pub record Label : Type 0 where
  pub name : Piece
  pub place : Place
  pub line : ℕ

pub record Equate : Type 0 where
  pub name : Piece
  pub expr : Expr
  pub place : Place
  pub line : ℕ

pub record ItemLine : Type 0 where
  pub offset : ℕ
  pub line : ℕ
  -- none for an ordinary line
  pub item : Option Pseudo
  pub source : Piece

-- a `.word` of a label: where it stands in the data
pub record LabelWord : Type 0 where
  pub at : ℕ
  pub name : List ℕ
  pub line : ℕ

-- the items, and the words that they reserve
pub record Items : Type 0 where
  pub list : List ItemLine
  pub words : ℕ

-- the data's bytes, and the label words among them
pub record Stored : Type 0 where
  pub bytes : List ℕ
  pub label_words : List LabelWord

-- what the sections' own rules write, and the section that the layout is in
pub record Own : Type 0 where
  pub section : Section
  pub items : Items
  pub stored : Stored
  pub bss : ℕ

pub record Rest : Type 0 where
  pub equates : List Equate
  pub own : Own

pub record State : Type 0 where
  pub labels : List Label
  pub rest : Rest

abbrev pub start : State
start =
    record {
      labels = [];
      rest = record {
        equates = [];
        own = record {
          section = section.Text;
          items = record { list = []; words = 0 };
          stored = record { bytes = []; label_words = [] };
          bss = 0;
        };
      };
    }

-- "A line's address, also its label's, is its section's start plus the bytes reserved there above it": the section, and those bytes
abbrev pub offset_in : Section → Own → ℕ
offset_in section.Text σ = 4 * σ.items.words
offset_in section.Data σ = length σ.stored.bytes
offset_in section.Bss σ = σ.bss

abbrev pub here : Own → Place
here σ = record { section = σ.section; offset = offset_in σ.section σ }
