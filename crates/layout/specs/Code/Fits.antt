-- What has been laid out fits: the names of labels and equates, expressions and items' sources are pieces of the text, its counts are
-- within the room. What every step of the line stage keeps.
use Rattle.std.specs.Prelude.{ℕ, ◌+◌, ◌*◌, ◌≤◌, ◌<◌, ◌≡◌, List, [], ◌∷◌, length, take, drop}
use Rattle.layout.specs.declared.state.Section.TheVariants as section
use Rattle.layout.specs.declared.limits.Room.{Room}
use Rattle.layout.specs.Limits.{bss_limit, label_word_limit}
use Rattle.layout.specs.Pieces.{Piece}
use Rattle.layout.specs.Pseudos.{reserved_words}
use Rattle.layout.specs.State.{Label, Equate, ItemLine, LabelWord, Items, Stored, Own, Rest, State}
use Rattle.layout.specs.Code.Places.{section_limit, PlaceFits}

-- a property of every element of a list
abbrev pub Each : {A : Type 0} → (A → Type 0) → List A → Type 0
Each P [] = Unit
Each P (x ∷ xs) = P x × Each P xs

-- the text has the piece's bytes where it starts
pub record Inside (t : List ℕ) (p : Piece) : Type 0 where
  pub within : p.at + length p.bytes ≤ length t
  pub is : take (length p.bytes) (drop p.at t) ≡ p.bytes

pub record LabelFits (t : List ℕ) (l : Label) : Type 0 where
  pub name : Inside t l.name
  pub place : PlaceFits l.place
  pub line : l.line < length t

pub record EquateFits (t : List ℕ) (e : Equate) : Type 0 where
  pub name : Inside t e.name
  pub source : Inside t e.expr.source
  pub place : PlaceFits e.place
  pub line : e.line < length t

-- the words that an item reserves lie within the section
pub record ItemFits (t : List ℕ) (x : ItemLine) : Type 0 where
  pub source : Inside t x.source
  pub place : x.offset + 4 * reserved_words x.item x.source.bytes ≤ section_limit section.Text
  pub line : x.line < length t

-- a label's address has its four bytes among n
pub record LabelWordFits (t : List ℕ) (n : ℕ) (w : LabelWord) : Type 0 where
  pub place : w.at + 4 ≤ n
  pub line : w.line < length t

-- items one behind the other: their words from the nth on, and up to the mth
abbrev pub Consecutive : ℕ → List ItemLine → ℕ → Type 0
Consecutive n [] m = n ≡ m
Consecutive n (x ∷ xs) m = (x.offset ≡ 4 * n) × Consecutive (n + reserved_words x.item x.source.bytes) xs m

-- each part within its room
pub record LabelsFit (t : List ℕ) (k : Room) (ls : List Label) : Type 0 where
  pub few : length ls ≤ k.labels
  pub each : Each (LabelFits t) ls

pub record EquatesFit (t : List ℕ) (k : Room) (es : List Equate) : Type 0 where
  pub few : length es ≤ k.equates
  pub each : Each (EquateFits t) es

-- the text's words are those that its items reserve
pub record ItemsFit (t : List ℕ) (k : Room) (σ : Items) : Type 0 where
  pub room : σ.words ≤ k.words
  pub consecutive : Consecutive 0 σ.list σ.words
  pub few : length σ.list ≤ k.items
  pub each : Each (ItemFits t) σ.list

pub record StoredFits (t : List ℕ) (k : Room) (σ : Stored) : Type 0 where
  pub room : length σ.bytes ≤ k.bytes
  pub few : length σ.label_words ≤ label_word_limit
  pub each : Each (LabelWordFits t (length σ.bytes)) σ.label_words

pub record OwnFits (t : List ℕ) (k : Room) (σ : Own) : Type 0 where
  pub items : ItemsFit t k σ.items
  pub stored : StoredFits t k σ.stored
  pub bss : σ.bss ≤ bss_limit

pub record RestFits (t : List ℕ) (k : Room) (σ : Rest) : Type 0 where
  pub equates : EquatesFit t k σ.equates
  pub own : OwnFits t k σ.own

-- what has been laid out fits
pub record Fits (t : List ℕ) (k : Room) (σ : State) : Type 0 where
  pub labels : LabelsFit t k σ.labels
  pub rest : RestFits t k σ.rest
