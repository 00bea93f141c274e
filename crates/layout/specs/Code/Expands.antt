-- What an item's code stands for: a pseudo's operands as they are read and looked up, and an item's record.
use Rattle.std.specs.Prelude.{ℕ, ◌≤◌, ◌≡◌, List}
use Rattle.std.specs.Prelude.{Option}
use Rattle.numbers.specs.declared.text.Span.{Span}
use Rattle.std.specs.Prelude.{Result}
use Rattle.numbers.specs.Text.{one_spaced}
use Rattle.numbers.specs.Code.Spans.{spanned}
use Rattle.layout.specs.declared.pseudo.Pseudo.{Pseudo}
use Rattle.layout.specs.declared.records.ItemRecord.{ItemRecord}
use Rattle.layout.specs.declared.wanted.Wanted.{Wanted}
use Rattle.layout.specs.declared.wanted.Wanted.TheVariants as wanted
use Rattle.layout.specs.declared.expansions.Arguments.{Arguments}
use Rattle.layout.specs.declared.expansions.Arguments.TheVariants as arguments
use Rattle.layout.specs.Pseudos.{reserved_words, item_kind}
use Rattle.layout.specs.Addresses.{label_address}
use Rattle.layout.specs.Rounds.{constant}
use Rattle.layout.specs.Expansions as expansions
use Rattle.layout.specs.Layouts.{emission}
use Rattle.layout.specs.Code.Names.{Scope}
use Rattle.layout.specs.declared.refusal.Refusal as code
use Rattle.layout.specs.Code.Numbers.{numbered}
use Rattle.numbers.specs.Results.{mapped}

-- ---- operands and names

-- the operands that are read, spans of a source
abbrev pub wanted_of : List ℕ → Wanted → expansions.Wanted
wanted_of s (wanted.Register rd) = expansions.register rd.0
wanted_of s (wanted.Number rd z) = expansions.number rd.0 z
wanted_of s (wanted.Equate rd p) = expansions.equate rd.0 (one_spaced (spanned s p))
wanted_of s (wanted.Label p) = expansions.label (one_spaced (spanned s p))
wanted_of s (wanted.RegisterLabel rd p) = expansions.register_label rd.0 (one_spaced (spanned s p))

-- the same, or a refusal's number
abbrev pub wanted_as : List ℕ → Result Wanted code.Refusal → Result expansions.Wanted ℕ
wanted_as s r = mapped (wanted_of s) (numbered r)

-- what they come to
abbrev pub arguments_of : Arguments → expansions.Arguments
arguments_of (arguments.Word rd b) = expansions.word rd.0 b
arguments_of (arguments.Single rd z) = expansions.single rd.0 z

-- the same, or a refusal's number
abbrev pub looked_up_as : Result Arguments code.Refusal → Result expansions.Arguments ℕ
looked_up_as r = mapped arguments_of (numbered r)

-- what a pseudo's operands come to, and what an item emits, by the names in a scope
abbrev pub looked_up_in : Scope → expansions.Wanted → Result expansions.Arguments ℕ
looked_up_in s w = expansions.looked_up (constant s.known) (label_address s.base s.state) w

abbrev pub emission_in : Scope → Option Pseudo → List ℕ → Result (List ℕ) ℕ
emission_in s item x = emission (constant s.known) (label_address s.base s.state) item x

-- ---- items

-- where an item's source stands
abbrev pub source_span : ItemRecord → Span
source_span r = record { start = r.start; len = r.len }

-- a record is of this item, and there is room for the words that it reserves
pub record ItemRecordFits (t : List ℕ) (n : ℕ) (r : ItemRecord) (item : Option Pseudo) : Type 0 where
  pub kind : r.kind ≡ item_kind item
  pub room : reserved_words item (spanned t (source_span r)) ≤ n
