-- The numbers of refusals, by which the definitions know them.
use Rattle.std.specs.Prelude.{ℕ, Result, Ok, Err}
use Rattle.encoder.specs.Code.Meanings as encoder
use Rattle.layout.specs.declared.refusal.Refusal as code
use Rattle.layout.specs.declared.refusal.Refusal.TheVariants as refusal
use Rattle.layout.specs.declared.refusal.RefusedAt.{RefusedAt}
use Rattle.layout.specs.Refusals.{Refusal}

abbrev pub refusal_number : code.Refusal → ℕ
refusal_number refusal.HighByte = 1
refusal_number refusal.MissingSectionName = 2
refusal_number refusal.UnknownSection = 3
refusal_number refusal.MissingSymbol = 4
refusal_number refusal.MalformedEquate = 5
refusal_number refusal.InvalidNumber = 6
refusal_number refusal.NumberOutOfRange = 7
refusal_number refusal.InvalidWord = 8
refusal_number refusal.InvalidString = 9
refusal_number refusal.UnknownDataDirective = 10
refusal_number refusal.UnknownBssDirective = 11
refusal_number refusal.StoresInBss = 12
refusal_number refusal.UndefinedLabelWord = 13
refusal_number refusal.EquateIsLabel = 14
refusal_number refusal.DuplicateEquate = 15
refusal_number refusal.MalformedExpression = 16
refusal_number refusal.UnresolvedEquate = 17
refusal_number refusal.WrongOperands = 18
refusal_number refusal.UnknownConstant = 19
refusal_number refusal.UnknownLabel = 20
refusal_number refusal.Unsupported = 21
refusal_number (refusal.Encoding e) = encoder.refusal_number e
refusal_number refusal.ExpressionOverflow = 24
refusal_number refusal.BaseTooHigh = 40
refusal_number refusal.TextTooLong = 41
refusal_number refusal.DataFull = 42
refusal_number refusal.BssFull = 43
refusal_number refusal.WordsFull = 44
refusal_number refusal.LabelsFull = 45
refusal_number refusal.EquatesFull = 46
refusal_number refusal.LabelWordsFull = 47
refusal_number refusal.ItemsFull = 48

-- what a line's rule comes to: a refusal is its number
abbrev pub numbered : {A : Type 0} → Result A code.Refusal → Result A ℕ
numbered (Ok a) = Ok a
numbered (Err r) = Err (refusal_number r)

-- what a stage comes to: a refusal is its number and its line
abbrev pub numbered_at : {A : Type 0} → Result A RefusedAt → Result A Refusal
numbered_at (Ok a) = Ok a
numbered_at (Err r) = Err (record { number = refusal_number r.refusal; line = r.line })
