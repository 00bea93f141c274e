-- The tokens of an expression by the place where each stands.
use Rattle.std.specs.Prelude.{ℕ, ◌+◌, ◌≤◌, ◌<◌, ◌≡◌, List, [], ◌∷◌, Bool, cond, eqb, length, drop, get_or, ℤ}
use Rattle.std.specs.Prelude.{Option, None, Some}
use Rattle.numbers.specs.Text.{byte, one_spaced}
use Rattle.numbers.specs.Code.Spans.{spanned}
use Rattle.numbers.specs.Code.Cursors.{is_separator}
use Rattle.layout.specs.declared.tokens.Token as code
use Rattle.layout.specs.declared.tokens.Token.TheVariants as kind
use Rattle.layout.specs.Expressions.{Token, plus, minus, dot, number, name, unreadable, is_blank, positive, negative, scan, tokens}
use Rattle.layout.specs.Code.Spans.{SpanWithin}

-- a token of a text, its name spelled out
abbrev pub token_of : List ℕ → code.Token → Token
token_of s kind.Plus = plus
token_of s kind.Minus = minus
token_of s kind.Dot = dot
token_of s (kind.Number z) = number z
token_of s (kind.Name p) = name (spanned s p)
token_of s kind.Unreadable = unreadable

-- what a byte is as a sign
abbrev pub sign_of : ℕ → Option Bool
sign_of b = cond (eqb b (byte "+")) (Some positive) (cond (eqb b (byte "-")) (Some negative) None)

-- the token of what a number's bytes read as (`number_token`)
abbrev pub numeral : Option ℤ → code.Token
numeral None = kind.Unreadable
numeral (Some z) = kind.Number z

-- a name lies within the text
abbrev pub TokenWithin : List ℕ → code.Token → Type 0
TokenWithin s kind.Plus = Unit
TokenWithin s kind.Minus = Unit
TokenWithin s kind.Dot = Unit
TokenWithin s (kind.Number z) = Unit
TokenWithin s (kind.Name p) = SpanWithin s p
TokenWithin s kind.Unreadable = Unit

-- the token that stands at a place is what `scan` gives there, up to the place after it
pub record TokenStands (s : List ℕ) (at : ℕ) (t : code.Token) (after : ℕ) : Type 0 where
  pub token : (scan (get_or s at 0) (drop at s)).token ≡ token_of s t
  pub next : after ≡ at + (scan (get_or s at 0) (drop at s)).size
  pub start : at < length s
  pub within : after ≤ length s
  pub named : TokenWithin s t

abbrev pub TokenHere : List ℕ → ℕ → Option (code.Token × ℕ) → Type 0
TokenHere s at (Some (t, after)) = TokenStands s at t after
TokenHere s at None = length s ≤ at

-- a text as an expression is read: as it stands, or with one space for each run of white space (`expr_text`)
abbrev pub spaced_in : Bool → List ℕ → List ℕ
spaced_in one_space s = cond one_space (one_spaced s) s

-- what is a blank of the text itself in each: in the second all white space
abbrev pub blank_in : Bool → ℕ → Bool
blank_in one_space b = cond one_space (is_separator b) (is_blank b)

-- the tokens from a place on
unfoldable pub tokens_from : Bool → List ℕ → ℕ → List Token
tokens_from one_space s at = tokens (spaced_in one_space (drop at s))

-- a token and the place after it: the tokens from a place on are that one and those from there on
pub record TokenLeads (one_space : Bool) (s : List ℕ) (at : ℕ) (t : code.Token) (after : ℕ) : Type 0 where
  pub leads : tokens_from one_space s at ≡ token_of s t ∷ tokens_from one_space s after
  pub further : at < after
  pub within : after ≤ length s
  pub named : TokenWithin s t

abbrev pub TokenFrom : Bool → List ℕ → ℕ → Option (code.Token × ℕ) → Type 0
TokenFrom one_space s at (Some (t, after)) = TokenLeads one_space s at t after
TokenFrom one_space s at None = tokens_from one_space s at ≡ []
