-- A string's text as the code stores it: its escapes decoded, or as it stands.
use Rattle.std.specs.Prelude.{ℕ, ◌≡◌, List, cond, ltb, length}
use Rattle.std.specs.Prelude.{Option, Some}
use Rattle.numbers.specs.declared.strings.Quoted.{Quoted}
use Rattle.numbers.specs.Strings.{decoded}
use Rattle.numbers.specs.Code.Spans.{spanned}
use Rattle.numbers.specs.Code.Strings.{size_of, bytes_of}
use Rattle.layout.specs.Code.Spans.{SpanWithin}

-- what a text is stored as in n bytes: it is decoded where it has more
abbrev pub text_of : ℕ → List ℕ → Option (List ℕ)
text_of n s = cond (ltb n (length s)) (decoded s) (Some s)

abbrev pub text_bytes : ℕ → List ℕ → List ℕ
text_bytes n s = bytes_of (text_of n s)

-- it is stored in n bytes
abbrev pub StoredIn : ℕ → List ℕ → Type 0
StoredIn n s = size_of (text_of n s) ≡ Some n

abbrev pub text_at : List ℕ → Quoted → List ℕ
text_at t q = text_bytes q.size (spanned t q.part)

-- a string of the text t
abbrev pub TextFits : List ℕ → Quoted → Type 0
TextFits t q = SpanWithin t q.part × StoredIn q.size (spanned t q.part)
