-- What the code's writes into the data mean.
use Rattle.std.specs.Prelude.{Some, None}
use Rattle.std.specs.Prelude.{Option}
use Rattle.std.specs.Prelude.{ℕ, ◌+◌, ◌≤◌, ◌<◌, ◌≡◌, List, [], ◌∷◌, ◌++◌, map, cond, eqb, length, replicate}
use Rattle.std.specs.Prelude.{Result, Ok, Err}
use Rattle.numbers.specs.Results.{mapped}
use Rattle.numbers.specs.Ints.{bits}
use Rattle.numbers.specs.Numbers.{imm_of}
use Rattle.numbers.specs.Strings.{string_bytes}
use Rattle.numbers.specs.Code.Spans.{spanned}
use Rattle.numbers.specs.Code.Cursors.{operands_from}
use Rattle.layout.specs.declared.directives.Source.{Source}
use Rattle.layout.specs.declared.directives.Source.TheVariants.{Stores, String, Reserves}
use Rattle.layout.specs.declared.data.Write as code
use Rattle.layout.specs.declared.data.Write.TheVariants as kind
use Rattle.layout.specs.declared.data.Readings.{Readings}
use Rattle.layout.specs.declared.data.Readings.TheVariants as readings
use Rattle.layout.specs.Bytes.{little_endian}
use Rattle.layout.specs.Directives.{Write, bytes, gap, address_of, width_bytes, reservation, operand_write, string_write, store_writes}
use Rattle.layout.specs.Code.Spans.{SpanWithin}
use Rattle.layout.specs.Code.Rows.{Small}
use Rattle.layout.specs.Code.Texts.{text_at, TextFits}
use Rattle.layout.specs.Code.Steps.{Exists}
use Rattle.layout.specs.declared.refusal.Refusal as refusals
use Rattle.layout.specs.Code.Numbers.{refusal_number, numbered}

abbrev pub write_at : List ℕ → code.Write → Write
write_at t (kind.Number w v) = bytes (little_endian (width_bytes w) (bits 64 v))
write_at t (kind.Text q zeros) = bytes (text_at t q ++ replicate zeros 0)
write_at t (kind.Gap r) = gap r
write_at t (kind.Address q) = address_of (spanned t q)

abbrev pub reading_at : List ℕ → Result code.Write refusals.Refusal → Result Write ℕ
reading_at t r = mapped (write_at t) (numbered r)

-- its spans lie within the text, its sizes are small
abbrev pub WriteFits : List ℕ → code.Write → Type 0
WriteFits t (kind.Number w v) = Unit
WriteFits t (kind.Text q zeros) = TextFits t q × (zeros ≤ 1)
WriteFits t (kind.Gap r) = Small r
WriteFits t (kind.Address q) = SpanWithin t q

abbrev pub ReadingFits : List ℕ → Result code.Write refusals.Refusal → Type 0
ReadingFits t (Ok w) = WriteFits t w
ReadingFits t (Err n) = Unit

-- the n bytes that it puts into the data, and that n is a string's length
abbrev pub written_bytes : List ℕ → ℕ → code.Write → List ℕ
written_bytes t n (kind.Number w v) = little_endian n (bits 64 v)
written_bytes t n (kind.Text q zeros) = text_at t q ++ replicate zeros 0
written_bytes t n (kind.Gap r) = replicate n 0
written_bytes t n (kind.Address q) = replicate n 0

abbrev pub TextSized : code.Write → ℕ → Type 0
TextSized (kind.Number w v) n = Unit
TextSized (kind.Text q zeros) n = n ≡ q.size + zeros
TextSized (kind.Gap r) n = Unit
TextSized (kind.Address q) n = Unit

-- ---- reading by reading

-- what a directive writes in data, by what follows its name
abbrev pub source_readings : Source → List ℕ → List (Result Write ℕ)
source_readings (Stores x) s = store_writes x s
source_readings (String zeros) s = string_write zeros (string_bytes s) ∷ []
source_readings (Reserves x) s = mapped gap (reservation x (imm_of s)) ∷ []

-- what the code reads from a place on; what is read at once is read at the start
abbrev pub readings_from : List ℕ → Readings → List ℕ → ℕ → List (Result Write ℕ)
readings_from t (readings.Numbers w) s at = map (operand_write w) (operands_from s at)
readings_from t (readings.Once r) s at = cond (eqb at 0) (reading_at t r ∷ []) []

abbrev pub ReadingsFit : List ℕ → Readings → Type 0
ReadingsFit t (readings.Numbers w) = Unit
ReadingsFit t (readings.Once r) = ReadingFits t r

-- what the code reads from a place on is the first of the readings there, and the others are those from a later place on; or none is left
abbrev pub NextIs : List ℕ → Readings → List ℕ → ℕ → Result (Option (code.Write × ℕ)) refusals.Refusal → Type 0
NextIs t x s at (Ok (Some (w, after))) =
    (readings_from t x s at ≡ Ok (write_at t w) ∷ readings_from t x s after) × WriteFits t w × (at < after) × (after ≤ length s + 1)
NextIs t x s at (Err n) = Exists (λ rs. readings_from t x s at ≡ Err (refusal_number n) ∷ rs)
NextIs t x s at (Ok None) = readings_from t x s at ≡ []
