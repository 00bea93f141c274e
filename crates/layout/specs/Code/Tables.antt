-- The layout's own records, and how names are looked up in the labels' records.
use Rattle.std.specs.Prelude.{ℕ, zero, suc, ◌+◌, ◌*◌, ◌≤◌, ◌<◌, ◌≡◌, List, [], ◌∷◌, ◌++◌, Bool, true, false, eqb, length}
use Rattle.std.specs.Prelude.{Option, None, Some}
use Rattle.numbers.specs.Text.{same}
use Rattle.numbers.specs.Code.Spans.{spanned}
use Rattle.layout.specs.declared.records.ExprRecord.{ExprRecord}
use Rattle.layout.specs.declared.records.LabelWordRecord.{LabelWordRecord}
use Rattle.layout.specs.declared.labels.Labels.{Labels}
use Rattle.layout.specs.Limits.{label_size, equate_limit, label_word_limit}
use Rattle.layout.specs.Records.{RecordField, four, four_at, label_record_at, equate_record_at}
use Rattle.layout.specs.Code.Index.{Indexed, Distinct}

-- so many numbers of four bytes, from a place on
abbrev pub words_at : ℕ → List ℕ → ℕ → List ℕ
words_at zero b at = []
words_at (suc n) b at = words_at n b at ++ four_at b (at + 4 * n) ∷ []

-- ---- an equate's expression, and a label word: 16 bytes each

abbrev pub expr_size : ℕ
expr_size = 16

abbrev pub label_word_size : ℕ
label_word_size = 16

-- the bytes that are kept for all of them
abbrev pub expr_room : ℕ
expr_room = equate_limit * expr_size

abbrev pub label_word_room : ℕ
label_word_room = label_word_limit * label_word_size

abbrev pub flag_of : Bool → ℕ
flag_of true = 1
flag_of false = 0

abbrev pub expr_fields : ExprRecord → List RecordField
expr_fields r = four r.start ∷ four r.len ∷ four (flag_of r.one_space) ∷ four r.place ∷ []

abbrev pub label_word_fields : LabelWordRecord → List RecordField
label_word_fields r = four r.at ∷ four r.start ∷ four r.len ∷ four r.line ∷ []

-- ---- read back

-- the kth record of a table
abbrev pub expr_record_at : List ℕ → ℕ → ExprRecord
expr_record_at b k =
    record {
      start = four_at b (k * expr_size);
      len = four_at b (k * expr_size + 4);
      one_space = eqb (four_at b (k * expr_size + 8)) 1;
      place = four_at b (k * expr_size + 12);
    }

abbrev pub label_word_record_at : List ℕ → ℕ → LabelWordRecord
label_word_record_at b k =
    record {
      at = four_at b (k * label_word_size);
      start = four_at b (k * label_word_size + 4);
      len = four_at b (k * label_word_size + 8);
      line = four_at b (k * label_word_size + 12);
    }

-- ---- labels by name

-- the name in the kth label record, and those in n records from the kth on
abbrev pub label_name_at : List ℕ → List ℕ → ℕ → List ℕ
label_name_at t b k = spanned t (record { start = (label_record_at b k).start; len = (label_record_at b k).len })

unfoldable pub label_names : List ℕ → List ℕ → ℕ → ℕ → List (List ℕ)
label_names t b k zero = []
label_names t b k (suc n) = label_name_at t b k ∷ label_names t b (suc k) n

-- the place of a name among names, counted from k on
unfoldable pub lookup_in : List ℕ → ℕ → List (List ℕ) → Option ℕ
lookup_in n k [] = None
lookup_in n k (x ∷ xs) = elim (same x n) [ true ↦ Some k | false ↦ lookup_in n (suc k) xs ]

-- what was found is one of so many
abbrev pub LookupBelow : ℕ → Option ℕ → Type 0
LookupBelow count (Some k) = k < count
LookupBelow count None = Unit

-- the index of so many labels' names, no two of them the same
pub record LabelsIndexed (t b ix : List ℕ) (count : ℕ) : Type 0 where
  pub lent : count * label_size ≤ length b
  pub indexed : Indexed (label_names t b 0 count) ix
  pub distinct : Distinct (label_names t b 0 count)

-- the same said of the code's labels
abbrev pub LabelsSearchable : Labels → Type 0
LabelsSearchable l = LabelsIndexed l.text.now l.records.now l.index.now l.count

-- what was found is what a search in order finds
abbrev pub LooksUp : Labels → List ℕ → Option ℕ → Type 0
LooksUp l n r = (r ≡ lookup_in n 0 (label_names l.text.now l.records.now 0 l.count)) × LookupBelow l.count r

-- ---- equates by name

abbrev pub equate_name_at : List ℕ → List ℕ → ℕ → List ℕ
equate_name_at t b k = spanned t (record { start = (equate_record_at b k).start; len = (equate_record_at b k).len })

unfoldable pub equate_names : List ℕ → List ℕ → ℕ → ℕ → List (List ℕ)
equate_names t b k zero = []
equate_names t b k (suc n) = equate_name_at t b k ∷ equate_names t b (suc k) n
