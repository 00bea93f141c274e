-- Tables of names, as the code compares them: by a number for each name; by rows of 16 bytes, which stand slot by slot.
use Rattle.std.specs.Prelude.{ℕ, zero, suc, ◌+◌, ◌-◌, ◌*◌, ◌%◌, ◌≡◌, ◌≤◌, ◌<◌, List, [], ◌∷◌, ◌++◌, Bool, true, false, cond, not, ◌&&◌, eqb, ltb, length, take, drop, get_or, replicate}
use Rattle.std.specs.Prelude.{Option, None, Some, option_map}
use Rattle.numbers.specs.Text.{byte}

-- a name as one number: the first byte lowest, a 1 after the last; of texts of bytes no two have the same
unfoldable pub key_of : List ℕ → ℕ
key_of [] = 1
key_of (x ∷ xs) = key_of xs * 256 + x

-- has a text no blank?
unfoldable pub is_word : List ℕ → Bool
is_word [] = true
is_word (x ∷ xs) = not (eqb x (byte " ")) && is_word xs

-- ---- a row

-- a name, blanks up to 16 bytes in all, and in the last of them what stands beside the name
unfoldable pub row_of : List ℕ → List ℕ → List ℕ
row_of name columns = name ++ replicate (16 - length columns - length name) (byte " ") ++ columns

-- a row's name: what stands before its first blank
unfoldable pub row_name : List ℕ → List ℕ
row_name [] = []
row_name (x ∷ xs) = cond (eqb x (byte " ")) [] (x ∷ row_name xs)

-- ---- the slots, 0 to 63

-- where a word is looked up: by its first two bytes, its last and its length
unfoldable pub slot_of : List ℕ → ℕ
slot_of [] = 0
slot_of (a ∷ []) = 0
slot_of (a ∷ b ∷ w) = (14 * a + 19 * b + get_or (b ∷ w) (length w) 0 + 5 * (suc (suc (length w)) % 64)) % 64

-- where a text is looked up by its beginning: by its second byte and its third; fewer bytes have no slot
unfoldable pub prefix_slot : List ℕ → ℕ
prefix_slot [] = 64
prefix_slot (a ∷ []) = 64
prefix_slot (a ∷ b ∷ []) = 64
prefix_slot (a ∷ b ∷ c ∷ s) = (b + 3 * c) % 64

-- ---- a table, as a function of its rows in any order

-- a row before others, if it is kept
abbrev pub kept_if : Bool → List ℕ → List (List ℕ) → List (List ℕ)
kept_if true x rs = x ∷ rs
kept_if false x rs = rs

-- the rows whose names have slot k, in their order
unfoldable pub slot_rows : (List ℕ → ℕ) → ℕ → List (List ℕ) → List (List ℕ)
slot_rows slot k [] = []
slot_rows slot k (x ∷ rs) = kept_if (eqb (slot (row_name x)) k) x (slot_rows slot k rs)

-- the rows' bytes one after the other
unfoldable pub joined : List (List ℕ) → List ℕ
joined [] = []
joined (x ∷ rs) = x ++ joined rs

-- the rows of n slots from k on, slot by slot
unfoldable pub rows_from : (List ℕ → ℕ) → List (List ℕ) → (k n : ℕ) → List ℕ
rows_from slot rs k zero = []
rows_from slot rs k (suc n) = joined (slot_rows slot k rs) ++ rows_from slot rs (suc k) n

-- at which row each of n slots from k on begins, where the first begins at row i, and then where the last ends
unfoldable pub starts_from : (List ℕ → ℕ) → List (List ℕ) → (k i n : ℕ) → List ℕ
starts_from slot rs k i zero = i ∷ []
starts_from slot rs k i (suc n) = i ∷ starts_from slot rs (suc k) (i + length (slot_rows slot k rs)) n

-- the table: where each slot's rows begin, and where the last one's end; then the rows
unfoldable pub table_of : (List ℕ → ℕ) → List (List ℕ) → List ℕ
table_of slot rs = starts_from slot rs 0 0 64 ++ rows_from slot rs 0 64

-- do all meet a test?
unfoldable pub all : {A : Type 0} → (A → Bool) → List A → Bool
all test [] = true
all test (x ∷ xs) = test x && all test xs

-- a row has 16 bytes, and its name a slot
abbrev pub is_row : (List ℕ → ℕ) → List ℕ → Bool
is_row slot x = eqb (length x) 16 && ltb (slot (row_name x)) 64

-- a table of rows: the rule that a constant meets by computing
pub record TableOf (slot : List ℕ → ℕ) (rs : List (List ℕ)) (t : List ℕ) : Type 0 where
  pub each : all (is_row slot) rs ≡ true
  pub is : t ≡ table_of slot rs

-- a table of some rows
pub record Tabled (slot : List ℕ → ℕ) (t : List ℕ) : Type 0 where
  pub rs : List (List ℕ)
  pub table : TableOf slot rs t

-- ---- a look-up

-- the first that a test holds of
unfoldable pub first : {A : Type 0} → (A → Bool) → List A → Option A
first test [] = None
first test (x ∷ xs) = cond (test x) (Some x) (first test xs)

-- the row that is found in a table
abbrev pub found_row : List ℕ → Option ℕ → Option (List ℕ)
found_row t = option_map (λ at. take 16 (drop at t))

-- a test holds of rows of one slot only
abbrev pub OnlyIn : (List ℕ → ℕ) → ℕ → (List ℕ → Bool) → Type 0
OnlyIn slot k test = (x : List ℕ) → slot (row_name x) < 64 → test x ≡ true → slot (row_name x) ≡ k

-- what each call at a row's place in a table answers is what the test gives of the row
abbrev pub TestsRows : (ℕ → Bool → Type 0) → List ℕ → (List ℕ → Bool) → Type 0
TestsRows post t test = (at : ℕ) (b : Bool) → at + 16 ≤ length t → post at b → b ≡ test (take 16 (drop at t))

-- an answer is the first row that a test holds of, whatever rows the table is of
abbrev pub Finds : (List ℕ → ℕ) → (List ℕ → Bool) → List ℕ → Option ℕ → Type 0
Finds slot test t r = (rs : List (List ℕ)) → TableOf slot rs t → found_row t r ≡ first test rs
