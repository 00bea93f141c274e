-- Bytes and texts: what several rules share.
use Rattle.std.specs.Prelude.{ℕ, zero, suc, ◌+◌, ◌-◌, ◌/◌, ◌%◌, List, [], ◌∷◌, ◌++◌, Bool, true, false, cond, ◌&&◌, ◌||◌, ltb, leb, eqb, length, take, drop, replicate}
use Rattle.numbers.specs.Text.{byte, same}

-- "Bytes are little-endian": the w low bytes of v
unfoldable pub little_endian : ℕ → ℕ → List ℕ
little_endian zero v = []
little_endian (suc w) v = v % 256 ∷ little_endian w (v / 256)

-- xs with vs in place of what stands from a place on
abbrev pub put : ℕ → List ℕ → List ℕ → List ℕ
put at vs xs = take at xs ++ vs ++ drop (at + length vs) xs

-- "Output after the used part is zero": n numbers, of which xs are used (never more than n: `layout_fits`, `buffers_fit`)
abbrev pub padded : ℕ → List ℕ → List ℕ
padded n xs = xs ++ replicate (n - length xs) 0

unfoldable pub together : List (List ℕ) → List ℕ
together [] = []
together (r ∷ rs) = r ++ together rs

-- is s one of these?
abbrev pub is_one_of : List (List ℕ) → List ℕ → Bool
is_one_of [] s = false
is_one_of (n ∷ ns) s = same n s || is_one_of ns s

-- how many bytes stand before the first one that meets a test
unfoldable pub count_before : (ℕ → Bool) → List ℕ → ℕ
count_before test [] = 0
count_before test (x ∷ xs) = cond (test x) 0 (suc (count_before test xs))

abbrev pub is_letter : ℕ → Bool
is_letter b = (leb (byte "a") b && leb b (byte "z")) || (leb (byte "A") b && leb b (byte "Z"))

-- the order of texts by their bytes
unfoldable pub less_bytes : List ℕ → List ℕ → Bool
less_bytes [] [] = false
less_bytes [] (y ∷ ys) = true
less_bytes (x ∷ xs) [] = false
less_bytes (x ∷ xs) (y ∷ ys) = ltb x y || (eqb x y && less_bytes xs ys)
