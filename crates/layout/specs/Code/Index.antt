-- An index over names: which names fall into a bucket, and what its entries hold.
use Rattle.std.specs.Prelude.{ℕ, zero, suc, ◌+◌, ◌*◌, ◌/◌, ◌%◌, ◌≤◌, ◌<◌, ◌≡◌, true, false, List, [], ◌∷◌, eqb, length, get_or, set}
use Rattle.numbers.specs.Text.{same}
use Rattle.layout.specs.Limits.{label_limit}

-- ---- buckets

abbrev pub buckets : ℕ
buckets = 1024

-- a name's bytes, two at a time, the last alone where they are odd
unfoldable pub mixed : ℕ → List ℕ → ℕ
mixed h [] = h
mixed h (x ∷ []) = (h * 2654435761 + x) % 4294967296
mixed h (x ∷ y ∷ ys) = mixed ((h * 2654435761 + (x + 256 * y)) % 4294967296) ys

-- a name's bucket: the upper bits, after they have met the last bytes too
unfoldable pub bucket_of : List ℕ → ℕ
bucket_of s = mixed 0 s * 2654435761 % 4294967296 / 4194304

-- ---- entries

-- names by number
abbrev pub name_at : List (List ℕ) → ℕ → List ℕ
name_at ns k = get_or ns k []

-- one more than the number of the last of the first m names in a bucket, or 0 where there is none
unfoldable pub last_in : List (List ℕ) → ℕ → ℕ → ℕ
last_in ns b zero = 0
last_in ns b (suc m) = elim (eqb (bucket_of (name_at ns m)) b) [ true ↦ suc m | false ↦ last_in ns b m ]

-- the index of names: each bucket has its last name and, behind the buckets, each name the one before it in its bucket
pub record Indexed (ns : List (List ℕ)) (ix : List ℕ) : Type 0 where
  pub room : buckets + length ns ≤ length ix
  pub head : (b : ℕ) → b < buckets → get_or ix b 0 ≡ last_in ns b (length ns)
  pub next : (k : ℕ) → k < length ns → get_or ix (buckets + k) 0 ≡ last_in ns (bucket_of (name_at ns k)) k

-- no two names are the same
abbrev pub Distinct : List (List ℕ) → Type 0
Distinct ns = (i j : ℕ) → i < j → j < length ns → same (name_at ns i) (name_at ns j) ≡ false

-- one name more, the nth, at the head of its bucket
abbrev pub inserted : ℕ → ℕ → List ℕ → List ℕ
inserted n b ix = set (set ix (buckets + n) (get_or ix b 0)) b (n + 1)

-- the labels' index
abbrev pub label_index_room : ℕ
label_index_room = buckets + label_limit
