-- What the program's writers leave in a buffer.
use Rattle.std.specs.Prelude.{ℕ, ◌≡◌, List, ◌++◌, length, drop}

-- the buffer begins with these bytes, r of them, and its remainder is unchanged
pub record Begins (vs before after : List ℕ) (r : ℕ) : Type 0 where
  pub count : r ≡ length vs
  pub bytes : after ≡ vs ++ drop r before
