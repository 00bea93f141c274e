-- What is checked before the lines are read.
use Rattle.std.specs.Prelude.{ℕ, List, [], ◌∷◌, Bool, false, ◌||◌, ltb}

-- is one byte above 127?
unfoldable pub any_high : List ℕ → Bool
any_high [] = false
any_high (b ∷ bs) = ltb 127 b || any_high bs
