-- Tests of a byte that a caller passes.
use Rattle.std.specs.Prelude.{ℕ, Bool, ◌≡◌}

-- what each call answers is what the test gives
abbrev pub Computes : (ℕ → Bool → Type 0) → (ℕ → Bool) → Type 0
Computes post test = (x : ℕ) (b : Bool) → post x b → b ≡ test x
