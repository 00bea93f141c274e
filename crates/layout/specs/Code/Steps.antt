-- Steps of the code, and that there is something that they stand for.
use Rattle.std.specs.Prelude.{ℕ}
use Rattle.std.specs.Prelude.{Result}
pub use Rattle.numbers.specs.Code.Meanings.{Agrees}

-- there is something that P holds of
pub record Exists {A : Type 0} (P : A → Type 0) : Type 0 where
  pub it : A
  pub stands : P it

-- from a counter c and buffers b, for whatever they stand for: the answer r, with the buffers b', agrees with what f gives of it
abbrev pub Steps : {C B A : Type 0} → (C → B → A → Type 0) → C → B → Result C ℕ → B → (A → Result A ℕ) → Type 0
Steps {A = A} Stand c b r b' f = (x : A) → Stand c b x → Agrees (λ c'. Stand c' b') r (f x)
