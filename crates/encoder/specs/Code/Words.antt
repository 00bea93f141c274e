-- The words of instructions, put into what is lent.
use Rattle.std.specs.Borrow.{MutBor}
use denote.Triple.Both.{Both}
use Rattle.std.specs.Prelude.{◌≡◌, ℕ, List, ◌++◌, length, drop}
use Rattle.std.specs.Prelude.{Result}
use Rattle.numbers.specs.Code.Meanings.{Agrees}

-- n words stand at the start of what was lent, and the rest is unchanged
pub record WordsPut (d d' : List ℕ) (n : ℕ) (ws : List ℕ) : Type 0 where
  pub counted : n ≡ length ws
  pub put : d' ≡ ws ++ drop n d

-- how many words an answer says, and what is put, agree with what the instructions come to
abbrev pub Puts : Both (MutBor (List ℕ)) (MutBor (List ℕ)) → Result ℕ ℕ → Result (List ℕ) ℕ → Type 0
Puts d n x = Agrees (WordsPut d.entry.now d.exit.now) n x
