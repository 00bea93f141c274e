-- What was read of the input. Which bytes the system reads cannot be said.
use Rattle.std.specs.Prelude.{List, ℕ, Result, Ok, Err}
use Rattle.bench.specs.Code.Counts.{IsPrefixLen}

-- so many bytes stand at the buffer's start
abbrev pub Reads : {E : Type 0} → Result ℕ E → List ℕ → Type 0
Reads (Ok n) buf = IsPrefixLen n buf
Reads (Err e) buf = Unit
