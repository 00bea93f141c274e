-- `short::byte_at`: past the end stands no byte.
use mathlib.Core.Path.{sym}
use mathlib.Core.List.{[], ◌∷◌}
use native.Mathlib.Omega.{arith}
use lib.ListN.{drop, length-drop}
use borrow.Author.Rules.{rules}
use Rattle.numbers.proofs.Prefixes.{short, byte_there}
use Rattle.numbers.proofs.short.byte_at.Goals as goal

pub returns-then-s-at : goal.returns-then-s-at
returns-then-s-at c =
    let a = c.args in
    sym (short (a.b ∷ []) (drop a.at a.s.now) (omega (arith, length-drop a.at a.s.now)))

pub returns : goal.returns
returns c =
    let a = c.args in
    sym (byte_there a.b a.s.now a.at (search rules))
