-- What `assemble` promises, as its caller in C holds it.
use Prim.Native.Nat.{ℕ}
use native.Mathlib.Omega.{arith}
use mathlib.Core.Path.{◌≡◌, refl}
use mathlib.Core.List.{List}
use lib.ListN.{length, length-append, length-take, length-replicate}
use Rattle.std.proofs.Common.{Result, Ok, Err}
use Rattle.layout.specs.declared.assembler.Counts as counted
use Rattle.layout.specs.declared.refusal.RefusedAt.{RefusedAt}
use Rattle.layout.specs.Limits.{Lent}
use Rattle.layout.specs.Layouts.{Buffers}
use Rattle.layout.specs.Calls.{Assembled}
use Rattle.layout.specs.Code.Calls.{answer_in}
use Rattle.jig.specs.Called.{Called, numbers_of, numbers_lent}

-- as many numbers are left as there is room for
pub length_lent : (n : ℕ) (xs : List ℕ) → length (numbers_lent n xs) ≡ n
length_lent n xs = simp (length-append, length-replicate, length-take) (omega arith)

pub called : (t : List ℕ) (base : ℕ) (k : Lent) (n : ℕ) (r : Result counted.Counts RefusedAt) (cs : List ℕ) (b : Buffers)
    → Assembled t base k (answer_in r b) → cs ≡ numbers_lent n (numbers_of r) → Called t base k n (answer_in r b).number cs b
called t base k n (Ok c) cs b h e = record { answer = answer_in (Ok c) b; assembled = h; number = refl; counts = e; buffers = refl }
called t base k n (Err r) cs b h e = record { answer = answer_in (Err r) b; assembled = h; number = refl; counts = e; buffers = refl }
