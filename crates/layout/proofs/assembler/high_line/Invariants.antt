-- `assembler::high_line`: what the check gives from here on is what it gives of the whole text.
use Prim.Native.Nat.{◌≤◌}
use mathlib.Core.Path.{◌≡◌}
use lib.ListN.{drop}
use Rattle.layout.specs.Layouts.{check_bytes}
use Rattle.layout.proofs.assembler.high_line.Given as goal

abbrev pub invariant-loop-b : goal.invariant-loop-b
invariant-loop-b l = (l.line ≤ l.b-index) × (check_bytes l.line (drop l.b-index l.text) ≡ check_bytes 0 l.text)
