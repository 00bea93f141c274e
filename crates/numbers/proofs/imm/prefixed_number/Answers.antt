-- `imm::prefixed_number`: the digits after the prefix, in its base.
use Prim.Native.Nat.{◌≤◌}
use mathlib.Core.Path.{◌≡◌, ◌∙◌}
use native.Mathlib.Omega.{arith}
use lib.ListN.{length, drop}
use Rattle.numbers.specs.Numbers.{signed_digits, prefixed}
use Rattle.numbers.specs.Code.Meanings.{base_of}
use Rattle.numbers.proofs.Trims.{tail}
use Rattle.numbers.proofs.Starts.{prefixed-by}
use Rattle.numbers.proofs.imm.prefixed_number.Goals as goal
use Rattle.numbers.proofs.imm.prefixed_number.Goals.{After-prefix_of-prefix}

-- what follows from the prefix that was found
found : (c : After-prefix_of-prefix) → let s = c.args.s.now in let p = c.prefix_of-prefix.result in
    (signed_digits (base_of p.radix) (drop p.len s) ≡ prefixed s) × (p.len ≤ length s)
found c = prefixed-by c.args.s.now c.prefix_of-prefix.result c.prefix_of-prefix.ensures

pub slice_bounds-signed_digits-count : goal.slice_bounds-signed_digits-count
slice_bounds-signed_digits-count c = omega (arith, (found c).1)

pub slice_bounds-signed_digits-start : goal.slice_bounds-signed_digits-start
slice_bounds-signed_digits-start c = omega (arith, (found c).1)

pub returns : goal.returns
returns c = rw tail at c.signed_digits.ensures ∙ (found (goal.at.returns c).After-prefix_of-prefix).0
