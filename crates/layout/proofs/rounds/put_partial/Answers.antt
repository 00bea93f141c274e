-- `rounds::put_partial`: the row's two numbers are stored.
use Prim.Native.Nat.{◌*◌}
use mathlib.Core.Path.{refl}
use native.Mathlib.Omega.{arith}
use lib.ListN.{length-set}
use mir.Syntax.{w64}
use mir.Val.{SFits}
use mir.Facts.{to_z-of_z}
use borrow.Author.Rules.{rules}
use Rattle.layout.proofs.rounds.put_partial.Goals as goal

pub bounds-partials-row-2 : goal.bounds-partials-row-2
bounds-partials-row-2 c = omega (arith, c.requires, length-set c.args.partials.now (c.args.k * 2) c.bits_of_i64.result)

pub returns : goal.returns
returns c =
    let fit : SFits w64 c.args.from.sum = search rules in
    rw (c.bits_of_i64.ensures, to_z-of_z fit) refl
