-- `text::same_bytes`: the invariant says that from i on the bytes are the same.
use Prim.Native.Nat.{◌-◌}
use mathlib.Core.Path.{◌≡◌, refl, sym}
use native.Mathlib.Omega.{arith}
use lib.ListN.{length, drop_of_length-le}
use borrow.Author.Rules.{rules}
use Rattle.numbers.proofs.Prefixes.{same_unlike, byte_differs, byte-same, bytes_same}
use Rattle.numbers.proofs.text.same_bytes.Goals as goal

pub returns-then-a-b : goal.returns-then-a-b
returns-then-a-b c = sym (same_unlike _ _ c.if-a-b.true)

pub loop-i-init : goal.loop-i-init
loop-i-init c =
    let a = c.args.a.now in
    let b = c.args.b.now in
    let same_size : length a ≡ length b = c.if-a-b.false in
    (search rules, same_size, rw (drop_of_length-le a {i = length a} (search rules), drop_of_length-le b {i = length a} (omega (arith, same_size))) refl)

pub returns-then-a-i : goal.returns-then-a-i
returns-then-a-i c =
    let args = c.args in
    sym (byte_differs args.a.now args.b.now (c.loop-i.i - 1) c.if-a-i.true)

pub loop-i-preserved : goal.loop-i-preserved
loop-i-preserved c =
    let args = c.args in
    let h = c.loop-i.invariant in
    (search rules, h.1, byte-same args.a.now args.b.now c.loop-i.i (search rules) h.0 h.1 c.if-a-i.false h.2)

pub returns : goal.returns
returns c = sym (bytes_same c.args.a.now c.args.b.now c.loop-i.i (search rules) c.loop-i.invariant.2)
