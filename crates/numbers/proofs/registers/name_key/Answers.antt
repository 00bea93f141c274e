-- `registers::name_key`: the invariant says that the key is that of the text from i on, and bounds it by its length.
use Prim.Native.Nat.{◌+◌, ◌*◌}
use mathlib.Core.Path.{◌∙◌, ap}
use native.Mathlib.Omega.{arith}
use lib.ListN.{length}
use borrow.Author.Rules.{rules}
use Rattle.numbers.proofs.Names.{key_more, key_end, key_all, key_room, key_room_first}
use Rattle.numbers.proofs.registers.name_key.Goals as goal

pub loop-i-init : goal.loop-i-init
loop-i-init c = (search rules, key_room_first (length c.args.s.now), key_end c.args.s.now)

pub overflow_mul-key : goal.overflow_mul-key
overflow_mul-key c = let r = key_room _ _ _ 0 c.loop-i.invariant.1 (search rules) (search rules) (search rules) (search rules) in omega (arith, r.1)

pub overflow_add-key : goal.overflow_add-key
overflow_add-key c = let r = key_room _ _ _ c.lower_case.result c.loop-i.invariant.1 (search rules) (search rules) (search rules) (search rules) in omega (arith, r.1)

pub loop-i-preserved : goal.loop-i-preserved
loop-i-preserved c =
    let r = key_room _ _ _ c.lower_case.result c.loop-i.invariant.1 (search rules) (search rules) (search rules) (search rules) in
    let more = key_more c.args.s.now c.loop-i.i (search rules) (search rules) in
    (search rules, r.0, rw (more, ← c.loop-i.invariant.2) (ap (c.loop-i.key * 256 +◌) c.lower_case.ensures))

pub returns : goal.returns
returns c = c.loop-i.invariant.2 ∙ key_all c.args.s.now c.loop-i.i c.loop-i-test.false
