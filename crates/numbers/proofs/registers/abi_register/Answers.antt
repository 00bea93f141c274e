-- `registers::abi_register`: the code's table has the keys and numbers of the ABI's names, and a key tells its name;
-- the invariant says that what the names that are left give is what all of them give.
use mathlib.Core.Path.{refl, sym, ◌∙◌}
use mathlib.Core.List.{map}
use borrow.Author.Rules.{rules}
use Rattle.numbers.specs.Text.{lower_case}
use Rattle.numbers.specs.Registers.{abi_names}
use Rattle.numbers.specs.Code.Tables.{key_of}
use Rattle.numbers.proofs.Names.{abi_long, abi_hit, abi-miss, abi-none, abi-checked}
use Rattle.numbers.proofs.registers.abi_register.Goals as goal

pub returns-then-s-gt4 : goal.returns-then-s-gt4
returns-then-s-gt4 c = abi_long c.args.s.now c.if-s-gt4.true

pub loop-key-init : goal.loop-key-init
unfolding abi_names key_of
loop-key-init c = (refl, refl)

pub returns-then-key-name : goal.returns-then-key-name
unfolding abi_names key_of
returns-then-key-name c =
    let s = c.args.s.now in
    let hit = abi_hit s (λ i. (c.type_inv.s i).fits) c.loop-key.key-index _ _ c.name_key-name.ensures (search rules) c.if-key-name.true in
    c.new.ensures ∙ abi-checked (map lower_case s) _ (sym c.loop-key.invariant.1 ∙ hit)

pub loop-key-preserved : goal.loop-key-preserved
unfolding abi_names key_of
loop-key-preserved c =
    let s = c.args.s.now in
    (refl, abi-miss s (λ i. (c.type_inv.s i).fits) c.loop-key.key-index _ _ c.name_key-name.ensures (search rules) c.if-key-name.false ∙ c.loop-key.invariant.1)

pub returns : goal.returns
returns c = sym (abi-none c.args.s.now c.loop-key.key-index c.loop-key-test.false) ∙ c.loop-key.invariant.1
