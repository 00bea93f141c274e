-- `Equates::spaced_constant`: in order, from here on the name's value is the whole list's.
use mathlib.Core.Path.{◌≡◌, refl, sym, ap, ◌∙◌}
use mathlib.Core.List.{List}
use mathlib.Core.Bool.{Bool, true, false}
use Rattle.std.proofs.Common.{Some}
use native.Mathlib.Omega.{arith}
use mir.Syntax.{w64}
use mir.Val.{SFits}
use mir.Facts.{to_z-of_z}
use Rattle.numbers.specs.Text.{one_spaced}
use Rattle.layout.specs.Rounds.{Known}
use Rattle.layout.specs.Code.Names.{EquateTable}
use Rattle.layout.specs.Code.Resolves.{known_at}
use Rattle.layout.proofs.KnownLaws.{equates_lent, is_found, found_as_read, order_hit, order_miss, order_end}
use borrow.Author.Rules.{rules}
use Rattle.layout.proofs.equates.Equates.spaced_constant.Goals as goal
use Rattle.layout.proofs.equates.Equates.spaced_constant.Goals.{After-is_spaced_found}

pub loop-k-init : goal.loop-k-init
loop-k-init c = λ ks t. refl

pub is_spaced_found-requires : goal.is_spaced_found-requires
is_spaced_found-requires c = omega (arith, c.loop-k-test.true, equates_lent c.requires.stands.rows)

pub get-requires : goal.get-requires
get-requires c = omega (arith, c.loop-k-test.true, equates_lent c.requires.stands.rows)

-- has the equate here the name, and a value?
told : (d : After-is_spaced_found) (b : Bool) → d.is_spaced_found.result ≡ b → (ks : List Known)
    → EquateTable d.args.self.text.now d.args.self.records.now
    d.args.self.index.now d.args.self.count ks
    → is_found (known_at ks d.loop-k.k) (one_spaced d.args.operand.now) ≡ b
told d b e ks t =
    found_as_read t _ d.loop-k.k (omega (arith, t.rows.counted, d.loop-k-test.true)) b (sym d.is_spaced_found.ensures ∙ e)

pub returns-then-is_spaced_found : goal.returns-then-is_spaced_found
returns-then-is_spaced_found c =
    let fit : SFits w64 c.get.result.value = search rules in
    λ ks t. rw (to_z-of_z fit)
    (ap (λ r. Some r.value) c.get.ensures
    ∙ order_hit t _ c.loop-k.k (omega (arith, t.rows.counted, c.loop-k-test.true)) (told (goal.at.returns-then-is_spaced_found c).After-is_spaced_found true c.if-is_spaced_found.true ks t)
    ∙ c.loop-k.invariant ks t)

pub loop-k-preserved : goal.loop-k-preserved
loop-k-preserved c =
    λ ks t. order_miss t _ c.loop-k.k (omega (arith, t.rows.counted, c.loop-k-test.true)) (told (goal.at.loop-k-preserved c).After-is_spaced_found false c.if-is_spaced_found.false ks t)
    ∙ c.loop-k.invariant ks t

pub returns : goal.returns
returns c = λ ks t. order_end ks _ c.loop-k.k (omega (arith, t.rows.counted, c.loop-k-test.false)) ∙ c.loop-k.invariant ks t
