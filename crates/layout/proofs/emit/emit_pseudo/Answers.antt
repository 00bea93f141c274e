-- `emit::emit_pseudo`: the words of the instructions that are built of what the operands come to.
use Prim.Native.Nat.{ℕ, ◌≤◌}
use mathlib.Core.Path.{◌≡◌, refl, sym, ap, ◌∙◌}
use Rattle.std.proofs.Common.{Some}
use lib.ListN.{length}
use Rattle.std.proofs.Common.{Result, Ok, Err}
use Rattle.numbers.specs.Results.{and_then}
use Rattle.encoder.specs.declared.sequences.Expansion.{Expansion}
use Rattle.encoder.specs.Code.Slots.{longest, instructions_in}
use Rattle.encoder.specs.Encoding.{encoded}
use Rattle.layout.specs.Addresses.{label_address}
use Rattle.layout.specs.Rounds.{constant}
use Rattle.layout.specs.Pseudos.{pseudo_operands}
use Rattle.layout.specs.Expansions.{Wanted, wanted, Arguments, instructions}
use Rattle.layout.specs.Code.Names.{Scope, StandFor}
use Rattle.layout.specs.Code.Expands.{wanted_as, looked_up_as, looked_up_in, emission_in}
use Rattle.layout.proofs.EmitLaws.{emits_refused, emits_built, built_room}
use borrow.Author.Rules.{rules}
use Rattle.layout.proofs.emit.emit_pseudo.Goals as goal
use Rattle.layout.proofs.emit.emit_pseudo.Goals.{After-look_up}

-- what the operands come to, by whatever names are lent
module _ (l : After-look_up) where
  abbrev Stand : Scope → Type 0
  Stand names =
      StandFor l.args.names names

  come : (names : Scope) → Stand names → looked_up_as l.look_up.result ≡ and_then (wanted l.args.pseudo (pseudo_operands l.args.s.now)) (looked_up_in names)
  come names stand = rw (sym l.wanted_by.ensures ∙ ap (wanted_as l.args.s.now) l.in_ok-wanted.was) (l.look_up.ensures names stand)

  module _ (a : Arguments) (e : looked_up_as l.look_up.result ≡ Ok a) where
    emits : (names : Scope) → Stand names → encoded (instructions l.args.pseudo a) ≡ emission_in names (Some l.args.pseudo) l.args.s.now
    emits names stand = emits_built (constant names.known) (label_address names.base names.state) _ _ a (sym e ∙ come names stand)

    room : (x : Expansion) → instructions_in x ≡ instructions l.args.pseudo a → (x.count ≤ longest) × (x.count ≤ length l.args.dst.now)
    room x g =
        let names = l.requires.0.it in
        built_room (constant names.known) (label_address names.base names.state) _ _ a (sym e ∙ come names l.requires.0.stands) x _ g l.requires.1

pub put_expansion-requires : goal.put_expansion-requires
put_expansion-requires c = room (goal.at.put_expansion-requires c).After-look_up _ (ap looked_up_as c.in_ok-arguments.was) c.build.result c.build.ensures

pub returns : goal.returns
returns c =
    λ names stand.
    rw (c.build.ensures, emits (goal.at.returns c).After-look_up _ (ap looked_up_as c.in_ok-arguments.was) names stand)
    at c.put_expansion.ensures

pub returns-in_err-wanted : goal.returns-in_err-wanted
returns-in_err-wanted c =
    let e : c.from_residual.result ≡ Err c.in_err-wanted.field-0.0 = search rules in
    let refused = sym (ap (wanted_as c.args.s.now) c.in_err-wanted.was) ∙ c.wanted_by.ensures in
    λ names stand.
    let came = ap (λ (x : Result Wanted ℕ). and_then x (looked_up_in names)) refused in
    rw (e, ← emits_refused (constant names.known) (label_address names.base names.state) _ _ _ came) refl

pub returns-in_err-arguments : goal.returns-in_err-arguments
returns-in_err-arguments c =
    let e : c.from_residual-in_err-arguments.result ≡ Err c.in_err-arguments.field-0.0 = search rules in
    λ names stand.
    let came = sym (ap looked_up_as c.in_err-arguments.was) ∙ come (goal.at.returns-in_err-arguments c).After-look_up names stand in
    rw (e, ← emits_refused (constant names.known) (label_address names.base names.state) _ _ _ came) refl
