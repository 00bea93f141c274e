-- `pseudo::listed_kind`: the row that is found, by the columns of the table that is lent.
use Rattle.std.proofs.Common.{Some, Err}
use Prim.Native.Nat.{ℕ, ◌+◌, ◌≤◌}
use mathlib.Core.Path.{◌≡◌, refl, sym, ◌∙◌}
use mathlib.Core.List.{map}
use native.Mathlib.Omega.{arith}
use borrow.Author.Rules.{rules}
use lib.ListN.{length}
use Rattle.numbers.specs.Text.{same, before}
use Rattle.numbers.specs.Code.Tables.{row_name, first, found_row}
use Rattle.numbers.proofs.Rows.{before-word}
use Rattle.layout.specs.Pseudos.{spellings}
use Rattle.layout.specs.declared.refusal.Refusal.TheVariants.{Unsupported}
use Rattle.layout.specs.Code.Kinds.{spelling_row}
use Rattle.layout.proofs.ResultLaws.{given, missing}
use Rattle.layout.proofs.PseudoLaws.{spellings_sound, spellings-named, line_room, number_few, line_plain, line_ended, line_other, line_pseudo}
use Rattle.layout.proofs.pseudo.listed_kind.Goals as goal
use Rattle.layout.proofs.pseudo.listed_kind.Goals.{After-word_in}

pub word_in-requires : goal.word_in-requires
word_in-requires c = (record { rs = map spelling_row spellings; table = c.args.names.now.named }, rw c.text_before-word.ensures (before-word _))

-- what is found, and that it lies in the table
found : (d : After-word_in) → found_row d.args.names.now.rows d.word_in.result
    ≡ first (λ x. same (row_name x) (before 32 d.args.s.now)) (map spelling_row spellings)
found d = rw d.text_before-word.ensures at (d.word_in.ensures (map spelling_row spellings) d.args.names.now.named)

room : (d : After-word_in) (at : ℕ) → d.word_in.result ≡ Some at → at + 16 ≤ length d.args.names.now.rows
room d = line_room spellings d.args.names.now.rows d.args.s.now spellings_sound d.word_in.result (found d)

pub returns-in_default : goal.returns-in_default
returns-in_default c =
    line_plain spellings c.args.names.now.rows c.args.s.now spellings_sound c.word_in.result (found (goal.at.returns-in_default c).After-word_in) c.in_default.is

pub overflow_add-at : goal.overflow_add-at
overflow_add-at c = omega (arith, room (goal.at.overflow_add-at c).After-word_in _ c.in-Some.is)

pub bounds-names-at : goal.bounds-names-at
bounds-names-at c = omega (arith, room (goal.at.bounds-names-at c).After-word_in _ c.in-Some.is)

pub returns-then-s-word : goal.returns-then-s-word
returns-then-s-word c =
    let ends = rw c.text_before-word.ensures at c.if-s-word.true in
    line_ended spellings c.args.names.now.rows c.args.s.now spellings_sound c.word_in.result (found (goal.at.returns-then-s-word c).After-word_in) _ c.in-Some.is ends

pub overflow_add-at-2 : goal.overflow_add-at-2
overflow_add-at-2 c = omega (arith, room (goal.at.overflow_add-at-2 c).After-word_in _ c.in-Some.is)

pub bounds-names-at-2 : goal.bounds-names-at-2
bounds-names-at-2 c = omega (arith, room (goal.at.bounds-names-at-2 c).After-word_in _ c.in-Some.is)

pub returns-in_err-pseudo : goal.returns-in_err-pseudo
returns-in_err-pseudo c =
    let d = (goal.at.returns-in_err-pseudo c).After-word_in in
    let few = number_few spellings c.args.names.now.rows c.args.s.now spellings_sound c.word_in.result (found d) _ c.in-Some.is in
    let e : c.from_residual.result ≡ Err Unsupported = search rules in
    let none = missing _ _ (sym c.ok_or.ensures.value ∙ c.in_err-pseudo.was) in
    let goes_on = rw c.text_before-word.ensures at c.if-s-word.false in
    rw (
      e,
      ← line_other spellings c.args.names.now.rows c.args.s.now spellings_sound c.word_in.result (found d) _ c.in-Some.is goes_on
          c.numbered.result (c.numbered.ensures few) spellings-named none,
    ) refl

pub returns : goal.returns
returns c =
    let d = (goal.at.returns c).After-word_in in
    let few = number_few spellings c.args.names.now.rows c.args.s.now spellings_sound c.word_in.result (found d) _ c.in-Some.is in
    let goes_on = rw c.text_before-word.ensures at c.if-s-word.false in
    line_pseudo spellings c.args.names.now.rows c.args.s.now spellings_sound c.word_in.result (found d) _ c.in-Some.is goes_on
    c.numbered.result (c.numbered.ensures few) _ (given _ _ (sym c.ok_or.ensures.value ∙ c.in_ok-pseudo.was))
