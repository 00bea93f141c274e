-- `strings::decoded_len`: the n bytes counted and those from i on are all.
use Prim.Native.Nat.{◌+◌, ◌≤◌}
use mathlib.Core.Path.{◌≡◌, sym, ap, ◌∙◌}
use Rattle.std.proofs.Common.{Some}
use native.Mathlib.Omega.{arith}
use lib.ListN.{length, drop}
use Rattle.numbers.specs.Strings.{char, char_of, decoded}
use Rattle.numbers.specs.Code.Strings.{size_of}
use Rattle.numbers.proofs.CharLaws.{decoded_on, decoded_bad, decoded_end, char_inside, size_start, size_more}
use borrow.Author.Rules.{rules}
use Rattle.numbers.proofs.strings.decoded_len.Goals as goal
use Rattle.numbers.proofs.strings.decoded_len.Goals.{In-Is}

pub loop-i-init : goal.loop-i-init
loop-i-init c = (omega arith, omega arith, size_start (size_of (decoded c.args.s.now)))

-- the character at i
here : (d : In-Is)
    → char_of (drop d.loop-i.i d.args.s.now)
    ≡ Some (char d.in-Is.field-0 d.in-Is.more)
here d = sym (rw d.in-Is.is at d.char_at.ensures)

-- it ends within the text
inside : (d : In-Is)
    → d.loop-i.i + (d.in-Is.more + 1) ≤ length d.args.s.now
inside d = char_inside _ _ _ (here d)

pub overflow_add-i : goal.overflow_add-i
overflow_add-i c = let h = inside c in search rules

pub overflow_add-i-in-Is : goal.overflow_add-i-in-Is
overflow_add-i-in-Is c = let h = inside c in search rules

pub overflow_add-n : goal.overflow_add-n
overflow_add-n c = let h = inside c in search rules

pub loop-i-smaller : goal.loop-i-smaller
loop-i-smaller c = let h = inside c in search rules

pub loop-i-preserved : goal.loop-i-preserved
loop-i-preserved c =
    let s = c.args.s.now in
    let counted = rw (decoded_on s c.loop-i.i _ (here c)) at c.loop-i.invariant.2 in
    (inside c, omega arith, size_more c.loop-i.n c.in-Is.field-0 (decoded (drop (c.loop-i.i + (c.in-Is.more + 1)) s)) ∙ counted)

pub returns-in-Invalid : goal.returns-in-Invalid
returns-in-Invalid c =
    let s = c.args.s.now in
    let none_here = sym (rw c.in-Invalid.is at c.char_at.ensures) in
    rw (decoded_bad s c.loop-i.i c.loop-i-test.true none_here) at c.loop-i.invariant.2

pub returns : goal.returns
returns c =
    let s = c.args.s.now in
    ap Some (omega arith) ∙ rw (decoded_end s c.loop-i.i c.loop-i-test.false) at c.loop-i.invariant.2
