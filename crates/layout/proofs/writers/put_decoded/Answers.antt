-- `writers::put_decoded`: the first n bytes are stored, and those from i on come behind them.
use Prim.Native.Nat.{ℕ, ◌+◌, ◌≤◌, ◌<◌}
use mathlib.Core.Path.{◌≡◌, sym, ap, ◌∙◌}
use mathlib.Core.List.{List, [], ◌∷◌}
use Rattle.std.proofs.Common.{None, Some}
use native.Mathlib.Omega.{arith}
use lib.ListN.{length, drop, get_or, length-set}
use Rattle.numbers.proofs.Bools.{none-some}
use Rattle.numbers.specs.Strings.{char, char_of, decoded}
use Rattle.numbers.specs.Code.Strings.{char_value, decoded_bytes}
use Rattle.numbers.proofs.CharLaws.{decoded_on, decoded_bad, decoded_end, char_inside, next_byte, stored_all}
use Rattle.layout.proofs.ByteLaws.{copied_more}
use borrow.Author.Rules.{rules}
use Rattle.layout.proofs.writers.put_decoded.Goals as goal
use Rattle.layout.proofs.writers.put_decoded.Goals.{In-Is}

-- the character at i
here : (d : In-Is)
    → char_of (drop d.loop-b.i d.args.s.now)
    ≡ Some (char d.in-Is.b d.in-Is.more)
here d = sym d.char_at.ensures ∙ ap char_value d.in-Is.is

-- it ends within the text
inside : (d : In-Is)
    → d.loop-b.i + (d.in-Is.more + 1) ≤ length d.args.s.now
inside d = char_inside _ _ _ (here d)

-- its byte is the next
next : (d : In-Is)
    → (d.loop-b.n < length (decoded_bytes d.args.s.now))
    × (get_or (decoded_bytes d.args.s.now) d.loop-b.n 0 ≡ d.in-Is.b)
    × (decoded (drop (d.loop-b.i + (d.in-Is.more + 1)) d.args.s.now)
    ≡ Some (drop (d.loop-b.n + 1) (decoded_bytes d.args.s.now)))
next d = next_byte _ _ _ _ (sym (decoded_on _ _ _ (here d)) ∙ d.loop-b.invariant.3)

pub bounds-dst-n : goal.bounds-dst-n
bounds-dst-n c =
    let h = (next c).0 in
    omega (arith, c.loop-b.invariant.2, c.requires.1)

pub overflow_add-i : goal.overflow_add-i
overflow_add-i c = let h = inside c in search rules

pub overflow_add-i-in-Is : goal.overflow_add-i-in-Is
overflow_add-i-in-Is c = let h = inside c in search rules

pub loop-b-smaller : goal.loop-b-smaller
loop-b-smaller c = let h = inside c in search rules

pub loop-b-preserved : goal.loop-b-preserved
loop-b-preserved c =
    let bytes = decoded_bytes c.args.s.now in
    let n = next c in (
      inside c,
      omega (arith, n.0),
      simp length-set c.loop-b.invariant.2,
      n.2,
      rw (c.loop-b.invariant.4, ← n.1) (copied_more bytes c.args.dst.now c.loop-b.n n.0 (omega (arith, n.0, c.requires.1))),
    )

-- where no character is left, no byte is
over : (s bs : List ℕ) → char_of s ≡ None → decoded s ≡ Some bs → bs ≡ []
over [] bs e h = cc (decoded_end [] 0 (omega arith), h)
over (x ∷ xs) bs e h = absurd (none-some (sym (decoded_bad (x ∷ xs) 0 (omega arith) e) ∙ h))

pub returns : goal.returns
returns c =
    let s = c.args.s.now in
    let none_here : char_of (drop c.loop-b.i s) ≡ None = sym c.char_at.ensures ∙ ap char_value c.in_default.is in
    let end : ◌≡◌ (drop c.loop-b.n (decoded_bytes s)) [] = over (drop c.loop-b.i s) _ none_here c.loop-b.invariant.3 in
    c.loop-b.invariant.4 ∙ stored_all (decoded_bytes s) c.args.dst.now c.loop-b.n c.loop-b.invariant.1 end
