-- `EquateRecord::from_words`: the value's bits, the four low bytes and the four high.
use Prim.Native.Nat.{ℕ, ◌+◌, ◌*◌}
use mathlib.Core.Path.{◌≡◌, refl, ap, ◌∙◌}
use mir.Syntax.{w64}
use mir.Val.{SFits}
use mir.Facts.{to_z-of_z}
use native.Mathlib.Omega.{arith}
use mathlib.Core.List.{List}
use lib.ListN.{get_or}
use borrow.Author.Rules.{rules}
use Rattle.numbers.specs.Ints.{signed_of}
use Rattle.layout.proofs.WordLaws.{halves_read}
use Rattle.layout.proofs.records.EquateRecordRecord6.from_words.Goals as goal

pub returns : goal.returns
returns c =
    let fit : SFits w64 c.i64_of_bits.result = search rules in
    λ b k h e.
    let both = halves_read b (k * 24) _ _ h (ap (λ (w : List ℕ). get_or w 3 0) e) (ap (λ (w : List ℕ). get_or w 4 0) e) in
    let value = c.i64_of_bits.ensures ∙ ap (signed_of 64) both in
    let zero : k * 24 + 0 ≡ k * 24 = omega arith in
    rw (e, to_z-of_z fit, value, zero) refl
