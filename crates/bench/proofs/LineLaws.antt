-- From an answer to its line; the line of a text that is too long, and how much of a text decides its line.
use Prim.Native.Nat.{ℕ, ◌+◌, ◌*◌, ◌<◌}
use native.Mathlib.Omega.{arith}
use mathlib.Core.Path.{◌≡◌, refl, sym, ap, ◌∙◌}
use mathlib.Core.List.{List}
use mathlib.Core.Bool.{Bool, true, false}
use lib.Dec.{ltb}
use lib.ListN.{length, take, replicate, length-take, length-replicate}
use lib.Seq.{take_all}
use borrow.Author.Tests.{ltb-true, ltb-false, lt-ltb, eq-eqb, ne_eqb}
use Rattle.numbers.specs.Text.{text}
use Rattle.layout.specs.Limits.{Lent, full, text_limit, word_limit, data_limit, label_limit, equate_limit, item_limit, label_size, equate_size, item_size}
use Rattle.layout.specs.Layouts.{Answer, layout_of, call_of}
use Rattle.bench.specs.Lines.{decimal_in, decimal, fields, accepted_line, refused_line, answer_line, bench_line}

ok_line : (a : Answer) → a.number ≡ 0
    → accepted_line a.counts.words a.counts.data_bytes a.counts.bss_size a.counts.evaluations ≡ answer_line a
unfolding answer_line
ok_line a zero = rw (answer_line, eq-eqb a.number 0 zero)

no_line : (a : Answer) → (a.number ≡ 0 → ⊥) → refused_line a.number a.line ≡ answer_line a
unfolding answer_line
no_line a refused = rw (answer_line, ne_eqb a.number 0 refused)

-- what the program lends: zeros, as many as every limit allows
abbrev zeros_lent : Lent
zeros_lent =
    record {
      words = length {A = ℕ} (replicate word_limit 0);
      data_bytes = length {A = ℕ} (replicate data_limit 0);
      label_bytes = length {A = ℕ} (replicate (label_limit * label_size) 0);
      equate_bytes = length {A = ℕ} (replicate (equate_limit * equate_size) 0);
      item_bytes = length {A = ℕ} (replicate (item_limit * item_size) 0);
    }

pub zeros_full : zeros_lent ≡ full
zeros_full = simp length-replicate

-- an answer that is what the definition gives: its line is the text's, accepted or refused
module _ (t : List ℕ) (k : Lent) (a : Answer) (given : a ≡ call_of t 0 k) (lent : k ≡ full) where
  given_line : answer_line a ≡ bench_line t
  given_line = ap answer_line given ∙ ap (λ (l : Lent). answer_line (call_of t 0 l)) lent

  pub accepted_call : a.number ≡ 0
      → accepted_line a.counts.words a.counts.data_bytes a.counts.bss_size a.counts.evaluations ≡ bench_line t
  accepted_call accepted = ok_line a accepted ∙ given_line

  pub refused-call : (a.number ≡ 0 → ⊥) → refused_line a.number a.line ≡ bench_line t
  refused-call refused = no_line a refused ∙ given_line

-- "input longer than 65,536 bytes gives `no 41 1`"
pub long_line : refused_line 41 0 ≡ text "no 41 1\n"
unfolding fields decimal decimal_in
long_line = refl

pub longer_line : (t : List ℕ) → text_limit < length t → bench_line t ≡ text "no 41 1\n"
unfolding layout_of answer_line
longer_line t h = rw (lt-ltb text_limit (length t) h) long_line

-- one byte more than the limit is all that need be read
pub enough_read : (t : List ℕ) → bench_line (take (text_limit + 1) t) ≡ bench_line t
enough_read t = by (ltb text_limit (length t)) refl
  where
    by : (long : Bool) → ltb text_limit (length t) ≡ long → bench_line (take (text_limit + 1) t) ≡ bench_line t
    by true e =
        let h : text_limit < length t = ltb-true text_limit (length t) e in
        let k : text_limit < length (take (text_limit + 1) t) = rw (length-take (text_limit + 1) t) (omega arith) in
        longer_line (take (text_limit + 1) t) k ∙ sym (longer_line t h)
    by false e = ap bench_line (take_all (text_limit + 1) t (omega (arith, ltb-false text_limit (length t) e)))
