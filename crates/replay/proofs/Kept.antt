-- Parts of a block: where their bytes stand, and how they move to its start byte by byte.
use Rattle.std.proofs.Common.{◌≡◌, ℕ, ◌+◌, ◌-◌, ◌<◌, ◌≤◌, List, ◌++◌, length, take, drop, sym, ap, ◌∙◌, arith, length-append, length-drop, take-append-drop, length-take, length-take-le}
use Rattle.std.specs.List.{copy_within}
use borrow.Rule.Slice.PartMut.{put_mid, post_of, take_put}
use lib.Seq.{take-append_seam}
use Rattle.numbers.specs.declared.text.Span.{Span}
use Rattle.numbers.specs.Code.Spans.{spanned}
use Rattle.replay.specs.Lines.{Refilled}

-- a part's bytes stand within the block
pub part_within : (s : List ℕ) (p : Span) (u : List ℕ) (n : ℕ) → u ≡ spanned s p → n < length u → p.start + n < length s
unfolding spanned
part_within s p u n e h = omega (arith, ap length e, length-take p.len (drop p.start s), length-drop p.start s)

-- as many bytes as the first k of a text are its first k
take_again : (k : ℕ) (s : List ℕ) → take (length (take k s)) s ≡ take k s
take_again k s = ap (take (length (take k s))) (sym (take-append-drop k s)) ∙ take-append_seam (take k s) (drop k s)

-- a part is as many bytes as it has, from its start on
pub part_whole : (s : List ℕ) (p : Span) → take (length (spanned s p)) (drop p.start s) ≡ spanned s p
unfolding spanned
part_whole s p = take_again p.len (drop p.start s)

-- one that has bytes ends within the block
pub part_end : (s : List ℕ) (p : Span) (u : List ℕ) → u ≡ spanned s p → 0 < length u → p.start + length u ≤ length s
part_end s p u e h = omega (arith, part_within s p u (length u - 1) e (omega (arith, h)))

-- moved to the block's start, it is there
pub part_kept : (s : List ℕ) (p : Span) (u after : List ℕ) → u ≡ spanned s p
    → after ≡ copy_within s p.start (p.start + length u) 0 → take (length u) after ≡ spanned s p
part_kept s p u after e f =
    let n : p.start + length u - p.start ≡ length u = omega arith in
    let w : take (length u) (drop p.start s) ≡ u = ap (λ (l : List ℕ). take (length l) (drop p.start s)) e ∙ part_whole s p ∙ sym e in
    rw (f, n) (ap (λ (l : List ℕ). take (length u) (l ++ drop (0 + length u) s)) w ∙ take-append_seam u (drop (0 + length u) s) ∙ e)

-- what was kept stays at the start when more is read behind it
pub refilled : (s m ys : List ℕ) (p : Span) (k g : ℕ) → k ≤ length m → k ≡ length (spanned s p) → take k m ≡ spanned s p → g ≤ length ys
    → Refilled s (put_mid k (length m - k) m ys) p (k + g)
refilled s m ys p k g h e t l = (
  omega (arith, e),
  omega (arith, l, length-append (take k m) (ys ++ post_of k (length m - k) m), length-append ys (post_of k (length m - k) m), length-take-le k m h),
  ap (λ n. take n (put_mid k (length m - k) m ys)) (sym e) ∙ take_put k (length m - k) m ys h ∙ t,
)
