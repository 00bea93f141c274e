-- The first line of a part, from the place of its LF.
use Rattle.std.proofs.Common.{◌≡◌, ℕ, ◌+◌, ◌<◌, List, length, refl, ap, arith, eq-eqb, ne_eqb}
use Rattle.numbers.specs.declared.text.Span.{Span}
use Rattle.numbers.specs.Text.{index_of}
use Rattle.numbers.specs.Code.Spans.{spanned}
use Rattle.numbers.proofs.Places.{index_within}
use Rattle.replay.specs.declared.lines.Cursor.{Cursor}
use Rattle.replay.specs.declared.lines.Step.{Step}
use Rattle.replay.specs.declared.lines.Step.TheVariants.{Line, End}
use Rattle.replay.specs.Lines.{line_feed, cursor_at, line_found, step_of, line_in, Refilled, NextLine}
use Rattle.replay.proofs.Kept.{part_within}

module _ (s : List ℕ) (c : Cursor) (u : List ℕ) (n : ℕ) (e : u ≡ spanned s c.unread) (f : n ≡ index_of line_feed u) where
  -- no LF: the part's end
  pub line_none : n ≡ length u → End n ≡ line_in s c
  unfolding line_in step_of
  line_none h = rw (← e, ← f, eq-eqb n (length u) h) (ap End h)

  -- an LF: a line
  pub line_some : (n ≡ length u → ⊥) → line_found c.unread.start (length u) n ≡ line_in s c
  unfolding line_in step_of
  line_some h = rw (← e, ← f, ne_eqb n (length u) h) refl

  -- it ends before the part does
  pub line_short : (n ≡ length u → ⊥) → n < length u
  line_short h = omega (arith, index_within line_feed u, f, h)

  -- and its LF stands within the block
  pub line_within : (n ≡ length u → ⊥) → c.unread.start + n < length s
  line_within h = part_within s c.unread u n e (line_short h)

-- a line that the block has
pub next_here : (s : List ℕ) (c : Cursor) (r : Step) (l : Span) (n : Cursor) → r ≡ line_in s c → r ≡ Line l n → NextLine s s c (Line l n)
next_here s c r l n e g = rw (← e, g) (refl, refl)

-- a line of the refilled block
pub next_read : (s t : List ℕ) (c : Cursor) (r q : Step) (k m : ℕ) → r ≡ line_in s c → r ≡ End k → Refilled s t c.unread m
    → q ≡ line_in t (cursor_at 0 m) → NextLine s t c q
next_read s t c r q k m e g f h = rw (← e, g) (m, f, h)
