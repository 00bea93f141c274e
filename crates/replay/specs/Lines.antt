-- Lines of a list in a block: the first line of a part, and what a step leaves in the block. A line ends with LF.
use Rattle.std.specs.Prelude.{◌≡◌, ℕ, ◌+◌, ◌-◌, ◌≤◌, cond, List, length, take, ◌==◌}
use Rattle.numbers.specs.declared.text.Span.{Span}
use Rattle.numbers.specs.Text.{index_of}
use Rattle.numbers.specs.Code.Spans.{spanned}
use Rattle.replay.specs.declared.lines.Cursor.{Cursor}
use Rattle.replay.specs.declared.lines.Step.{Step}
use Rattle.replay.specs.declared.lines.Step.TheVariants.{Line, End}

-- the byte LF
abbrev pub line_feed : ℕ
line_feed = 10

-- the cursor whose unread bytes are these
abbrev pub cursor_at : ℕ → ℕ → Cursor
cursor_at start len = record { unread = record { start = start; len = len } }

-- the line of so many bytes that begins a part, and the part behind its LF
abbrev pub line_found : ℕ → ℕ → ℕ → Step
line_found start size n = Line (record { start = start; len = n }) (cursor_at (start + n + 1) (size - n - 1))

-- the first line of a part that stands at start, or the number of its bytes if it has no LF
unfoldable pub step_of : ℕ → List ℕ → Step
step_of start part =
    cond (index_of line_feed part == length part)
    (End (length part))
    (line_found start (length part) (index_of line_feed part))

-- the first line of the unread bytes
unfoldable pub line_in : List ℕ → Cursor → Step
line_in block c = step_of c.unread.start (spanned block c.unread)

-- the part stands at the block's start
abbrev pub Kept : List ℕ → List ℕ → Span → Type 0
Kept before after part = (length (spanned before part) ≤ length after) × (take (length (spanned before part)) after ≡ spanned before part)

-- after a refill the part stands at the block's start, and at the start there are n bytes of the list
abbrev pub Refilled : List ℕ → List ℕ → Span → ℕ → Type 0
Refilled before after part n =
    (length (spanned before part) ≤ n)
    × (n ≤ length after)
    × (take (length (spanned before part)) after ≡ spanned before part)

-- A line that the block has is given, and the block stays as it is. Otherwise the block is refilled, and the answer is the first line
-- of the bytes at its start. Which bytes the system reads cannot be said.
abbrev pub NextFrom : Step → List ℕ → List ℕ → Cursor → Step → Type 0
NextFrom (Line l next) before after c r = (r ≡ Line l next) × (after ≡ before)
NextFrom (End n) before after c r = (m : ℕ) × Refilled before after c.unread m × (r ≡ line_in after (cursor_at 0 m))

abbrev pub NextLine : List ℕ → List ℕ → Cursor → Step → Type 0
NextLine before after c r = NextFrom (line_in before c) before after c r

-- a read failed: the block had no line, and the unread bytes stand at its start
abbrev pub Unread : Step → List ℕ → List ℕ → Cursor → Type 0
Unread (Line l next) before after c = ⊥
Unread (End n) before after c = Kept before after c.unread

abbrev pub Stopped : List ℕ → List ℕ → Cursor → Type 0
Stopped before after c = Unread (line_in before c) before after c
