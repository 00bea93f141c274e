-- The whole call in the code: what its stages ask of the buffers and leave in them, and its answer as the definitions have it.
use Rattle.std.specs.Prelude.{ℕ, ◌≤◌, ◌≡◌, List, length, replicate}
use Rattle.std.specs.Prelude.{Result, Ok, Err}
use Rattle.numbers.specs.Results.{and_then}
use Rattle.layout.specs.declared.limits.Room.{Room}
use Rattle.layout.specs.declared.state.Counters.{Counters}
use Rattle.layout.specs.declared.assembler.Counts as counted
use Rattle.layout.specs.Refusals.{Refusal}
use Rattle.layout.specs.Limits.{base_limit, text_limit, room_of}
use Rattle.layout.specs.Limits as limits
use Rattle.layout.specs.State.{State, start}
use Rattle.layout.specs.Pieces.{lines, line_pieces}
use Rattle.layout.specs.Stage.{line_stage}
use Rattle.layout.specs.Layouts.{Layout, after_lines, Counts, Buffers, Answer, no_counts, counts_of, buffers_of}
use Rattle.layout.specs.Code.Steps.{Agrees}
use Rattle.layout.specs.Code.Stands.{Stands, store}
use Rattle.layout.specs.Code.Lent.{OverCall}
use Rattle.layout.specs.Code.Symbols.{symbols_of, SymbolsLeft}
use Rattle.layout.specs.declared.refusal.RefusedAt.{RefusedAt}
use Rattle.layout.specs.Code.Numbers.{refusal_number, numbered_at}

-- ---- the answer as the definitions have it

abbrev pub buffers : (w d l e i : List ℕ) → Buffers
buffers w d l e i = record { words = w; data_bytes = d; labels = l; equates = e; items = i }

-- how much was lent, by the buffers
abbrev pub lengths : Buffers → limits.Lent
lengths b =
    record {
      words = length b.words;
      data_bytes = length b.data_bytes;
      label_bytes = length b.labels;
      equate_bytes = length b.equates;
      item_bytes = length b.items;
    }

abbrev pub counts_in : counted.Counts → Counts
counts_in c =
    record {
      words = c.words;
      data_bytes = c.data_bytes;
      data_base = c.data_base;
      bss_size = c.bss_size;
      labels = c.labels;
      equates = c.equates;
      items = c.items;
      evaluations = c.evaluations;
    }

-- what a caller holds: the answer, and the buffers as they are left
abbrev pub answer_in : Result counted.Counts RefusedAt → Buffers → Answer
answer_in (Ok c) b = record { number = 0; line = 0; counts = counts_in c; buffers = b }
answer_in (Err r) b = record { number = refusal_number r.refusal; line = r.line; counts = no_counts; buffers = b }

-- the lent buffers when the call begins and when it ends
abbrev pub buffers_now : List ℕ → List ℕ → List ℕ → List ℕ → List ℕ → Buffers
buffers_now w d l e i = buffers w d l e i

-- ---- the stages

-- counts and buffers are those of the layout
pub record LaidLeft (b : Buffers) (c : counted.Counts) (l : Layout) : Type 0 where
  pub counts : counts_in c ≡ counts_of l
  pub buffers : b ≡ buffers_of (lengths b) l

-- the lines of a text, and what follows them
abbrev pub lines_of : List ℕ → ℕ → limits.Lent → Result Layout Refusal
lines_of t base k = and_then (line_stage (room_of k) 0 (line_pieces 0 (lines t)) start) (after_lines base)

-- what the lines left, and words of zeros
pub record LinesRead (t : List ℕ) (base : ℕ) (st : Counters) (l n e x i d lw w : List ℕ) : Type 0 where
  pub room : Room
  pub state : State
  pub text : length t ≤ text_limit
  pub base_limit : base ≤ base_limit
  pub stands : Stands t room st (store l n e x i d lw) state
  pub zeros : w ≡ replicate (length w) 0
  pub lent : room.words ≤ length w

abbrev pub LinesReady : List ℕ → ℕ → Counters → List ℕ → List ℕ → List ℕ → List ℕ → List ℕ → List ℕ → List ℕ → List ℕ
    → Type 0
LinesReady t base st l n e x i d lw w = LinesRead t base st l n e x i d lw w

-- whatever the lines came to, what follows them agrees with the definition
abbrev pub LinesGive : List ℕ → ℕ → Counters → OverCall → List ℕ → OverCall → List ℕ → OverCall → OverCall → OverCall → OverCall → Result counted.Counts RefusedAt → Type 0
LinesGive t base st l n e x i d lw w r =
    (s : LinesReady t base st l.entry.now n e.entry.now x i.entry.now d.entry.now lw.entry.now w.entry.now)
    → Agrees (LaidLeft (buffers_now w.exit.now d.exit.now l.exit.now e.exit.now i.exit.now)) (numbered_at r) (after_lines base s.state)

-- what resolving the symbols left of what the lines left: labels and equates, and the data, which are lent no more
pub record ResolvedRead (t : List ℕ) (base : ℕ) (st : Counters) (m : ℕ) (l n e ix i lw w : List ℕ) : Type 0 where
  pub unplaced : List ℕ
  pub pending : List ℕ
  pub exprs : List ℕ
  pub unfilled : List ℕ
  pub filled : List ℕ
  pub read : LinesRead t base st unplaced n pending exprs i unfilled lw w
  pub found : Agrees (SymbolsLeft t base read.state st l n e ix filled) (Ok m) (symbols_of base read.state)

abbrev pub ResolvedReady : List ℕ → ℕ → Counters → ℕ → List ℕ → List ℕ → List ℕ → List ℕ → List ℕ → List ℕ → List ℕ → Type 0
ResolvedReady t base st m l n e ix i lw w = ResolvedRead t base st m l n e ix i lw w

-- whatever the lines and the symbols came to, what follows them agrees with the definition
abbrev pub ResolvedGive : List ℕ → ℕ → Counters → ℕ → OverCall → List ℕ → List ℕ → List ℕ → OverCall → OverCall → OverCall → Result counted.Counts RefusedAt → Type 0
ResolvedGive t base st m l n e ix i lw w r =
    (s : ResolvedReady t base st m l.entry.now n e ix i.entry.now lw.entry.now w.entry.now)
    → Agrees (LaidLeft (buffers w.exit.now s.filled l.exit.now e i.exit.now)) (numbered_at r)
    (after_lines base s.read.state)

-- ---- clearing

abbrev pub Clear : List ℕ → Type 0
Clear b = b ≡ replicate (length b) 0

abbrev pub Clears : OverCall → Type 0
Clears b = b.exit.now ≡ replicate (length b.entry.now) 0
