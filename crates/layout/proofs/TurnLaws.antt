-- The line loop: the text's lines one after the other, what holds at the loop's head, and how a turn carries it on.
use Prim.Native.Nat.{ℕ, suc, ◌+◌, ◌-◌, ◌≤◌, ◌<◌}
use native.Mathlib.Nat.{not-suc-le-zero, sub-zero}
use native.Mathlib.Numerals.{add-one}
use native.Mathlib.Omega.{arith}
use mathlib.Core.Path.{◌≡◌, refl, sym, ap, ap₂, subst, ◌∙◌}
use mathlib.Core.Bool.{Bool, true, false}
use mathlib.Core.List.{List, [], ◌∷◌}
use lib.Dec.{eqb}
use lib.ListN.{length, take, drop, replicate, length-drop, drop_of_length-le}
use lib.Seq.{drop-drop, length-take-le}
use Rattle.std.proofs.Common.{Result, Ok, Err}
use Rattle.numbers.specs.Results.{and_then}
use Rattle.numbers.specs.declared.text.Span.{Span}
use Rattle.numbers.specs.Text.{starts_with, same, index_of, before}
use Rattle.numbers.specs.Operands.{cons_first}
use Rattle.numbers.proofs.Places.{index_within}
use Rattle.layout.specs.declared.limits.Room.{Room}
use Rattle.layout.specs.declared.state.Section.{Section}
use Rattle.layout.specs.declared.state.Counters.{Counters}
use Rattle.layout.specs.declared.scan.Cut.{Cut}
use Rattle.layout.specs.Bytes.{together}
use Rattle.layout.specs.Refusals.{Refusal, at_line}
use Rattle.layout.specs.Limits.{Lent, room_of}
use Rattle.layout.specs.Pieces.{Piece, piece, lines, line_pieces, statement_of}
use Rattle.layout.specs.Statements.{unlabelled_of, labelled, parsed}
use Rattle.layout.specs.State.{State, start}
use Rattle.layout.specs.Stage.{label_step, statement_step, step_parsed, step_line, line_stage}
use Rattle.layout.specs.Code.Steps.{Steps}
use Rattle.layout.specs.Code.Spans.{line_at}
use Rattle.layout.specs.Code.Cuts.{cut_line, LineCut}
use Rattle.layout.specs.Code.Index.{label_index_room}
use Rattle.layout.specs.Code.Tables.{expr_room, label_word_room}
use Rattle.layout.specs.Code.Stands.{Store, store, Stands, start_counters}
use Rattle.layout.proofs.IndexLaws.{indexed_none, distinct_none}
use Rattle.layout.proofs.Kept.{start_fits}
use Rattle.layout.proofs.StepLaws.{agreed, agreed_refused}

-- ---- the lines

-- the first line runs to the first LF, and the others follow it
lines_test : (b : ℕ) (bs : List ℕ) (c : Bool) → eqb b 10 ≡ c
    → cons_first b (lines bs) ≡ (b ∷ take (index_of 10 bs) bs) ∷ lines (drop (suc (index_of 10 bs)) bs)
    → lines (b ∷ bs) ≡ take (index_of 10 (b ∷ bs)) (b ∷ bs) ∷ lines (drop (suc (index_of 10 (b ∷ bs))) (b ∷ bs))
unfolding lines index_of
lines_test b bs true e ih = rw (lines, index_of, e)
lines_test b bs false e ih = rw (lines, index_of, e) ih

lines_split : (t : List ℕ) → 0 < length t → lines t ≡ take (index_of 10 t) t ∷ lines (drop (suc (index_of 10 t)) t)
unfolding lines index_of
lines_split [] h = absurd (not-suc-le-zero h)
lines_split (b ∷ []) h = lines_test b [] (eqb b 10) refl refl
lines_split (b ∷ c ∷ cs) h = lines_test b (c ∷ cs) (eqb b 10) refl (ap (cons_first b) (lines_split (c ∷ cs) (omega arith)))

-- the lines from a place on
abbrev pub lines_from : List ℕ → ℕ → List Piece
lines_from t at = line_pieces at (lines (drop at t))

module _ (t : List ℕ) (at end : ℕ) (h : at < length t) (q : end ≡ at + index_of 10 (drop at t)) where
  end_within : end ≤ length t
  end_within = omega (arith, index_within 10 (drop at t), length-drop at t)

  lines_there : lines_from t at ≡ line_at t at end ∷ lines_from t (end + 1)
  unfolding line_pieces
  lines_there =
      let d : 0 < length (drop at t) = rw (length-drop at t) (omega arith) in
      let n : index_of 10 (drop at t) ≡ end - at = omega arith in
      let m : at + suc (index_of 10 (drop at t)) ≡ end + 1 = omega arith in
      let long : length (take (end - at) (drop at t)) ≡ end - at =
      length-take-le (end - at) (drop at t) (rw (length-drop at t) (omega (arith, end_within))) in
      let z : suc (at + length (take (end - at) (drop at t))) ≡ end + 1 = omega (arith, long) in
      let s : lines (drop at t) ≡ take (end - at) (drop at t) ∷ lines (drop (end + 1) t) =
      lines_split (drop at t) d
      ∙ ap₂ (λ (a c : List ℕ). a ∷ lines c) (ap (λ (i : ℕ). take i (drop at t)) n)
      (drop-drop (suc (index_of 10 (drop at t))) at t ∙ ap (λ (i : ℕ). drop i t) m) in
      rw s (ap (λ (i : ℕ). line_at t at end ∷ line_pieces i (lines (drop (end + 1) t))) z)

-- a line whose statement is empty leaves the state as it is
blank_line : (k : Room) (line n : ℕ) (s : Section) (l : Piece) (σ : State) (bytes : List ℕ) → length bytes ≡ 0
    → step_parsed k line (parsed s l (piece n bytes)) σ ≡ Ok σ
unfolding step_parsed parsed labelled unlabelled_of label_step statement_step starts_with same index_of before
blank_line k line n s l σ [] e = refl
blank_line k line n s l σ (x ∷ xs) e = absurd (omega arith)

-- ---- the loop's head

-- what all the lines come to
abbrev pub whole : Room → List ℕ → Result State Refusal
whole k t = line_stage k 0 (line_pieces 0 (lines t)) start

-- the buffers stand for a state from which the lines that are left come to what all of them come to
pub record Head (t : List ℕ) (k : Room) (b : Store) (c : Counters) (at line : ℕ) : Type 0 where
  pub σ : State
  pub stands : Stands t k c b σ
  pub counted : line ≤ at
  pub within : at ≤ length t + 1
  pub goes : line_stage k line (lines_from t at) σ ≡ whole k t

-- the same buffers and counters have the same head
pub head_same : (t : List ℕ) (k : Room) (b b' : Store) (c c' : Counters) (at line : ℕ) → b ≡ b' → c ≡ c' → Head t k b' c' at line → Head t k b c at line
head_same t k b b' c c' at line p q h = subst (λ (d : Counters). Head t k b d at line) (sym q) (subst (λ (a : Store). Head t k a c' at line) (sym p) h)

pub head_first : (t : List ℕ) (k : Room) (b : Store) → Stands t k start_counters b start → Head t k b start_counters 0 0
head_first t k b s = record { σ = start; stands = s; counted = omega arith; within = omega arith; goes = refl }

module _ (t : List ℕ) (k : Room) (b : Store) (c : Counters) (at line : ℕ) (h : Head t k b c at line) where
  -- past the last line nothing is left
  pub turns_end : length t ≤ at → whole k t ≡ Ok h.σ
  unfolding line_stage lines line_pieces
  turns_end g = sym h.goes ∙ rw (drop_of_length-le t g)

  -- the line that is cut next
  module _ (cut : Cut) (below : at < length t) (starts : cut.at ≡ at) (w : LineCut t cut) where
    ends : cut.end ≡ at + index_of 10 (drop at t)
    ends = subst (λ (n : ℕ). cut.end ≡ n + index_of 10 (drop n t)) starts w.ends

    cut_there : lines_from t at ≡ cut_line t cut ∷ lines_from t (cut.end + 1)
    cut_there = lines_there t at cut.end below ends ∙ ap (λ (n : ℕ). line_at t n cut.end ∷ lines_from t (cut.end + 1)) (sym starts)

    module _ (b' : Store) (r : Result Counters ℕ) (steps : Steps (Stands t k) c b r b' (step_line k line (cut_line t cut))) where
      -- the line's step, then the lines after it
      here_on : (m : Result State ℕ) → step_line k line (cut_line t cut) h.σ ≡ m
          → and_then (at_line line m) (line_stage k (line + 1) (lines_from t (cut.end + 1))) ≡ whole k t
      unfolding line_stage
      here_on m e = rw (← e, add-one line) (ap (λ (ps : List Piece). line_stage k line ps h.σ) (sym cut_there) ∙ h.goes)

      pub turn_go : (c' : Counters) → r ≡ Ok c' → Head t k b' c' (cut.end + 1) (line + 1)
      turn_go c' e =
          let a = agreed (λ d. Stands t k d b') c' (step_line k line (cut_line t cut) h.σ) (rw e at (steps h.σ h.stands)) in
          record {
            σ = a.it;
            stands = a.stands;
            counted = omega (arith, h.counted, ends);
            within = omega (arith, end_within t at cut.end below ends);
            goes = here_on (Ok a.it) a.is;
          }

      pub turn-stop : (n : ℕ) → r ≡ Err n → whole k t ≡ Err (record { number = n; line = line })
      turn-stop n e = sym (here_on (Err n) (agreed_refused (λ d. Stands t k d b') n (step_line k line (cut_line t cut) h.σ) (rw e at (steps h.σ h.stands))))

    -- a line without a statement leaves all as it is
    pub turn_blank : cut.part.len ≤ 0 → Head t k b c (cut.end + 1) (line + 1)
    turn_blank e =
        let none : length (statement_of (cut_line t cut)).bytes ≡ 0 = sym (ap (λ (q : Span). q.len) w.statement) ∙ omega arith in
        turn_go b (Ok c) (λ σ s. rw (blank_line k line _ σ.rest.own.section (cut_line t cut) σ (statement_of (cut_line t cut)).bytes none) s) c refl

-- ---- the start

-- nothing is laid out, and the buffers hold zeros
module _ (t : List ℕ) (words : ℕ) (l n e x i d w : List ℕ) where
  abbrev lent : Lent
  lent = record { words = words; data_bytes = length d; label_bytes = length l; equate_bytes = length e; item_bytes = length i }

  pub start_stands : length n ≡ label_index_room → length x ≡ expr_room → length w ≡ label_word_room
      → l ≡ replicate (length l) 0 → n ≡ replicate (length n) 0 → e ≡ replicate (length e) 0 → x ≡ replicate (length x) 0 → i ≡ replicate (length i) 0
      → d ≡ replicate (length d) 0 → w ≡ replicate (length w) 0 → Stands t (room_of lent) start_counters (store l n e x i d w) start
  unfolding together
  start_stands hn hx hw zl zn ze zx zi zd zw =
      let f = start_fits t (room_of lent) in
      record {
        labels = record {
          counted = refl;
          fits = f.labels;
          limit = omega arith;
          lent = omega arith;
          records = rw (sub-zero (length l)) zl;
          room = hn;
          indexed = rw zn (indexed_none (length n) (omega (arith, hn)));
          distinct = distinct_none;
        };
        rest = record {
          equates = record {
            counted = refl;
            fits = f.rest.equates;
            limit = omega arith;
            lent = omega arith;
            room = hx;
            records = rw (sub-zero (length e)) ze;
            exprs = rw (sub-zero (length x)) zx;
          };
          own = record {
            section = refl;
            items = record {
              counted = refl;
              words = refl;
              fits = f.rest.own.items;
              limit = omega arith;
              word_limit = omega arith;
              lent = omega arith;
              bytes = rw (sub-zero (length i)) zi;
            };
            stored = record {
              counted = refl;
              fits = f.rest.own.stored;
              limit = omega arith;
              lent = omega arith;
              bytes = rw (sub-zero (length d)) zd;
              label_words = record {
                counted = refl;
                few = omega arith;
                room = hw;
                entries = [];
                mean = refl;
                within = tt;
                bytes = rw (sub-zero (length w)) zw;
              };
            };
            bss = refl;
            bss_limit = omega arith;
          };
        };
      }
