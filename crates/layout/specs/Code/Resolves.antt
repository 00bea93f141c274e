-- The rounds in code: an equate's turn, an equate that has waited, and what the rounds leave.
use Rattle.std.specs.Prelude.{Ok, Err}
use Rattle.std.specs.Prelude.{Result}
use Rattle.std.specs.Prelude.{ℕ, ◌+◌, ◌*◌, ◌≤◌, ◌≡◌, List, [], map, false, pos, length, get_or, set}
use Rattle.std.specs.Prelude.{None}
use Rattle.numbers.specs.Ints.{bits, signed_of}
use Rattle.layout.specs.declared.addresses.Starts.{Starts}
use Rattle.layout.specs.declared.expr.Expression.{Expression}
use Rattle.layout.specs.declared.expr.Partial.{Partial}
use Rattle.layout.specs.declared.expr.Evaluated as answer
use Rattle.layout.specs.declared.expr.Evaluated.TheVariants.{Value, Waits}
use Rattle.layout.specs.declared.rounds.Evaluation.{Evaluation}
use Rattle.layout.specs.declared.rounds.Round.{Round}
use Rattle.layout.specs.declared.labels.Labels.{Labels}
use Rattle.layout.specs.declared.state.Section.TheVariants as section
use Rattle.layout.specs.Pieces.{piece}
use Rattle.layout.specs.State.{Equate, State}
use Rattle.layout.specs.Stage.{is_label}
use Rattle.layout.specs.Records.{RecordField, table_of}
use Rattle.layout.specs.Addresses.{address_at}
use Rattle.layout.specs.Rounds.{Known, pending_equate, constant, look, is_some, turn, Turns}
use Rattle.layout.specs.Layouts.{resolve}
use Rattle.layout.specs.Code.Steps.{Exists, Agrees}
use Rattle.layout.specs.Code.Stands.{expr_so_far}
use Rattle.layout.specs.Code.Lent.{OverCall}
use Rattle.layout.specs.Code.Placed.{StartsAt}
use Rattle.layout.specs.Code.Names.{EquateTable, Scope, NamesStand}
use Rattle.layout.specs.Code.Terms.{evaluated_of, sum_on, Extends, TermWaits}
use Rattle.layout.specs.declared.refusal.RefusedAt.{RefusedAt}
use Rattle.layout.specs.Code.Numbers.{numbered, numbered_at}

-- ---- an equate's turn

abbrev pub known_expr : Known → List RecordField
known_expr k = expr_so_far k.equate

-- names, the sections' starts, and the equates' expressions
pub record TurnStand (t l n : List ℕ) (c : ℕ) (starts : Starts) (u e x : List ℕ) (m : ℕ) (exprs : List ℕ) (s : Scope) : Type 0 where
  pub names : NamesStand t l n c u e x m s
  pub starting : StartsAt starts s.base s.state
  pub records : exprs ≡ table_of (length exprs) known_expr s.known

-- the kth equate
abbrev pub no_known : Known
no_known =
    record {
      equate = record {
        name = piece 0 [];
        expr = record { source = piece 0 []; one_space = false };
        place = record { section = section.Text; offset = 0 };
        line = 0;
      };
      found = None;
    }

abbrev pub known_at : List Known → ℕ → Known
known_at ks k = get_or ks k no_known

abbrev pub equate_in : Scope → ℕ → Equate
equate_in s k = (known_at s.known k).equate

-- what is read of an equate's expression
pub record ExpressionOf (s : Scope) (e : Equate) (x : Expression) : Type 0 where
  pub source : x.source.now ≡ e.expr.source.bytes
  pub one_space : x.one_space ≡ e.expr.one_space
  pub here : x.here ≡ address_at s.base s.state e.place

-- an equate, named as no label, has waited: while it has no value by another equate of its name, its turn is what the sum comes to from there on, whatever
-- other names get values
pub record Blocked (s : Scope) (e : Equate) (p : Partial) : Type 0 where
  pub no_label : is_label e.name.bytes s.state.labels ≡ false
  pub goes : (ks : List Known) → Extends (look s.base s.state s.known) (look s.base s.state ks)
      → is_some (constant ks e.name.bytes) ≡ false
      → turn s.base s.state ks e
      ≡ sum_on e.expr.one_space e.expr.source.bytes (pos (address_at s.base s.state e.place)) p (look s.base s.state ks)

-- the same, and its sum has come as far as it can: to a term without a value
abbrev pub BlockedBy : Scope → Equate → Result answer.Evaluated ℕ → Type 0
BlockedBy s e (Ok (Value z)) = Unit
BlockedBy s e (Ok (Waits p)) =
    TermWaits (look s.base s.state s.known) e.expr.one_space e.expr.source.bytes (pos (address_at s.base s.state e.place)) p.at
    × Blocked s e p
BlockedBy s e (Err n) = Unit

-- an answer is the equate's turn; where it waits, it says from where it goes on
pub record TurnGives (s : Scope) (e : Equate) (r : Result answer.Evaluated ℕ) : Type 0 where
  pub answers : evaluated_of r ≡ turn s.base s.state s.known e
  pub blocked : BlockedBy s e r

-- from the second round on a pending equate has waited
abbrev pub HasWaited : ℕ → Scope → Equate → Partial → Type 0
HasWaited round s e p = (round ≡ 1 → ⊥) → Blocked s e p

pub record TurnAgain (t l n : List ℕ) (c : ℕ) (starts : Starts) (u e x : List ℕ) (m : ℕ) (exprs : List ℕ) (round k : ℕ) (p : Partial) (s : Scope) : Type 0 where
  pub stand : TurnStand t l n c starts u e x m exprs s
  pub waited : HasWaited round s (equate_in s k) p

-- ---- said of the code's round

abbrev pub TurnsFor : Round → Scope → Type 0
TurnsFor r =
    let l = r.names.labels.now in
    let e = r.names.equates.now in
    TurnStand l.text.now l.records.now l.index.now l.count r.starts e.text.now e.records.now e.index.now e.count r.exprs.now

abbrev pub TurnReady : Round → Type 0
TurnReady r = Exists (TurnsFor r)

abbrev pub TurnKnown : Round → (Scope → Type 0) → Type 0
TurnKnown r P = (s : Scope) → TurnsFor r s → P s

abbrev pub AgainFor : Round → ℕ → Partial → Scope → Type 0
AgainFor r =
    let l = r.names.labels.now in
    let e = r.names.equates.now in
    TurnAgain l.text.now l.records.now l.index.now l.count r.starts e.text.now e.records.now e.index.now e.count r.exprs.now r.number

abbrev pub AgainReady : Round → ℕ → Partial → Type 0
AgainReady r k p = Exists (AgainFor r k p)

abbrev pub AgainKnown : Round → ℕ → Partial → (Scope → Type 0) → Type 0
AgainKnown r k p P = (s : Scope) → AgainFor r k p s → P s

-- an evaluation: the turn, and one evaluation more
pub record EvaluationGives (s : Scope) (e : Equate) (evaluations : ℕ) (r : Evaluation) : Type 0 where
  pub gives : TurnGives s e (numbered r.answer)
  pub counted : r.evaluations ≡ evaluations + 1

-- ---- the table of how far the sums have come

-- its kth row: the sum's bits, and the place
abbrev pub partial_at : List ℕ → ℕ → Partial
partial_at w k = record { sum = signed_of 64 (get_or w (k * 2) 0); at = get_or w (k * 2 + 1) 0 }

abbrev pub put_partial : List ℕ → ℕ → Partial → List ℕ
put_partial w k p = set (set w (k * 2) (bits 64 p.sum)) (k * 2 + 1) p.at

-- ---- all rounds

-- every equate of a state, pending
abbrev pub pending_scope : ℕ → State → Scope
pending_scope base σ = record { base = base; state = σ; known = map pending_equate σ.rest.equates }

pub record RoundsStand (t l n : List ℕ) (c : ℕ) (starts : Starts) (e x : List ℕ) (m : ℕ) (exprs partials : List ℕ) (base : ℕ) (σ : State) : Type 0 where
  pub stand : TurnStand t l n c starts t e x m exprs (pending_scope base σ)
  pub room : m * 2 ≤ length partials

-- the same said of the code's labels
abbrev pub RoundsFor : Labels → Starts → List ℕ → List ℕ → ℕ → List ℕ → List ℕ → ℕ → State → Type 0
RoundsFor l = RoundsStand l.text.now l.records.now l.index.now l.count

pub record ResolveReady (l : Labels) (starts : Starts) (e x : List ℕ) (m : ℕ) (exprs partials : List ℕ) : Type 0 where
  pub base : ℕ
  pub state : State
  pub stands : RoundsFor l starts e x m exprs partials base state

-- the equates are what the rounds leave, by so many evaluations
pub record ResolveLeft (t e x : List ℕ) (m n : ℕ) (y : Turns) : Type 0 where
  pub evaluations : n ≡ y.evaluations
  pub equates : EquateTable t e x m y.known

abbrev pub Resolves : Labels → Starts → OverCall → List ℕ → ℕ → List ℕ → OverCall → Result ℕ RefusedAt → Type 0
Resolves l starts e x m exprs partials r =
    (s : ResolveReady l starts e.entry.now x m exprs partials.entry.now)
    → Agrees (ResolveLeft l.text.now e.exit.now x m) (numbered_at r) (resolve s.base s.state s.state.rest.equates)
