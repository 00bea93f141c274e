-- The items' words: what emitting them asks of the buffers, and what it leaves.
use Rattle.std.specs.Prelude.{ℕ, ◌≤◌, ◌≡◌, List, [], length, replicate}
use Rattle.std.specs.Prelude.{Result}
use Rattle.layout.specs.declared.names.Names.{Names}
use Rattle.layout.specs.declared.addresses.Starts.{Starts}
use Rattle.layout.specs.declared.limits.Room.{Room}
use Rattle.layout.specs.Refusals.{Refusal}
use Rattle.layout.specs.Bytes.{padded}
use Rattle.layout.specs.Records.{table_of}
use Rattle.layout.specs.Addresses.{label_address}
use Rattle.layout.specs.Rounds.{constant}
use Rattle.layout.specs.Layouts.{item_row, Emitted, emit}
use Rattle.layout.specs.Code.Steps.{Agrees}
use Rattle.layout.specs.Code.Stands.{ItemsStand}
use Rattle.layout.specs.Code.Lent.{OverCall}
use Rattle.layout.specs.Code.Placed.{StartsAt}
use Rattle.layout.specs.Code.Names.{Scope, NamesStand}
use Rattle.layout.specs.declared.refusal.RefusedAt.{RefusedAt}
use Rattle.layout.specs.Code.Numbers.{numbered_at}

-- names, where the sections start, the items as the lines left them, and words of zeros with room for what they reserve
pub record Unemitted (t l n : List ℕ) (c : ℕ) (u e x : List ℕ) (m : ℕ) (starts : Starts) (i : List ℕ) (count : ℕ) (w : List ℕ) : Type 0 where
  pub scope : Scope
  pub room : Room
  pub reserved : ℕ
  pub names : NamesStand t l n c u e x m scope
  pub starting : StartsAt starts scope.base scope.state
  pub items : ItemsStand t room (record { items = count; words = reserved }) i scope.state.rest.own.items
  pub zeros : w ≡ replicate (length w) 0
  pub lent : room.words ≤ length w

-- what the items emit by the names in a scope
abbrev pub emitted_in : Scope → Result Emitted Refusal
emitted_in s = emit s.base (constant s.known) (label_address s.base s.state) s.state.rest.own.items.list [] []

-- words and items are what the definition emits
pub record EmitLeft (i w : List ℕ) (n : ℕ) (y : Emitted) : Type 0 where
  pub counted : n ≡ length y.words
  pub words : w ≡ padded (length w) y.words
  pub items : i ≡ table_of (length i) item_row y.items

-- what is lent is to be emitted, and what it then has
abbrev pub EmitReady : Names → Starts → List ℕ → ℕ → List ℕ → Type 0
EmitReady n =
    let l = n.labels.now in
    let e = n.equates.now in
    Unemitted l.text.now l.records.now l.index.now l.count e.text.now e.records.now e.index.now e.count

abbrev pub Emits : Names → Starts → OverCall → ℕ → OverCall → Result ℕ RefusedAt → Type 0
Emits n starts i count w r =
    (u : EmitReady n starts i.entry.now count w.entry.now)
    → Agrees (EmitLeft i.exit.now w.exit.now) (numbered_at r) (emitted_in u.scope)
