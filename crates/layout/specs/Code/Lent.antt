-- What a step asks of the buffers lent to it, and what it promises of them, part by part: Ready is its requirement, Steps its promise.
use Rattle.std.specs.Borrow.{MutBor}
use denote.Triple.Both.{Both}
use Rattle.std.specs.Prelude.{ℕ, List}
use Rattle.std.specs.Prelude.{Result}
use Rattle.layout.specs.declared.limits.Room.{Room}
use Rattle.layout.specs.declared.state.ItemCount.{ItemCount}
use Rattle.layout.specs.declared.state.DataCount.{DataCount}
use Rattle.layout.specs.declared.state.OwnCounters.{OwnCounters}
use Rattle.layout.specs.declared.state.RestCounters.{RestCounters}
use Rattle.layout.specs.declared.state.Counters.{Counters}
use Rattle.layout.specs.Refusals.{Refusal}
use Rattle.layout.specs.State.{Label, Equate, LabelWord, Items, Stored, Own, Rest, State, start}
use Rattle.layout.specs.Code.Steps.{Exists, Agrees, Steps}
use Rattle.layout.specs.Code.Stands.{LabelsStand, EquatesStand, ItemsStand, LabelWordsStand, StoredStand, OwnStand, RestStand, Stands}
use Rattle.layout.specs.Code.Stands.{label_store, equate_store, data_store, own_store, rest_store, Store, store}
use Rattle.layout.specs.Code.Stands.{start_counters}
use Rattle.layout.specs.declared.refusal.Refusal as code
use Rattle.layout.specs.declared.refusal.RefusedAt.{RefusedAt}
use Rattle.layout.specs.Code.Numbers.{numbered, numbered_at}

-- bytes that are lent, and the same over a call
abbrev pub LentSlice : Type 0
LentSlice = MutBor (List ℕ)

abbrev pub OverCall : Type 0
OverCall = Both LentSlice LentSlice

-- ---- what is lent stands for something

abbrev pub LabelsReady : List ℕ → List ℕ → List ℕ → Room → ℕ → Type 0
LabelsReady t l n k c = Exists (LabelsStand t k c (label_store l n))

abbrev pub EquatesReady : List ℕ → List ℕ → List ℕ → Room → ℕ → Type 0
EquatesReady t e x k c = Exists (EquatesStand t k c (equate_store e x))

abbrev pub ItemsReady : List ℕ → List ℕ → Room → ItemCount → Type 0
ItemsReady t i k c = Exists (ItemsStand t k c i)

abbrev pub LabelWordsReady : List ℕ → List ℕ → ℕ → Type 0
LabelWordsReady t w c = Exists (LabelWordsStand t c w)

abbrev pub DataReady : List ℕ → List ℕ → List ℕ → Room → DataCount → Type 0
DataReady t d w k c = Exists (StoredStand t k c (data_store d w))

abbrev pub OwnReady : List ℕ → List ℕ → List ℕ → List ℕ → Room → OwnCounters → Type 0
OwnReady t i d w k c = Exists (OwnStand t k c (own_store i d w))

abbrev pub RestReady : List ℕ → List ℕ → List ℕ → List ℕ → List ℕ → List ℕ → Room → RestCounters → Type 0
RestReady t e x i d w k c = Exists (RestStand t k c (rest_store e x i d w))

abbrev pub store_now : List ℕ → List ℕ → List ℕ → List ℕ → List ℕ → List ℕ → List ℕ → Store
store_now l n e x i d w = store l n e x i d w

abbrev pub StageReady : List ℕ → List ℕ → List ℕ → List ℕ → List ℕ → List ℕ → List ℕ → List ℕ → Room → Counters → Type 0
StageReady t l n e x i d w k c = Exists (Stands t k c (store_now l n e x i d w))

-- ---- the answer r, with what is left in the buffers, is what f gives of what they stood for

abbrev pub LabelsSteps : List ℕ → OverCall → OverCall → Room → ℕ → Result ℕ code.Refusal → (List Label → Result (List Label) ℕ) → Type 0
LabelsSteps t l n k c r f =
    Steps (LabelsStand t k) c (label_store l.entry.now n.entry.now)
    (numbered r) (label_store l.exit.now n.exit.now) f

abbrev pub EquatesSteps : List ℕ → OverCall → OverCall → Room → ℕ → Result ℕ code.Refusal → (List Equate → Result (List Equate) ℕ) → Type 0
EquatesSteps t e x k c r f =
    Steps (EquatesStand t k) c (equate_store e.entry.now x.entry.now)
    (numbered r) (equate_store e.exit.now x.exit.now) f

abbrev pub ItemsSteps : List ℕ → OverCall → Room → ItemCount → Result ItemCount code.Refusal → (Items → Result Items ℕ) → Type 0
ItemsSteps t i k c r f = Steps (ItemsStand t k) c i.entry.now (numbered r) i.exit.now f

abbrev pub LabelWordsSteps : List ℕ → OverCall → ℕ → Result ℕ code.Refusal → (List LabelWord → Result (List LabelWord) ℕ) → Type 0
LabelWordsSteps t w c r f = Steps (LabelWordsStand t) c w.entry.now (numbered r) w.exit.now f

abbrev pub DataSteps : List ℕ → OverCall → OverCall → Room → DataCount → Result DataCount code.Refusal → (Stored → Result Stored ℕ) → Type 0
DataSteps t d w k c r f =
    Steps (StoredStand t k) c (data_store d.entry.now w.entry.now)
    (numbered r) (data_store d.exit.now w.exit.now) f

abbrev pub OwnSteps : List ℕ → OverCall → OverCall → OverCall → Room → OwnCounters → Result OwnCounters code.Refusal → (Own → Result Own ℕ) → Type 0
OwnSteps t i d w k c r f =
    Steps (OwnStand t k) c (own_store i.entry.now d.entry.now w.entry.now)
    (numbered r) (own_store i.exit.now d.exit.now w.exit.now) f

abbrev pub RestSteps : List ℕ → OverCall → OverCall → OverCall → OverCall → OverCall → Room → RestCounters → Result RestCounters code.Refusal
    → (Rest → Result Rest ℕ) → Type 0
RestSteps t e x i d w k c r f =
    Steps (RestStand t k) c
    (rest_store e.entry.now x.entry.now i.entry.now d.entry.now w.entry.now)
    (numbered r) (rest_store e.exit.now x.exit.now i.exit.now d.exit.now w.exit.now) f

abbrev pub StageSteps : List ℕ → OverCall → OverCall → OverCall → OverCall → OverCall → OverCall → OverCall → Room → Counters → Result Counters code.Refusal
    → (State → Result State ℕ) → Type 0
StageSteps t l n e x i d w k c r f =
    Steps (Stands t k) c (store_now l.entry.now n.entry.now e.entry.now x.entry.now i.entry.now d.entry.now w.entry.now)
    (numbered r) (store_now l.exit.now n.exit.now e.exit.now x.exit.now i.exit.now d.exit.now w.exit.now) f

-- ---- the whole stage

-- nothing is laid out yet
abbrev pub StageStarts : List ℕ → List ℕ → List ℕ → List ℕ → List ℕ → List ℕ → List ℕ → List ℕ → Room → Type 0
StageStarts t l n e x i d w k = Stands t k start_counters (store_now l n e x i d w) start

-- the answer r, with what is left in the buffers, is what the definition comes to
abbrev pub StageGives : List ℕ → OverCall → OverCall → OverCall → OverCall → OverCall → OverCall → OverCall → Room → Result Counters RefusedAt
    → Result State Refusal → Type 0
StageGives t l n e x i d w k r a =
    Agrees (λ c. Stands t k c (store_now l.exit.now n.exit.now e.exit.now x.exit.now i.exit.now d.exit.now w.exit.now)) (numbered_at r) a
