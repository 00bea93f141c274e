-- Walks of MIR by hand, as functions over a struct that holds a slice need them: what the walks share. Their parameters hold no `&mut`, and nothing is asked of their callers.
use Prim.Native.Nat.{ℕ, zero, ◌<◌, ◌^◌}
use mathlib.Core.Path.{◌≡◌, refl, subst}
use mathlib.Core.List.{List, [], ◌∷◌}
use seplogic.Ra.Ura.{Ura}
use mir.Syntax.{Ty, Fn, Place, place, Opd as Operand, copy, Body, seq, call, w64}
use mir.Val.{Val, vint}
use base.Logic.{SProp, ent, emp, sep, via, mono_r, emp∗, fst∗, snd∗, ex_e, id⊢}
use base.Fraction.{full_share}
use base.Fml.{Share, fat, fdies}
use prog.Model.{Model}
use prog.Routine.{Callee, Env as Routines}
use prog.Wp.{Env, Calls, Loops, WpFn, Closed, Tables, spot_of}
use types.Logic.{Logic, sem}
use contract.Lifetimes.{Lfts, Shares, AllOutlive}
use contract.Monad.{fact}
use contract.Running.{Running, tables, tables_of}
use types.Kit.{Goal, Post, runs, lands, frees, Item, ‵, raw, ◌⊛◌, some, later, ⋆, nth, Seq, Step, step, ◌$◌, ◌∵◌, !, qed, move, use0, use1, use2, split, join, pick, suffices, await, done}
use types.Run.{Opd, Opds, look, stop, from, load, forget, free1}
use sound.WpLaws.{FmC, fm_of, WpFn-mono}
use denote.RattleType.{RattleType, Denots, Valss, owns}
use denote.Builtin.{usize}
use denote.Laws.{Is, Are, Ises, Spells, valss, Tellss, shows}
use denote.Plain.{uint_Makes}
use denote.Signature.{Slot, type_at, types_at}
use denote.Steps.{heard, peeks, owned}
use denote.Triple.Call.{calls_at}
use denote.Triple.Clauses.{Ended, Clauses, Lasts, AtExit, at_exit, lasts, ensured, closing}
use denote.Triple.End.{Kepts, Fins}
use denote.Triple.Entry.{Args, alive}
use denote.Triple.Spec.{triple_of}
use denote.Triple.Statement.{Contract, Triple}
use denote.Triple.Table.{entered}
use denote.Triple.Walked.{Stays, stay_dropped, fits_of, has_of, Silent, AllGo, Goes-dropped, walk_of, ends_at, walked, walk_Meets}

-- ---- at the exit nothing has to be left of a parameter
abbrev dropped : {n : ℕ} (ss : List (Slot n)) (ks : Kepts ss) → Stays ss ks
dropped [] ks = tt
dropped (s ∷ ss) ks = (stay_dropped s ks.0, dropped ss ks.1)

fit_dropped : {n : ℕ} (κs : Lfts n) (ss : List (Slot n)) (ks : Kepts ss) (a : Denots (types_at ss κs)) (ws : Fins κs ss ks a) → fits_of κs ss ks (dropped ss ks) a ws
fit_dropped κs [] ks a ws = tt
fit_dropped κs (s ∷ ss) ks a ws = (tt, fit_dropped κs ss ks.1 a.1 ws.1)

module _ {M : Type 1} {𝓤 : Ura M} (𝓛 : Logic 𝓤) where
  has_dropped : {n : ℕ} (κs : Lfts n) (ss : List (Slot n)) (ks : Kepts ss) (a : Denots (types_at ss κs)) (ws : Fins κs ss ks a) (vss : Valss (types_at ss κs))
      → ent 𝓤 (emp 𝓤) (sem 𝓛 (has_of κs ss ks (dropped ss ks) a ws vss))
  has_dropped κs [] ks a ws vss = id⊢ 𝓤 (emp 𝓤)
  has_dropped κs (s ∷ ss) ks a ws vss = via 𝓤 (sep 𝓤 (emp 𝓤) (emp 𝓤)) (emp∗ 𝓤 (emp 𝓤)) (mono_r 𝓤 (emp 𝓤) (has_dropped κs ss ks.1 a.1 ws.1 vss.1))

  module _ (n : ℕ) where
    -- no parameter is changed
    abbrev Silents : (ss : List (Slot n)) → Kepts ss → Type 1
    Silents [] ks = Unit {1}
    Silents (s ∷ ss) ks = Silent 𝓛 n s ks.0 × Silents ss ks.1

    go_dropped : (ss : List (Slot n)) (ks : Kepts ss) → Silents ss ks → AllGo 𝓛 n ss ks (dropped ss ks)
    go_dropped [] ks e = tt
    go_dropped (s ∷ ss) ks e = (Goes-dropped 𝓛 n s ks.0 e.0, go_dropped ss ks.1 e.1)

-- ---- a call of a function with the contract c
module _ {M : Type 1} {𝓤 : Ura M} (𝓛 : Logic 𝓤) (T : Ended) (c : Clauses 𝓤 T) where
  abbrev promise : Contract 𝓤
  promise = triple_of 𝓛 T.signature (closing 𝓛 T c)

  -- lifetimes, shares of them, arguments and their machine values
  abbrev pub Call : Type 0
  Call = promise.Ghost

  module _ (y : Call) where
    -- the lifetimes' tokens, which come back; what the arguments own; what a result owns
    abbrev live : Item 𝓤
    live = raw (alive 𝓛 T.signature y.0.0 y.0.1)

    abbrev lent : Item 𝓤
    lent = ‵ (owns (types_at T.signature.params y.0.0) y.0.3 y.0.4)

    abbrev Result : RattleType
    Result = type_at T.signature.result y.0.0

    -- what the contract asks, and what it says of a result
    abbrev asked : SProp 𝓤
    asked = (c y.0.0 y.0.3).requires y.1

    abbrev told : Result.Denot → AtExit T y.0.0 → SProp 𝓤
    told = (c y.0.0 y.0.3).ensures y.1

    -- a walk begins here
    abbrev pub Entry : List (Item 𝓤)
    Entry = live ∷ lent ∷ []

    -- and has to end here,
    abbrev pub Ends : Val → SProp 𝓤
    Ends = (walk_of 𝓛 T (dropped T.signature.params T.kept) c).post y

    -- which it does with the tokens, what the result owns, and what the contract says of it
    pub ends : (v : Val) (r : Result.Denot) (ws : Lasts T y.0.0 y.0.3) → ent 𝓤 (⋆ 𝓛 ((live ⊛ ‵ (Result.own_val r (v ∷ []))) ∷ raw (told r (at_exit T y.0.0 y.0.3 ws)) ∷ [])) (Ends v)
    ends v r ws =
        let ps : List (Slot T.signature.lifetimes) = T.signature.params in
        qed 𝓛 ((live ⊛ ‵ (Result.own_val r (v ∷ []))) ∷ raw (told r (at_exit T y.0.0 y.0.3 ws)) ∷ []) ∵
        suffices ! _ (ends_at 𝓛 T (dropped ps T.kept) c y v r ws (fit_dropped y.0.0 ps T.kept y.0.3 ws)) $
        split ! $ use0 𝓛 (‵ (has_of y.0.0 ps T.kept (dropped ps T.kept) y.0.3 ws y.0.4)) (has_dropped 𝓛 y.0.0 ps T.kept y.0.3 ws y.0.4) $
        move ! (0 ∷ 2 ∷ []) $ join ! $ move ! (1 ∷ []) $ join ! $ done !

-- ---- a function meets its contract where there is a walk of each call
module _ {M : Type 1} {𝓤 : Ura M} (𝓛 : Logic 𝓤) (𝓜 : Model 𝓤 𝓛.H) (𝓡 : Running 𝓤 𝓛.H 𝓜) (γ : Routines) where
  -- a callee leaves alone what it is not lent
  open 𝓛 use {H}

  pub framed : FmC 𝓤 H 𝓛.laws (tables 𝓤 H 𝓜 𝓡 γ).C
  unfolding tables_of
  framed = fm_of 𝓤 H 𝓛.laws (tables_of 𝓤 H 𝓜 (tables 𝓤 H 𝓜 𝓡 γ))

  module _ (T : Ended) (c : Clauses 𝓤 T) (f : Fn) where
    abbrev pub Walk : Call 𝓛 T c → Type 1
    Walk y = ent 𝓤 (⋆ 𝓛 (Entry 𝓛 T c y)) (WpFn 𝓤 H (tables 𝓤 H 𝓜 𝓡 γ).C (tables 𝓤 H 𝓜 𝓡 γ).Λ f ((promise 𝓛 T c).args y) (Ends 𝓛 T c y))

    abbrev Ps : (κs : Lfts T.signature.lifetimes) → List RattleType
    Ps κs = types_at T.signature.params κs

    -- sp says how each type of a parameter spells a value in machine values
    pub meets : (k : Callee) → Closed 𝓤 H (tables 𝓤 H 𝓜 𝓡 γ).C (tables 𝓤 H 𝓜 𝓡 γ).Λ k f → Silents 𝓛 T.signature.lifetimes T.signature.params T.kept
        → (sp : (κs : Lfts T.signature.lifetimes) → Spells (Ps κs)) → ((κs : Lfts T.signature.lifetimes) → Tellss (Ps κs) (Ises (Ps κs)) (sp κs))
        → ((κs : Lfts T.signature.lifetimes) (qs : Shares T.signature.lifetimes) (bounds : AllOutlive T.signature.lifetimes T.signature.outlives κs)
        (a : Args T.signature κs) (g : (c κs a).ghost) → Are (Ps κs) (Ises (Ps κs)) a (valss (Ps κs) (sp κs) a) → Walk ((κs, qs, bounds, a, valss (Ps κs) (sp κs) a), g))
        → Triple 𝓤 ((tables 𝓤 H 𝓜 𝓡 γ).C k) (promise 𝓛 T c)
    unfolding tables_of
    meets k closed silent sp tells walk =
        let 𝓣 : Tables 𝓤 H = tables_of 𝓤 H 𝓜 (tables 𝓤 H 𝓜 𝓡 γ) in
        let stays : Stays T.signature.params T.kept = dropped T.signature.params T.kept in
        entered 𝓤 H (promise 𝓛 T c) 𝓣.C 𝓣.Λ k f closed
        (walk_Meets 𝓛 T stays (go_dropped 𝓛 T.signature.lifetimes T.signature.params T.kept silent) c (WpFn 𝓤 H 𝓣.C 𝓣.Λ f) (WpFn-mono 𝓤 H 𝓛.laws 𝓣 f)
        (walked 𝓛 T stays c (WpFn 𝓤 H 𝓣.C 𝓣.Λ f) sp tells (λ κs qs bounds a g are. via 𝓤 _ (fst∗ 𝓤 _ ((c κs a).requires g)) (walk κs qs bounds a g are))))

-- ---- steps of a walk
module _ {M : Type 1} {𝓤 : Ura M} {𝓛 : Logic 𝓤} {K : Type 0} {Γ : List (Item 𝓤)} where
  -- what a number owns is a fact, and made where it is asked
  open 𝓛 use {H}

  pub number-owned : K → {G : Goal 𝓤 H} (n : ℕ) → n < 2 ^ 64 → Step K 𝓛 (‵ (usize.own_val n (vint w64 n ∷ [])) ∷ Γ) G Γ G
  number-owned t n fits = owned t usize (Is usize) (uint_Makes 𝓛 w64) n (vint w64 n ∷ []) (refl, fits)

  -- the i-th local is read, which stands n-th in the context
  pub local : K → {E : Env 𝓤 H} {i : ℕ} (n : ℕ) {q : Share} {v : Val} → nth 𝓛 n Γ ≡ ‵ (fat q (spot_of 𝓤 H E i).0 (spot_of 𝓤 H E i).1 (spot_of 𝓤 H E i).2 v) → Opd K 𝓛 Γ E (copy (place i [])) v
  local t n e = load t (from t (stop t)) (look t n e)

  -- a local that holds a value is let go at the return
  pub leave : K → {τ : Ty} {b : ℕ} {v : Val} {E : Env 𝓤 H} {g : Goal 𝓤 H} → Step K 𝓛 Γ (frees E g) (‵ (fat full_share τ b zero v) ∷ ‵ (fdies τ b) ∷ Γ) (frees ((τ, b) ∷ E) g)
  leave t = step (λ s. forget t 0 refl $ free1 t $ s)

  -- a call: the arguments are lent, and there is a result r with the machine value u, of which φ holds
  pub calls : K → {C : Calls 𝓤 H} {Λ : Loops 𝓤 H} {E : Env 𝓤 H} {f : Callee} {xs : List Operand} {d : Place} {rest : Body} {q : Post 𝓤 H} → FmC 𝓤 H 𝓛.laws C
      → (T : Ended) (c : Clauses 𝓤 T) → Triple 𝓤 (C f) (promise 𝓛 T c) → (y : Call 𝓛 T c) → emp 𝓤 ≡ asked 𝓛 T c y
      → (φ : (Result 𝓛 T c y).Denot → Type 0) → ((r : (Result 𝓛 T c y).Denot) (w : AtExit T y.0.0) → told 𝓛 T c y r w ≡ fact 𝓤 (φ r))
      → Opds K 𝓛 (raw ((promise 𝓛 T c).pre y) ∷ Γ) E xs ((promise 𝓛 T c).args y)
      → ((u : Val) (r : (Result 𝓛 T c y).Denot) → φ r → Is (Result 𝓛 T c y) r (u ∷ []) → Seq K 𝓛 (‵ ((Result 𝓛 T c y).own_val r (u ∷ [])) ∷ live 𝓛 T c y ∷ Γ) (lands C Λ E d u rest q))
      → Seq K 𝓛 (live 𝓛 T c y ∷ lent 𝓛 T c y ∷ Γ) (runs C Λ E (seq (call f xs d) rest) q)
  calls t framed T c met y nothing-asked φ says operands k =
      let R : RattleType = Result 𝓛 T c y in
      use0 𝓛 (raw (asked 𝓛 T c y)) (subst (ent 𝓤 (emp 𝓤)) nothing-asked (id⊢ 𝓤 (emp 𝓤))) $ move t (1 ∷ 2 ∷ []) $ join t $ use2 𝓛 (raw ((promise 𝓛 T c).pre y)) (id⊢ 𝓤 _) $
      calls_at t framed (promise 𝓛 T c) met y operands (λ u.
      use1 𝓛 (later (some (λ (r : R.Denot). (live 𝓛 T c y ⊛ ‵ (R.own_val r (u ∷ []))) ⊛ raw (ensured 𝓛 T c y.0.0 y.0.3 y.1 r)))) (id⊢ 𝓤 _) $ await t tt $ pick t (λ r. split t $ move t (1 ∷ []) $
      use1 𝓛 (raw (fact 𝓤 (φ r))) (ex_e 𝓤 _ (λ ws. subst (ent 𝓤 _) (says r (at_exit T y.0.0 y.0.3 ws)) (snd∗ 𝓤 (sem 𝓛 (lasts T y.0.0 y.0.3 ws)) _))) $ heard t (φ r) (λ e.
      split t $ move t (1 ∷ []) $ peeks t R (Is R) (shows 𝓛 R) r (u ∷ []) (λ is. k u r e is))))
