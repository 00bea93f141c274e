-- The rounds, equate by equate: what a turn leaves, what is found and what waits, and how the code's two loops carry the rounds on.
use Prim.Native.Nat.{ℕ, zero, suc, ◌+◌, ◌-◌, ◌*◌, ◌^◌, ◌≤◌, ◌<◌}
use native.Mathlib.Numerals.{add-one}
use native.Mathlib.Omega.{arith}
use mathlib.Core.Path.{◌≡◌, refl, sym, ap, ap₂, subst, ◌∙◌}
use mathlib.Core.List.{List, [], ◌∷◌, ◌++◌, map, append_assoc, append-nil}
use mathlib.Core.Bool.{Bool, true, false}
use Rattle.std.proofs.Common.{Option, None, Some}
use lib.Dec.{eqb}
use lib.IntN.{ℤ, pos}
use lib.ListN.{length, get_or, set, length-append, length-set, length-map}
use lib.Seq.{set_at, get_or-set_same, get_or-set_other, get_or-append_seam}
use borrow.Author.Tests.{eq-eqb, ne_eqb}
use Rattle.std.proofs.Common.{Result, Ok, Err}
use Rattle.numbers.specs.Results.{and_then}
use Rattle.numbers.specs.Text.{same}
use Rattle.numbers.specs.Ints.{in64, bits, signed_of}
use Rattle.numbers.proofs.Bools.{none-some}
use Rattle.numbers.proofs.Prefixes.{same_equal}
use Rattle.layout.specs.declared.addresses.Starts.{Starts}
use Rattle.layout.specs.declared.expr.Partial.{Partial}
use Rattle.layout.specs.declared.expr.Evaluated as answer
use Rattle.layout.specs.Refusals.{Refusal, at_line}
use Rattle.layout.specs.Bytes.{put, padded, together}
use Rattle.layout.specs.Limits.{equate_size, equate_limit}
use Rattle.layout.specs.Statements.{expr_text}
use Rattle.layout.specs.State.{Equate, State}
use Rattle.layout.specs.Stage.{is_label}
use Rattle.layout.specs.Records.{field_bytes, equate_fields, table_of, equate_record_at}
use Rattle.layout.specs.Addresses.{address_at, label_address}
use Rattle.layout.specs.Expressions.{Evaluated, evaluate}
use Rattle.layout.specs.Rounds.{Found, Known, pending_equate, or_else, found_value, constant, as_number, look, is_some, turn, Turns, turns}
use Rattle.layout.specs.Rounds.{after_turn, pass_one, pass, pending_count, first_pending, unresolved, rounds}
use Rattle.layout.specs.Layouts.{resolve}
use Rattle.layout.specs.Code.Fits.{Each}
use Rattle.layout.specs.Code.Stands.{label_store, expr_so_far}
use Rattle.layout.specs.Code.Placed.{StartsAt, LabelsPlaced}
use Rattle.layout.specs.Code.Names.{known_fields, known_name, FoundFits, KnownFits, EquateTable, Scope}
use Rattle.layout.specs.Code.Terms.{Extends}
use Rattle.layout.specs.Code.Resolves.{TurnAgain, TurnGives}
use Rattle.layout.specs.Code.Resolves.{known_expr, TurnStand, no_known, known_at, equate_in, Blocked, partial_at, put_partial, RoundsStand}
use Rattle.layout.proofs.Each.{each_at}
use Rattle.layout.proofs.TableLaws.{table_set}
use Rattle.layout.proofs.IndexLaws.{by_equal}
use Rattle.layout.proofs.TermLaws.{extends_trans}
use Rattle.layout.proofs.KnownLaws.{known_sized, constant_append, name-start, name_len, line_back, pending_at, found_at}
use Rattle.layout.proofs.RoundHistory.{pending_all, equates_all}
use Rattle.layout.proofs.RoundLaws.{Free}
use Rattle.layout.proofs.ResolveLaws.{no_label_address, tried}
use Rattle.layout.proofs.Fields.{ValueFits, turn_fits, signed_back}

-- ---- a turn

module _ (base : ℕ) (σ : State) (ks : List Known) (e : Equate) where
  pub turn-label : is_label e.name.bytes σ.labels ≡ true → Err 14 ≡ turn base σ ks e
  unfolding turn
  turn-label l = rw (turn, l) refl

  module _ (l : is_label e.name.bytes σ.labels ≡ false) where
    pub turn_known : is_some (constant ks e.name.bytes) ≡ true → Err 15 ≡ turn base σ ks e
    unfolding turn
    turn_known c = rw (turn, l, c) refl

    pub turn_evaluates : is_some (constant ks e.name.bytes) ≡ false
        → evaluate (look base σ ks) (pos (address_at base σ e.place)) (expr_text e.expr) ≡ turn base σ ks e
    unfolding turn
    turn_evaluates c = rw (turn, l, c) refl

-- ---- what an equate that is found changes

constant_of : (k : Known) (rest : List Known) (n : List ℕ) (c : Bool) → same (known_name k) n ≡ c
    → constant (k ∷ rest) n ≡ elim c [ true ↦ or_else (found_value k.found) (constant rest n) | false ↦ constant rest n ]
unfolding constant
constant_of k rest n c e = rw (constant, e) refl

module _ (base : ℕ) (σ : State) (done : List Known) (k : Known) (rest : List Known) (f : Found) (pending : k.found ≡ None)
    (free : Free σ (done ++ k ∷ rest) k.equate) where
  abbrev now : Known
  now = record { equate = k.equate; found = Some f }

  -- before, a name that is this one's had no value at all
  was_none : (n : List ℕ) → same (known_name k) n ≡ true → look base σ (done ++ k ∷ rest) n ≡ None
  was_none n e =
      let q = same_equal (known_name k) n e in
      subst (λ (m : List ℕ). look base σ (done ++ k ∷ rest) m ≡ None) q
      (ap₂ (λ (a : Option ℤ) (b : Option ℕ). or_else a (as_number b)) free.fresh (no_label_address base σ σ.labels (known_name k) free.no_label))

  -- another name's value is the same
  is_same : (n : List ℕ) → same (known_name k) n ≡ false → constant (done ++ now ∷ rest) n ≡ constant (done ++ k ∷ rest) n
  is_same n e =
      constant_append done (now ∷ rest) n
      ∙ ap (or_else (constant done n)) (constant_of now rest n false e ∙ sym (constant_of k rest n false e))
      ∙ sym (constant_append done (k ∷ rest) n)

  found_extends : Extends (look base σ (done ++ k ∷ rest)) (look base σ (done ++ now ∷ rest))
  found_extends n z q = by (same (known_name k) n) refl
    where
      by : (c : Bool) → same (known_name k) n ≡ c → look base σ (done ++ now ∷ rest) n ≡ Some z
      by true e = absurd (none-some (sym (was_none n e) ∙ q))
      by false e = ap (λ (o : Option ℤ). or_else o (as_number (label_address base σ n))) (is_same n e) ∙ q

-- what has waited goes on from there, whatever other names have got values
blocked_later : (base : ℕ) (σ : State) (ks ls : List Known) → Extends (look base σ ks) (look base σ ls) → (e : Equate) (p : Partial)
    → Blocked (record { base = base; state = σ; known = ks }) e p → Blocked (record { base = base; state = σ; known = ls }) e p
blocked_later base σ ks ls x e p b =
    record { no_label = b.no_label; goes = λ ms y c. b.goes ms (extends_trans (look base σ ks) (look base σ ls) (look base σ ms) x y) c }

-- ---- a round, equate by equate

module _ (base : ℕ) (σ : State) (r : ℕ) (done : List Known) (k : Known) (rest : List Known) (n : ℕ) where
  -- an equate's turn, where what stands before it and what it comes to are known
  one_found : (f : Found) → k.found ≡ Some f → pass_one base σ r done k rest n k.found ≡ Ok (turns (done ++ k ∷ []) n)
  one_found f e = ap (pass_one base σ r done k rest n) e

  pub pass_kept : (f : Found) → k.found ≡ Some f → pass base σ r done (k ∷ rest) n ≡ pass base σ r (done ++ k ∷ []) rest n
  unfolding pass
  pass_kept f e = ap (λ (x : Result Turns Refusal). and_then x (λ y. pass base σ r y.known rest y.evaluations)) (one_found f e)

  module _ (pending : k.found ≡ None) where
    one_turn : (v : Evaluated) → turn base σ (done ++ k ∷ rest) k.equate ≡ v
        → pass_one base σ r done k rest n k.found ≡ at_line k.equate.line (after_turn r done k.equate n v)
    one_turn v e = ap (pass_one base σ r done k rest n) pending ∙ ap (λ (w : Evaluated). at_line k.equate.line (after_turn r done k.equate n w)) e

    goes_on : (v : Evaluated) → turn base σ (done ++ k ∷ rest) k.equate ≡ v
        → pass base σ r done (k ∷ rest) n
        ≡ and_then (at_line k.equate.line (after_turn r done k.equate n v)) (λ y. pass base σ r y.known rest y.evaluations)
    unfolding pass
    goes_on v e = ap (λ (x : Result Turns Refusal). and_then x (λ y. pass base σ r y.known rest y.evaluations)) (one_turn v e)

    pub pass_found : (z : ℤ) → turn base σ (done ++ k ∷ rest) k.equate ≡ Ok (Some z)
        → pass base σ r done (k ∷ rest) n ≡ pass base σ r (done ++ record { equate = k.equate; found = Some (record { value = z; round = r }) } ∷ []) rest (suc n)
    pass_found z e = goes_on (Ok (Some z)) e

    pub pass_waits : turn base σ (done ++ k ∷ rest) k.equate ≡ Ok None
        → pass base σ r done (k ∷ rest) n ≡ pass base σ r (done ++ k ∷ []) rest (suc n)
    pass_waits e =
        goes_on (Ok None) e
        ∙ ap (λ (o : Option Found). pass base σ r (done ++ record { equate = k.equate; found = o } ∷ []) rest (suc n)) (sym pending)

    pub pass-refused : (m : ℕ) → turn base σ (done ++ k ∷ rest) k.equate ≡ Err m
        → pass base σ r done (k ∷ rest) n ≡ Err (record { number = m; line = k.equate.line })
    pass-refused m e = goes_on (Err m) e

-- ---- lists with one equate in the midst

pub seam : {A : Type 0} (done : List A) (k : A) (rest : List A) → (done ++ k ∷ []) ++ rest ≡ done ++ k ∷ rest
seam done k rest = append_assoc done (k ∷ []) rest

at_seam : (done : List Known) (k : Known) (rest : List Known) → known_at (done ++ k ∷ rest) (length done) ≡ k
at_seam done k rest = get_or-append_seam done k rest no_known

put_seam : (done : List Known) (k l : Known) (rest : List Known) → set (done ++ k ∷ rest) (length done) l ≡ done ++ l ∷ rest
put_seam done k l rest = set_at done k rest l (length done) refl

pending_append : (xs ys : List Known) → pending_count (xs ++ ys) ≡ pending_count xs + pending_count ys
unfolding pending_count
pending_append [] ys = omega arith
pending_append (x ∷ xs) ys = by x.found (pending_append xs ys)
  where
    by : (o : Option Found) → pending_count (xs ++ ys) ≡ pending_count xs + pending_count ys
        → elim o [ None ↦ suc (pending_count (xs ++ ys)) | Some f ↦ pending_count (xs ++ ys) ]
        ≡ (elim o [ None ↦ suc (pending_count xs) | Some f ↦ pending_count xs ]) + pending_count ys
    by None e = omega (arith, e)
    by (Some f) e = e

pending_one : (k : Known) (rest : List Known) → k.found ≡ None → pending_count (k ∷ rest) ≡ suc (pending_count rest)
unfolding pending_count
pending_one k rest e = ap (λ (o : Option Found). elim o [ None ↦ suc (pending_count rest) | Some f ↦ pending_count rest ]) e

-- ---- the table with one equate more found

each_put : {A : Type 0} (P : A → Type 0) (done : List A) (k l : A) (rest : List A) → Each P (done ++ k ∷ rest) → P l → Each P (done ++ l ∷ rest)
each_put P [] k l rest g p = (p, g.1)
each_put P (x ∷ done) k l rest g p = (g.0, each_put P done k l rest g.1 p)

map-put : {A B : Type 0} (f : A → B) (done : List A) (k l : A) (rest : List A) → f l ≡ f k → map f (done ++ l ∷ rest) ≡ map f (done ++ k ∷ rest)
map-put f [] k l rest e = ap (λ x. x ∷ map f rest) e
map-put f (x ∷ done) k l rest e = ap (λ xs. f x ∷ xs) (map-put f done k l rest e)

length_seam : {A : Type 0} (done : List A) (k l : A) (rest : List A) → length (done ++ l ∷ rest) ≡ length (done ++ k ∷ rest)
length_seam done k l rest = length-append done (l ∷ rest) ∙ sym (length-append done (k ∷ rest))

table_found : (t b b' ix : List ℕ) (count : ℕ) (done : List Known) (k : Known) (rest : List Known) (f : Found)
    → EquateTable t b ix count (done ++ k ∷ rest) → FoundFits f → length b' ≡ length b
    → b' ≡ put (length done * equate_size) (field_bytes (known_fields (record { equate = k.equate; found = Some f }))) b
    → EquateTable t b' ix count (done ++ record { equate = k.equate; found = Some f } ∷ rest)
table_found t b b' ix count done k rest f s fits sized e =
    let now : Known = record { equate = k.equate; found = Some f } in
    let ks : List Known = done ++ k ∷ rest in
    let within : length done < length ks = omega (arith, length-append done (k ∷ rest)) in
    let fit : KnownFits t k = rw (at_seam done k rest) at (each_at (KnownFits t) ks no_known (length done) s.rows.fits within) in
    record {
      rows = record {
        text = s.rows.text;
        counted = s.rows.counted ∙ sym (length_seam done k now rest);
        few = rw (length_seam done k now rest) s.rows.few;
        fits = each_put (KnownFits t) done k now rest s.rows.fits (record { equate = fit.equate; found = fits });
        records = rw (← put_seam done k now rest) (table_set known_fields equate_size known_sized b b' ks s.rows.records (length done) now within sized e);
      };
      indexed = rw (map-put known_name done k now rest refl) s.indexed;
    }

-- ---- the code's two loops

-- the rows of partial sums
module _ (w : List ℕ) (k : ℕ) (p : Partial) where
  length_partial : length (put_partial w k p) ≡ length w
  length_partial = length-set (set w (k * 2) (bits 64 p.sum)) (k * 2 + 1) p.at ∙ length-set w (k * 2) (bits 64 p.sum)

  pub partial_same : k * 2 + 2 ≤ length w → in64 p.sum ≡ true → partial_at (put_partial w k p) k ≡ p
  partial_same h e =
      let first = set w (k * 2) (bits 64 p.sum) in
      let sum : signed_of 64 (get_or (put_partial w k p) (k * 2) 0) ≡ p.sum =
      ap (signed_of 64) (get_or-set_other first (k * 2 + 1) (k * 2) p.at 0 (λ z. omega (arith, z)) ∙ get_or-set_same w (k * 2) (bits 64 p.sum) 0 (omega arith))
      ∙ signed_back p.sum e in
      let at : get_or (put_partial w k p) (k * 2 + 1) 0 ≡ p.at =
      get_or-set_same first (k * 2 + 1) p.at 0 (omega (arith, length-set w (k * 2) (bits 64 p.sum))) in
      ap₂ (λ (a : ℤ) (b : ℕ). record { sum = a; at = b }) sum at

  pub partial_other : (i : ℕ) → (i ≡ k → ⊥) → partial_at (put_partial w k p) i ≡ partial_at w i
  partial_other i n =
      let first = set w (k * 2) (bits 64 p.sum) in
      let same : (j : ℕ) → (j ≡ k * 2 → ⊥) → (j ≡ k * 2 + 1 → ⊥) → get_or (put_partial w k p) j 0 ≡ get_or w j 0 =
      λ j a b. get_or-set_other first (k * 2 + 1) j p.at 0 b ∙ get_or-set_other w (k * 2) j (bits 64 p.sum) 0 a in
      ap₂ (λ (a b : ℕ). record { sum = signed_of 64 a; at = b }) (same (i * 2) (λ z. n (omega (arith, z))) (λ z. omega (arith, z)))
      (same (i * 2 + 1) (λ z. omega (arith, z)) (λ z. n (omega (arith, z))))

-- an equate that is pending has waited, and its row says how far its sum has come
abbrev Waited : ℕ → State → List Known → List ℕ → ℕ → Type 0
Waited base σ ks w i = (known_at ks i).found ≡ None → Blocked (record { base = base; state = σ; known = ks }) (known_at ks i).equate (partial_at w i)

-- after a round that began with so many pending
abbrev next_round : ℕ → State → (fuel round before : ℕ) → Turns → Result Turns Refusal
next_round base σ fuel round before x =
    elim (eqb (pending_count x.known) before) [
      | true ↦ Err (unresolved x.known)
      | false ↦ rounds base σ fuel (suc round) x.known x.evaluations
    ]

-- what stays the same: the base, what the lines gave, the text, the index, and how long the buffers are
pub record Frame : Type 0 where
  pub base : ℕ
  pub state : State
  pub text : List ℕ
  pub index : List ℕ
  pub count : ℕ
  pub bytes : ℕ
  pub places : ℕ

-- within a round: the equates ks, of which `done` have had their turn
pub record RoundWalk (f : Frame) (round before : ℕ) (ks done todo : List Known) (e w : List ℕ) (evaluations pending : ℕ) : Type 0 where
  pub split : ks ≡ done ++ todo
  pub table : EquateTable f.text e f.index f.count ks
  pub equates : map (λ k. k.equate) ks ≡ f.state.rest.equates
  pub pends : pending ≡ pending_count ks
  pub fell : pending ≤ before
  pub first : 1 ≤ round
  pub early : round + before ≤ suc f.count
  pub counted : evaluations + equate_limit ≤ round * equate_limit + length done
  pub fuel : ℕ
  pub enough : before ≤ fuel
  pub goes : and_then (pass f.base f.state round done todo evaluations) (next_round f.base f.state fuel round before)
      ≡ resolve f.base f.state f.state.rest.equates
  pub kept : length e ≡ f.bytes
  pub room : length w ≡ f.places
  pub roomy : f.count * 2 ≤ f.places
  pub waited : (i : ℕ) → i < length done → Waited f.base f.state ks w i
  pub later : (round ≡ 1 → ⊥) → (i : ℕ) → i < f.count → Waited f.base f.state ks w i

pub record Walking (f : Frame) (round before : ℕ) (e w : List ℕ) (evaluations pending k : ℕ) : Type 0 where
  pub all : List Known
  pub done : List Known
  pub todo : List Known
  pub place : k ≡ length done
  pub walk : RoundWalk f round before all done todo e w evaluations pending

-- before a round, the first or another: so many are finished
pub record Rounding (f : Frame) (e w : List ℕ) (evaluations pending round : ℕ) : Type 0 where
  pub known : List Known
  pub fuel : ℕ
  pub table : EquateTable f.text e f.index f.count known
  pub equates : map (λ k. k.equate) known ≡ f.state.rest.equates
  pub pends : pending ≡ pending_count known
  pub early : round + pending ≤ f.count
  pub counted : evaluations ≤ round * equate_limit
  pub enough : pending < fuel
  pub goes : rounds f.base f.state fuel (suc round) known evaluations ≡ resolve f.base f.state f.state.rest.equates
  pub kept : length e ≡ f.bytes
  pub room : length w ≡ f.places
  pub roomy : f.count * 2 ≤ f.places
  pub waited : (round ≡ 0 → ⊥) → (i : ℕ) → i < f.count → Waited f.base f.state known w i

module _ (f : Frame) (round before : ℕ) (ks done : List Known) (k : Known) (rest : List Known) (e w : List ℕ) (evaluations pending : ℕ)
    (m : RoundWalk f round before ks done (k ∷ rest) e w evaluations pending) where
  more_size : length (done ++ k ∷ []) ≡ suc (length done)
  more_size = length-append done (k ∷ []) ∙ add-one (length done)

  size : length ks ≡ length done + suc (length rest)
  size = ap length m.split ∙ length-append done (k ∷ rest)

  known_here : known_at ks (length done) ≡ k
  known_here = ap (λ (l : List Known). known_at l (length done)) m.split ∙ at_seam done k rest

  -- it is found already: it has no turn
  pub walk_kept : (g : Found) → k.found ≡ Some g → RoundWalk f round before ks (done ++ k ∷ []) rest e w evaluations pending
  walk_kept g q = record {
    split = m.split ∙ sym (seam done k rest);
    table = m.table;
    equates = m.equates;
    pends = m.pends;
    fell = m.fell;
    first = m.first;
    early = m.early;
    counted = omega (arith, m.counted, more_size);
    fuel = m.fuel;
    enough = m.enough;
    goes = ap (λ (x : Result Turns Refusal). and_then x (next_round f.base f.state m.fuel round before)) (sym (pass_kept f.base f.state round done k rest evaluations g q)) ∙ m.goes;
    kept = m.kept;
    room = m.room;
    roomy = m.roomy;
    waited = λ i h. by_equal i (length done)
        (λ z p. absurd (none-some (sym p ∙ ap (λ (j : ℕ). (known_at ks j).found) z ∙ ap (λ (l : Known). l.found) known_here ∙ q)))
        (λ n. m.waited i (omega (arith, more_size, h, n)));
    later = m.later;
  }

  module _ (p : k.found ≡ None) where
    turn-here : (v : Evaluated) → v ≡ turn f.base f.state ks k.equate → turn f.base f.state (done ++ k ∷ rest) k.equate ≡ v
    turn-here v q = ap (λ (l : List Known). turn f.base f.state l k.equate) (sym m.split) ∙ sym q

    -- it waits
    pub walk_waits : Ok None ≡ turn f.base f.state ks k.equate → (s : Partial) → in64 s.sum ≡ true
        → Blocked (record { base = f.base; state = f.state; known = ks }) k.equate s → (w' : List ℕ) → w' ≡ put_partial w (length done) s
        → RoundWalk f round before ks (done ++ k ∷ []) rest e w' (suc evaluations) pending
    walk_waits q s small b w' u = record {
      split = m.split ∙ sym (seam done k rest);
      table = m.table;
      equates = m.equates;
      pends = m.pends;
      fell = m.fell;
      first = m.first;
      early = m.early;
      counted = omega (arith, m.counted, more_size);
      fuel = m.fuel;
      enough = m.enough;
      goes = ap (λ (x : Result Turns Refusal). and_then x (next_round f.base f.state m.fuel round before)) (sym (pass_waits f.base f.state round done k rest evaluations p (turn-here _ q))) ∙ m.goes;
      kept = m.kept;
      room = ap length u ∙ length_partial w (length done) s ∙ m.room;
      roomy = m.roomy;
      waited = λ i h. waits_at i (λ n. m.waited i (omega (arith, more_size, h, n)));
      later = λ r i h. waits_at i (λ n. m.later r i h);
    }
      where
        within : length done * 2 + 2 ≤ length w
        within = omega (arith, m.room, m.roomy, m.table.rows.counted, size)

        here_waits : (i : ℕ) → i ≡ length done → Waited f.base f.state ks w' i
        here_waits i z none_yet =
            subst (λ (a : Partial). Blocked (record { base = f.base; state = f.state; known = ks }) (known_at ks i).equate a)
            (sym (ap (λ (l : List ℕ). partial_at l i) u ∙ ap (λ (j : ℕ). partial_at (put_partial w (length done) s) j) z ∙ partial_same w (length done) s within small))
            (subst (λ (l : Known). Blocked (record { base = f.base; state = f.state; known = ks }) l.equate s)
            (sym (ap (known_at ks) z ∙ known_here)) b)

        other_waits : (i : ℕ) → (i ≡ length done → ⊥) → Waited f.base f.state ks w i → Waited f.base f.state ks w' i
        other_waits i n b none_yet =
            subst (λ (a : Partial). Blocked (record { base = f.base; state = f.state; known = ks }) (known_at ks i).equate a)
            (sym (ap (λ (l : List ℕ). partial_at l i) u ∙ partial_other w (length done) s i n)) (b none_yet)

        waits_at : (i : ℕ) → ((i ≡ length done → ⊥) → Waited f.base f.state ks w i) → Waited f.base f.state ks w' i
        waits_at i b = by_equal i (length done) (here_waits i) (λ n. other_waits i n (b n))

    -- it is refused: so are the rounds
    pub walk_refused : (n : ℕ) → Err n ≡ turn f.base f.state ks k.equate
        → resolve f.base f.state f.state.rest.equates ≡ Err (record { number = n; line = k.equate.line })
    walk_refused n q =
        sym m.goes
        ∙ ap (λ (x : Result Turns Refusal). and_then x (next_round f.base f.state m.fuel round before)) (pass-refused f.base f.state round done k rest evaluations p n (turn-here _ q))

    -- it is found
    module _ (z : ℤ) (q : Ok (Some z) ≡ turn f.base f.state ks k.equate) (small : in64 z ≡ true) (round-fits : round ≤ equate_limit) where
      abbrev found : Known
      found = record { equate = k.equate; found = Some (record { value = z; round = round }) }

      abbrev then : List Known
      then = done ++ found ∷ rest

      extends : Extends (look f.base f.state ks) (look f.base f.state then)
      extends =
          subst (λ (l : List Known). Extends (look f.base f.state l) (look f.base f.state then)) (sym m.split)
          (found_extends f.base f.state done k rest (record { value = z; round = round }) p
          (tried f.base f.state (done ++ k ∷ rest) k.equate (Some z) (turn-here _ q)).free)

      pub fewer : pending ≡ suc (pending_count then)
      unfolding pending_count
      fewer =
          m.pends ∙ ap pending_count m.split ∙ pending_append done (k ∷ rest) ∙ ap (λ (j : ℕ). pending_count done + j) (pending_one k rest p)
          ∙ omega (arith, pending_append done (found ∷ rest))

      pub walk_found : (e' : List ℕ) → length e' ≡ length e → e' ≡ put (length done * equate_size) (field_bytes (known_fields found)) e
          → (pending' : ℕ) → suc pending' ≡ pending → RoundWalk f round before then (done ++ found ∷ []) rest e' w (suc evaluations) pending'
      walk_found e' l u pending' less = record {
        split = sym (seam done found rest);
        table = table_found f.text e e' f.index f.count done k rest (record { value = z; round = round }) (rw m.split at m.table)
            (record { from = m.first; to = round-fits; value = small }) l u;
        equates = map-put (λ x. x.equate) done k found rest refl ∙ ap (map (λ x. x.equate)) (sym m.split) ∙ m.equates;
        pends = omega (arith, fewer, less);
        fell = omega (arith, m.fell, less);
        first = m.first;
        early = m.early;
        counted = omega (arith, m.counted, length-append done (found ∷ []));
        fuel = m.fuel;
        enough = m.enough;
        goes = ap (λ (x : Result Turns Refusal). and_then x (next_round f.base f.state m.fuel round before)) (sym (pass_found f.base f.state round done k rest evaluations p z (turn-here _ q))) ∙ m.goes;
        kept = l ∙ m.kept;
        room = m.room;
        roomy = m.roomy;
        waited = λ i h. on i (λ n. m.waited i (omega (arith, length-append done (found ∷ []), h, n)));
        later = λ r i h. on i (λ n. m.later r i h);
      }
        where
          same_there : (i : ℕ) → (i ≡ length done → ⊥) → known_at then i ≡ known_at ks i
          same_there i n =
              ap (λ (x : List Known). known_at x i) (sym (put_seam done k found rest))
              ∙ get_or-set_other (done ++ k ∷ rest) (length done) i found no_known n
              ∙ ap (λ (x : List Known). known_at x i) (sym m.split)

          on : (i : ℕ) → ((i ≡ length done → ⊥) → Waited f.base f.state ks w i) → Waited f.base f.state then w i
          on i b = by_equal i (length done)
              (λ y none_yet. absurd (none-some (sym none_yet ∙ ap (λ (j : ℕ). (known_at then j).found) y ∙ ap (λ (x : Known). x.found) (at_seam done found rest))))
              (λ n none_yet.
              subst (λ (x : Known). Blocked (record { base = f.base; state = f.state; known = then }) x.equate (partial_at w i)) (sym (same_there i n))
              (blocked_later f.base f.state ks then extends (known_at ks i).equate (partial_at w i)
              (b n (ap (λ (x : Known). x.found) (sym (same_there i n)) ∙ none_yet))))

-- ---- from the loops' places

-- the equate whose turn it is
pub record Here (f : Frame) (round before : ℕ) (e w : List ℕ) (evaluations pending k : ℕ) : Type 0 where
  pub all : List Known
  pub done : List Known
  pub one : Known
  pub rest : List Known
  pub place : k ≡ length done
  pub is : known_at all k ≡ one
  pub within : k < length all
  pub walk : RoundWalk f round before all done (one ∷ rest) e w evaluations pending

pub walk_here : (f : Frame) (round before : ℕ) (e w : List ℕ) (evaluations pending k : ℕ) → Walking f round before e w evaluations pending k
    → k < f.count → Here f round before e w evaluations pending k
walk_here f round before e w evaluations pending k m h = by m.todo m.walk
  where
    by : (todo : List Known) → RoundWalk f round before m.all m.done todo e w evaluations pending → Here f round before e w evaluations pending k
    by [] v = absurd (omega (arith, v.table.rows.counted, ap length v.split, length-append m.done [], m.place, h))
    by (x ∷ rest) v =
        record {
          all = m.all;
          done = m.done;
          one = x;
          rest = rest;
          place = m.place;
          is = ap (known_at m.all) m.place ∙ known_here f round before m.all m.done x rest e w evaluations pending v;
          within = omega (arith, v.table.rows.counted, h);
          walk = v;
        }

module _ (f : Frame) (round before : ℕ) (e w : List ℕ) (evaluations pending k : ℕ) (m : Here f round before e w evaluations pending k) where
  more : (x : Known) → k + 1 ≡ length (m.done ++ x ∷ [])
  more x = omega (arith, m.place, length-append m.done (x ∷ []))

  pub next_kept : (g : Found) → m.one.found ≡ Some g → Walking f round before e w evaluations pending (k + 1)
  next_kept g q =
      record {
        all = m.all;
        done = m.done ++ m.one ∷ [];
        todo = m.rest;
        place = more m.one;
        walk = walk_kept f round before m.all m.done m.one m.rest e w evaluations pending m.walk g q;
      }

  pub next_waits : m.one.found ≡ None → Ok None ≡ turn f.base f.state m.all m.one.equate → (s : Partial) → in64 s.sum ≡ true
      → Blocked (record { base = f.base; state = f.state; known = m.all }) m.one.equate s → (w' : List ℕ) → w' ≡ put_partial w k s
      → Walking f round before e w' (evaluations + 1) pending (k + 1)
  next_waits p q s small b w' u =
      record {
        all = m.all;
        done = m.done ++ m.one ∷ [];
        todo = m.rest;
        place = more m.one;
        walk = subst (λ (n : ℕ). RoundWalk f round before m.all (m.done ++ m.one ∷ []) m.rest e w' n pending) (sym (add-one evaluations))
            (walk_waits f round before m.all m.done m.one m.rest e w evaluations pending m.walk p q s small b w' (u ∙ ap (λ (j : ℕ). put_partial w j s) m.place));
      }

  -- one is pending at least
  pub some_pending : m.one.found ≡ None → 1 ≤ pending
  some_pending p =
      omega (arith, m.walk.pends, ap pending_count m.walk.split, pending_append m.done (m.one ∷ m.rest), pending_one m.one m.rest p)

  -- so there is a round for each equate at the most
  pub few_rounds : m.one.found ≡ None → round ≤ equate_limit
  few_rounds p = omega (arith, some_pending p, m.walk.fell, m.walk.early, m.walk.table.rows.counted, m.walk.table.rows.few)

  pub few_evaluations : m.one.found ≡ None → evaluations < 2 ^ 64 - 1
  few_evaluations p =
      omega (arith, few_rounds p, m.walk.counted, m.within, m.place, m.walk.table.rows.few)

  pub next_found : m.one.found ≡ None → (z : ℤ) → Ok (Some z) ≡ turn f.base f.state m.all m.one.equate → (e' : List ℕ) → length e' ≡ length e
      → e' ≡ put (k * equate_size) (field_bytes (known_fields (record { equate = m.one.equate; found = Some (record { value = z; round = round }) }))) e
      → (pending' : ℕ) → suc pending' ≡ pending → Walking f round before e' w (evaluations + 1) pending' (k + 1)
  next_found p z q e' l u pending' less =
      let small : in64 z ≡ true = subst ValueFits (sym q) (turn_fits f.base f.state m.all m.one.equate) in
      let fits : round ≤ equate_limit = few_rounds p in
      let found : Known = record { equate = m.one.equate; found = Some (record { value = z; round = round }) } in
      record {
        all = m.done ++ found ∷ m.rest;
        done = m.done ++ found ∷ [];
        todo = m.rest;
        place = more found;
        walk = subst (λ (n : ℕ). RoundWalk f round before (m.done ++ found ∷ m.rest) (m.done ++ found ∷ []) m.rest e' w n pending') (sym (add-one evaluations))
            (walk_found f round before m.all m.done m.one m.rest e w evaluations pending m.walk p z q small fits e' l
            (u ∙ ap (λ (j : ℕ). put (j * equate_size) (field_bytes (known_fields found)) e) m.place) pending' less);
      }

  pub next_refused : m.one.found ≡ None → (n : ℕ) → Err n ≡ turn f.base f.state m.all m.one.equate
      → resolve f.base f.state f.state.rest.equates ≡ Err (record { number = n; line = m.one.equate.line })
  next_refused p n q = walk_refused f round before m.all m.done m.one m.rest e w evaluations pending m.walk p n q

-- a round where some are pending, and what comes after it
rounds_more : (base : ℕ) (σ : State) (fuel r : ℕ) (ks : List Known) (n : ℕ) → (pending_count ks ≡ 0 → ⊥)
    → rounds base σ (suc fuel) r ks n ≡ and_then (pass base σ r [] ks n) (next_round base σ fuel r (pending_count ks))
unfolding rounds
rounds_more base σ fuel r ks n h = rw (rounds, ne_eqb (pending_count ks) 0 h) refl

module _ (f : Frame) (e w : List ℕ) (evaluations pending round : ℕ) (m : Rounding f e w evaluations pending round) where
  -- nothing is pending: the rounds are through
  pub round_done : pending ≡ 0 → resolve f.base f.state f.state.rest.equates ≡ Ok (turns m.known evaluations)
  unfolding rounds
  round_done z = by m.fuel m.enough m.goes
    where
      by : (fuel : ℕ) → pending < fuel → rounds f.base f.state fuel (suc round) m.known evaluations ≡ resolve f.base f.state f.state.rest.equates
          → resolve f.base f.state f.state.rest.equates ≡ Ok (turns m.known evaluations)
      by zero h g = absurd (omega arith)
      by (suc fuel) h g = sym g ∙ rw (rounds, eq-eqb (pending_count m.known) 0 (sym m.pends ∙ z)) refl

  -- a round begins
  pub round_begins : 0 < pending → Walking f (round + 1) pending e w evaluations pending 0
  round_begins h =
      record { all = m.known; done = []; todo = m.known; place = refl; walk = by m.fuel m.enough m.goes }
    where
      by : (fuel : ℕ) → pending < fuel → rounds f.base f.state fuel (suc round) m.known evaluations ≡ resolve f.base f.state f.state.rest.equates
          → RoundWalk f (round + 1) pending m.known [] m.known e w evaluations pending
      by zero more g = absurd (omega arith)
      by (suc fuel) more g =
          record {
            split = refl;
            table = m.table;
            equates = m.equates;
            pends = m.pends;
            fell = omega arith;
            first = omega arith;
            early = omega (arith, m.early);
            counted = omega (arith, m.counted);
            fuel = fuel;
            enough = omega arith;
            goes = subst
                (λ (r : ℕ). and_then (pass f.base f.state r [] m.known evaluations) (next_round f.base f.state fuel r pending)
                ≡ resolve f.base f.state f.state.rest.equates)
                (sym (add-one round))
                (ap (λ (b : ℕ). and_then (pass f.base f.state (suc round) [] m.known evaluations) (next_round f.base f.state fuel (suc round) b)) m.pends
                ∙ sym (rounds_more f.base f.state fuel (suc round) m.known evaluations (λ z. omega (arith, m.pends, z, h))) ∙ g);
            kept = m.kept;
            room = m.room;
            roomy = m.roomy;
            waited = λ i l. absurd (omega arith);
            later = λ r i l. m.waited (λ z. r (omega (arith, z))) i l;
          }

next_by : (base : ℕ) (σ : State) (fuel round before : ℕ) (x : Turns) (c : Bool) → eqb (pending_count x.known) before ≡ c
    → next_round base σ fuel round before x
    ≡ elim c [ true ↦ Err (unresolved x.known) | false ↦ rounds base σ fuel (suc round) x.known x.evaluations ]
next_by base σ fuel round before x c e =
    ap
    (λ (d : Bool). elim d [ true ↦ Err (unresolved x.known) | false ↦ rounds base σ fuel (suc round) x.known x.evaluations ])
    e

-- a round ends: every equate has had its turn
module _ (f : Frame) (round before : ℕ) (e w : List ℕ) (evaluations pending k : ℕ) (m : Walking f (round + 1) before e w evaluations pending k)
    (end : f.count ≤ k) where
  none_left : m.todo ≡ []
  none_left = by m.todo m.walk.split
    where
      by : (todo : List Known) → m.all ≡ m.done ++ todo → todo ≡ []
      by [] s = refl
      by (x ∷ todo) s = absurd (omega (arith, m.walk.table.rows.counted, ap length s, length-append m.done (x ∷ todo), m.place, end))

  all_done : m.done ≡ m.all
  all_done = sym (m.walk.split ∙ ap (λ (l : List Known). m.done ++ l) none_left ∙ append-nil m.done)

  after : next_round f.base f.state m.walk.fuel (round + 1) before (turns m.all evaluations) ≡ resolve f.base f.state f.state.rest.equates
  unfolding pass
  after =
      ap (λ (l : List Known). next_round f.base f.state m.walk.fuel (round + 1) before (turns l evaluations)) (sym all_done)
      ∙ sym (ap (λ (l : List Known). and_then (pass f.base f.state (round + 1) m.done l evaluations) (next_round f.base f.state m.walk.fuel (round + 1) before)) none_left)
      ∙ m.walk.goes

  -- it found nothing: 17, at the first pending line
  pub round_stuck : pending ≡ before
      → resolve f.base f.state f.state.rest.equates ≡ Err (record { number = 17; line = first_pending m.all })
  round_stuck q = sym after ∙ next_by f.base f.state m.walk.fuel (round + 1) before (turns m.all evaluations) true (eq-eqb (pending_count m.all) before (sym m.walk.pends ∙ q))

  -- it found one at least: another round
  pub round_next : (pending ≡ before → ⊥) → Rounding f e w evaluations pending (round + 1)
  round_next n =
      record {
        known = m.all;
        fuel = m.walk.fuel;
        table = m.walk.table;
        equates = m.walk.equates;
        pends = m.walk.pends;
        early = omega (arith, m.walk.early, m.walk.fell, n);
        counted = omega (arith, m.walk.counted, m.place, m.walk.table.rows.counted, m.walk.table.rows.few, ap length all_done);
        enough = omega (arith, m.walk.enough, m.walk.fell, n);
        goes = sym (next_by f.base f.state m.walk.fuel (round + 1) before (turns m.all evaluations) false (ne_eqb (pending_count m.all) before (λ z. n (m.walk.pends ∙ z)))) ∙ after;
        kept = m.walk.kept;
        room = m.walk.room;
        roomy = m.walk.roomy;
        waited = λ r i h. m.walk.waited i (omega (arith, m.walk.table.rows.counted, ap length all_done, h));
      }

-- ---- before the first round

-- the records of expressions are the equates', whatever is found of them
exprs_same : (ks ls : List Known) → map (λ k. k.equate) ks ≡ map (λ k. k.equate) ls → (n : ℕ) → table_of n known_expr ks ≡ table_of n known_expr ls
exprs_same ks ls e n = ap (λ (bs : List (List ℕ)). padded n (together bs)) (by_equates ks ∙ ap (map (λ x. field_bytes (expr_so_far x))) e ∙ sym (by_equates ls))
  where
    by_equates : (ms : List Known) → map (λ k. field_bytes (known_expr k)) ms ≡ map (λ x. field_bytes (expr_so_far x)) (map (λ k. k.equate) ms)
    by_equates [] = refl
    by_equates (k ∷ ms) = ap (λ (bs : List (List ℕ)). field_bytes (known_expr k) ∷ bs) (by_equates ms)

-- the frame of what the rounds are lent
abbrev pub frame_of : List ℕ → List ℕ → ℕ → ℕ → State → ℕ → ℕ → Frame
frame_of t x m base σ bytes places = record { base = base; state = σ; text = t; index = x; count = m; bytes = bytes; places = places }

-- what no round changes: the labels, the sections' starts, and the expressions
pub record Standing (f : Frame) (l n : List ℕ) (c : ℕ) (starts : Starts) (exprs : List ℕ) : Type 0 where
  pub labels : LabelsPlaced f.text f.base f.state c (label_store l n)
  pub starting : StartsAt starts f.base f.state
  pub records : exprs ≡ table_of (length exprs) known_expr (map pending_equate f.state.rest.equates)

module _ {t l n : List ℕ} {c : ℕ} {starts : Starts} {e x : List ℕ} {m : ℕ} {exprs w : List ℕ} {base : ℕ} {σ : State}
    (s : RoundsStand t l n c starts e x m exprs w base σ) where
  pub standing : Standing (frame_of t x m base σ (length e) (length w)) l n c starts exprs
  standing = record { labels = s.stand.names.labels; starting = s.stand.starting; records = s.stand.records }

  pub round_first : Rounding (frame_of t x m base σ (length e) (length w)) e w 0 m 0
  round_first =
      let es = σ.rest.equates in
      let all = pending_all es in
      let size : m ≡ length es = s.stand.names.equates.rows.counted ∙ length-map es pending_equate in
      record {
        known = map pending_equate es;
        fuel = suc (length es);
        table = s.stand.names.equates;
        equates = equates_all es;
        pends = size ∙ sym all;
        early = omega arith;
        counted = omega arith;
        enough = omega (arith, size);
        goes = refl;
        kept = refl;
        room = refl;
        roomy = s.room;
        waited = λ r i h. absurd (r refl);
      }

-- what a turn asks, of the equates as they are
module _ (f : Frame) {l n : List ℕ} {c : ℕ} {starts : Starts} {exprs : List ℕ} (s : Standing f l n c starts exprs)
    (round before : ℕ) (e w : List ℕ) (evaluations pending k : ℕ) (m : Here f round before e w evaluations pending k) where
  abbrev pub scope_here : Scope
  scope_here = record { base = f.base; state = f.state; known = m.all }

  stand_here : TurnStand f.text l n c starts f.text e f.index f.count exprs scope_here
  stand_here =
      record {
        names = record { labels = s.labels; equates = m.walk.table };
        starting = s.starting;
        records = s.records
            ∙ exprs_same (map pending_equate f.state.rest.equates) m.all (equates_all f.state.rest.equates ∙ sym m.walk.equates) (length exprs);
      }

  pub again_here : (p : Partial) → p ≡ partial_at w k → k < f.count → m.one.found ≡ None
      → TurnAgain f.text l n c starts f.text e f.index f.count exprs round k p scope_here
  again_here p q h pending =
      record {
        stand = stand_here;
        waited = λ r. subst (λ (a : Partial). Blocked scope_here (equate_in scope_here k) a) (sym q) (m.walk.later r k h (ap (λ (x : Known). x.found) m.is ∙ pending));
      }

  -- what the turn gave, said of the equate whose turn it is
  pub gave_here : (r : Result answer.Evaluated ℕ) → TurnGives scope_here (equate_in scope_here k) r → TurnGives scope_here m.one.equate r
  gave_here r g = subst (λ (x : Known). TurnGives scope_here x.equate r) m.is g

  -- pending or found, by the record's round
  pub pending_here : (equate_record_at e k).round ≡ 0 → m.one.found ≡ None
  pending_here z = ap (λ (x : Known). x.found) (sym m.is) ∙ pending_at m.walk.table.rows k m.within z

  pub found_here : ((equate_record_at e k).round ≡ 0 → ⊥) → (g : Found) × (m.one.found ≡ Some g)
  found_here z =
      let o = found_at m.walk.table.rows k m.within z in
      (o.0, ap (λ (x : Known). x.found) (sym m.is) ∙ o.1)

  pub line_here : (equate_record_at e k).line ≡ m.one.equate.line
  line_here = line_back m.walk.table.rows k m.within ∙ ap (λ (x : Known). x.equate.line) m.is

  -- the record that a found equate gets
  pub record_here : (z : ℤ) → equate_fields (record { start = (equate_record_at e k).start; len = (equate_record_at e k).len; line = (equate_record_at e k).line; value = z; round = round })
      ≡ known_fields (record { equate = m.one.equate; found = Some (record { value = z; round = round }) })
  record_here z =
      let start : (equate_record_at e k).start ≡ m.one.equate.name.at = name-start m.walk.table.rows k m.within ∙ ap (λ (x : Known). x.equate.name.at) m.is in
      let len : (equate_record_at e k).len ≡ length m.one.equate.name.bytes =
      name_len m.walk.table.rows k m.within ∙ ap (λ (x : Known). length x.equate.name.bytes) m.is in
      rw (start, len, line_here) refl
