-- An equate's turn in code: its expression read back from its record, and what its evaluation says of the turn.
use Rattle.std.proofs.Common.{Result}
use Rattle.std.proofs.Common.{Ok, Err}
use Prim.Native.Nat.{ℕ, ◌+◌, ◌*◌, ◌^◌, ◌≤◌, ◌<◌}
use native.Mathlib.Omega.{arith}
use mathlib.Core.Path.{◌≡◌, refl, sym, ap, subst, ◌∙◌}
use mathlib.Core.List.{List}
use mathlib.Core.Bool.{Bool, true, false}
use Rattle.std.proofs.Common.{Option}
use lib.Dec.{eqb}
use lib.IntN.{ℤ, pos}
use lib.ListN.{length}
use Rattle.numbers.specs.Code.Spans.{spanned}
use Rattle.layout.specs.declared.addresses.Starts.{Starts}
use Rattle.layout.specs.declared.expr.Expression.{Expression}
use Rattle.layout.specs.declared.expr.Partial.{Partial}
use Rattle.layout.specs.declared.expr.Evaluated as answer
use Rattle.layout.specs.declared.expr.Evaluated.TheVariants.{Value, Waits}
use Rattle.layout.specs.declared.state.Section.{Section}
use Rattle.layout.specs.declared.state.Section.TheVariants as section
use Rattle.layout.specs.Bytes.{little_endian}
use Rattle.layout.specs.State.{Equate}
use Rattle.layout.specs.Stage.{is_label}
use Rattle.layout.specs.Records.{field_bytes, four_at}
use Rattle.layout.specs.Addresses.{address_at}
use Rattle.layout.specs.Expressions.{Evaluated}
use Rattle.layout.specs.Rounds.{Known, constant, look, is_some}
use Rattle.layout.specs.Code.Places.{section_limit, section_code, place_code}
use Rattle.layout.specs.Code.Fits.{EquateFits}
use Rattle.layout.specs.Code.Tables.{expr_size, flag_of, expr_record_at, equate_name_at}
use Rattle.layout.specs.Code.Placed.{PlaceCoded}
use Rattle.layout.specs.Code.Names.{Scope, look_in}
use Rattle.layout.specs.Code.Terms.{sum_on, evaluation_of, Evaluates, EvaluatesAs}
use Rattle.layout.specs.Code.Resolves.{known_expr, TurnStand, no_known, equate_in, Blocked, BlockedBy, ExpressionOf, TurnGives}
use Rattle.layout.proofs.TableLaws.{read-row, table_lent}
use Rattle.layout.proofs.KnownLaws.{fits_at, name_back}
use Rattle.layout.proofs.TermLaws.{extends_self}
use Rattle.layout.proofs.ResolveLaws.{own_address_of}
use Rattle.layout.proofs.RoundSteps.{turn-label, turn_known, turn_evaluates}

-- ---- the expression's record

expr_sized : (k : Known) → length (field_bytes (known_expr k)) ≡ expr_size
unfolding field_bytes little_endian
expr_sized k = refl

flag_back : (b : Bool) → eqb (flag_of b) 1 ≡ b
flag_back true = refl
flag_back false = refl

flag_small : (b : Bool) → flag_of b ≤ 1
flag_small true = omega arith
flag_small false = omega arith

code_small : (q : Section) (o : ℕ) → o ≤ section_limit q → section_code q + o < 2 ^ 32
code_small section.Text o h = omega arith
code_small section.Data o h = omega arith
code_small section.Bss o h = omega arith

-- what is summed or evaluated of an equate's expression
abbrev EvaluatesOne : Scope → Equate → (Bool → List ℕ → ℤ → (List ℕ → Option ℤ) → Evaluated) → Result answer.Evaluated ℕ → Type 0
EvaluatesOne s e f r =
    Evaluates (look_in s) e.expr.one_space e.expr.source.bytes (own_address_of s.base s.state e) (f e.expr.one_space e.expr.source.bytes (own_address_of s.base s.state e)) r

module _ {t l n : List ℕ} {c : ℕ} {starts : Starts} {u e x : List ℕ} {m : ℕ} {exprs : List ℕ} {s : Scope}
    (d : TurnStand t l n c starts u e x m exprs s) (k : ℕ) (below : k < m) where
  within : k < length s.known
  within = omega (arith, d.names.equates.rows.counted)

  abbrev one : Equate
  one = equate_in s k

  fits : EquateFits u one
  fits = (fits_at d.names.equates.rows k within).equate

  short : length u ≤ 65536
  short = d.names.equates.rows.text

  pub expr_lent : k * expr_size + expr_size ≤ length exprs
  expr_lent = omega (arith, table_lent known_expr expr_size expr_sized exprs s.known d.records, within)

  row : ((expr_record_at exprs k).start ≡ one.expr.source.at) × ((expr_record_at exprs k).len ≡ length one.expr.source.bytes)
      × (four_at exprs (k * expr_size + 8) ≡ flag_of one.expr.one_space) × ((expr_record_at exprs k).place ≡ place_code one.place)
  row =
      read-row known_expr expr_size expr_sized exprs s.known no_known k _ _ _ _ d.records within refl
      (omega (arith, fits.source.within, short)) (omega (arith, fits.source.within, short)) (omega (arith, flag_small one.expr.one_space))
      (code_small one.place.section one.place.offset fits.place)

  pub expr_bytes : spanned u (record { start = (expr_record_at exprs k).start; len = (expr_record_at exprs k).len }) ≡ one.expr.source.bytes
  unfolding spanned
  expr_bytes = rw (row.0, row.1) fits.source.is

  pub expr_flag : (expr_record_at exprs k).one_space ≡ one.expr.one_space
  expr_flag = ap (λ (v : ℕ). eqb v 1) row.2 ∙ flag_back one.expr.one_space

  -- the equate's place, by the code in its record
  pub expr_coded : (code : ℕ) → code ≡ (expr_record_at exprs k).place → PlaceCoded starts code
  expr_coded code q =
      record { base = s.base; state = s.state; place = one.place; starts = d.starting; fits = fits.place; is = q ∙ row.3 }

  pub expr_address : (code : ℕ) → code ≡ (expr_record_at exprs k).place → (here : ℕ) → ((p : PlaceCoded starts code) → here ≡ address_at p.base p.state p.place)
      → here ≡ address_at s.base s.state one.place
  unfolding expr_coded
  expr_address code q here a = a (expr_coded code q)

  -- what the tests by the name that was read say of the equate's own
  module _ (name : List ℕ) (q : name ≡ equate_name_at u e k) (r b : Bool) where
    own_name : name ≡ one.name.bytes
    own_name = q ∙ name_back d.names.equates.rows k within

    pub label_told : r ≡ is_label name s.state.labels → r ≡ b → is_label one.name.bytes s.state.labels ≡ b
    label_told h g = ap (λ (x : List ℕ). is_label x s.state.labels) (sym own_name) ∙ sym h ∙ g

    pub value_told : r ≡ is_some (constant s.known name) → r ≡ b → is_some (constant s.known one.name.bytes) ≡ b
    value_told h g = ap (λ (x : List ℕ). is_some (constant s.known x)) (sym own_name) ∙ sym h ∙ g

-- what the evaluation of the expression that was read says of the equate's own
pub evaluated_told : {s : Scope} {e : Equate} {x : Expression} → ExpressionOf s e x → (f : Bool → List ℕ → ℤ → (List ℕ → Option ℤ) → Evaluated) (r : Result answer.Evaluated ℕ)
    → EvaluatesAs (look_in s) x (f x.one_space x.source.now (pos x.here)) r → EvaluatesOne s e f r
evaluated_told {s = s} {e = e} {x = x} q f r v =
    subst (λ (y : List ℕ). Evaluates (look_in s) e.expr.one_space y (own_address_of s.base s.state e) (f e.expr.one_space y (own_address_of s.base s.state e)) r) q.source
    (subst (λ (o : Bool). Evaluates (look_in s) o x.source.now (own_address_of s.base s.state e) (f o x.source.now (own_address_of s.base s.state e)) r) q.one_space
    (subst (λ (a : ℕ). Evaluates (look_in s) x.one_space x.source.now (pos a) (f x.one_space x.source.now (pos a)) r) q.here v))

-- ---- the turn

module _ (s : Scope) (e : Equate) where
  pub gives_label : is_label e.name.bytes s.state.labels ≡ true → TurnGives s e (Err 14)
  gives_label h = record { answers = turn-label s.base s.state s.known e h; blocked = tt }

  module _ (free : is_label e.name.bytes s.state.labels ≡ false) where
    pub gives_known : is_some (constant s.known e.name.bytes) ≡ true → TurnGives s e (Err 15)
    gives_known h = record { answers = turn_known s.base s.state s.known e free h; blocked = tt }

    pub gives_evaluated : is_some (constant s.known e.name.bytes) ≡ false → (r : Result answer.Evaluated ℕ) → EvaluatesOne s e evaluation_of r → TurnGives s e r
    unfolding look_in
    gives_evaluated h r v = record { answers = v.answers ∙ turn_evaluates s.base s.state s.known e free h; blocked = by r v }
      where
        by : (q : Result answer.Evaluated ℕ) → EvaluatesOne s e evaluation_of q → BlockedBy s e q
        by (Ok (Value z)) v = tt
        by (Ok (Waits p)) v = (
          v.waiting.waits,
          record {
            no_label = free;
            goes = λ ks y c. sym (turn_evaluates s.base s.state ks e free c) ∙ v.waiting.goes (look s.base s.state ks) y;
          },
        )
        by (Err n) v = tt

  -- it has waited: its sum goes on
  module _ (p : Partial) (b : Blocked s e p) where
    pub again_summed : is_some (constant s.known e.name.bytes) ≡ false → (r : Result answer.Evaluated ℕ)
        → EvaluatesOne s e (λ one_space x here. sum_on one_space x here p) r → TurnGives s e r
    unfolding look_in
    again_summed h r v =
        record { answers = v.answers ∙ sym (b.goes s.known (extends_self (look s.base s.state s.known)) h); blocked = by r v }
      where
        by : (q : Result answer.Evaluated ℕ) → EvaluatesOne s e (λ one_space x here. sum_on one_space x here p) q → BlockedBy s e q
        by (Ok (Value z)) v = tt
        by (Ok (Waits q)) v =
            (v.waiting.waits, record { no_label = b.no_label; goes = λ ks y c. b.goes ks y c ∙ v.waiting.goes (look s.base s.state ks) y })
        by (Err n) v = tt
