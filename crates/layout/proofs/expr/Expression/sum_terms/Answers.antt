-- `Expression::sum_terms`: what is summed so far, carried on from here, is what was to be summed, whatever other names get values.
use mathlib.Core.Path.{◌≡◌, sym, subst, ◌∙◌}
use Rattle.std.proofs.Common.{Some, None, Err}
use native.Mathlib.Omega.{arith}
use lib.IntN.{ℤ, pos}
use mir.Syntax.{w64}
use mir.Val.{SFits, to_z}
use mir.Facts.{to_z-of_z}
use Rattle.layout.specs.declared.refusal.Refusal.TheVariants.{MalformedExpression, ExpressionOverflow}
use Rattle.layout.specs.Code.Tokens.{token_of}
use Rattle.layout.specs.Code.Names.{Scope, look_in, StandFor}
use Rattle.layout.specs.Code.Terms.{TermStands, JointAt, operator, term_value, sum_on, GoesOn}
use Rattle.layout.proofs.TermLaws.{sum_missing, sum_waits, sum_beyond, sum_next, sum_end, sum_malformed}
use borrow.Author.Rules.{rules}
use Rattle.layout.proofs.expr.Expression.sum_terms.Goals as goal
use Rattle.layout.proofs.expr.Expression.sum_terms.Goals.{At-loop-joining, In-Some, In_ok-own, In-Some-term_value}

-- what is summed so far
goes : (d : At-loop-joining) (names : Scope)
    → StandFor d.args.names names
    → GoesOn (look_in names) d.args.self.one_space d.args.self.source.now (pos d.args.self.here) (sum_on d.args.self.one_space d.args.self.source.now (pos d.args.self.here) d.args.from) (record { sum = to_z w64 d.loop-joining.sum-bits; at = d.loop-joining.at })
goes d names n =
    let fit : SFits w64 d.args.from.sum = search rules in
    subst
    (λ (z : ℤ). GoesOn (look_in names) d.args.self.one_space d.args.self.source.now (pos d.args.self.here) (sum_on d.args.self.one_space d.args.self.source.now (pos d.args.self.here) (record { sum = z; at = d.args.from.at })) (record { sum = to_z w64 d.loop-joining.sum-bits; at = d.loop-joining.at }))
    (to_z-of_z fit) (d.loop-joining.invariant names n)

-- what joins the term
joint : (c : In-Some) → JointAt c.args.self.one_space c.args.self.source.now c.loop-joining.at (operator c.in-Some.joining c.in-Some.k)
joint c = rw (c.in_ok-joining.was, c.in-Some.is) at c.joint_at.ensures

-- the term read
term : (c : In_ok-own) → TermStands c.args.self.one_space c.args.self.source.now c.in-Some.k c.in_ok-own.own c.in_ok-own.token c.in_ok-own.after
term c =
    let some : c.signed_term.result ≡ Some (c.in_ok-own.own, c.in_ok-own.token, c.in_ok-own.after) = grind arith in
    rw some at c.signed_term.ensures

-- its value
valued : (c : In-Some-term_value) (names : Scope)
    → StandFor c.args.names names
    → Some c.in-Some-term_value.v ≡ term_value (look_in names) (pos c.args.self.here) (token_of c.args.self.source.now c.in_ok-own.token)
valued c names n = (sym c.in-Some-term_value.is) ∙ c.term_value.ensures names n

pub returns-in_err-joining : goal.returns-in_err-joining
returns-in_err-joining c =
    let e : c.from_residual.result ≡ Err c.in_err-joining.field-0.0 = search rules in
    λ names n. rw e (sum_malformed _ _ _ _ _ _ c.loop-joining.at (goes (goal.at.returns-in_err-joining c).At-loop-joining names n) _ (rw c.in_err-joining.was at c.joint_at.ensures))

pub returns-in_err-own : goal.returns-in_err-own
returns-in_err-own c =
    let none : c.signed_term.result ≡ None = grind arith in
    let e : c.from_residual-in_err-own.result ≡ Err MalformedExpression = grind arith in
    λ names n. rw e (sum_missing _ _ _ _ _ _ c.loop-joining.at (goes (goal.at.returns-in_err-own c).At-loop-joining names n) c.in-Some.joining c.in-Some.k (joint (goal.at.returns-in_err-own c).In-Some) (rw none at c.signed_term.ensures))

pub returns-in_default-term_value : goal.returns-in_default-term_value
returns-in_default-term_value c = λ names n. sum_waits _ _ _ _ _ _ c.loop-joining.at (goes (goal.at.returns-in_default-term_value c).At-loop-joining names n) c.in-Some.joining c.in-Some.k (joint (goal.at.returns-in_default-term_value c).In-Some) _ _ _ (term (goal.at.returns-in_default-term_value c).In_ok-own) ((sym c.in_default-term_value.is) ∙ c.term_value.ensures names n)

pub returns-in_err-sum : goal.returns-in_err-sum
returns-in_err-sum c =
    let fit : SFits w64 c.in-Some-term_value.v = search rules in
    let none : c.add_term.result ≡ None = grind arith in
    let e : c.from_residual-in_err-sum.result ≡ Err ExpressionOverflow = grind arith in
    λ names n. rw e (sum_beyond _ _ _ _ _ _ c.loop-joining.at (goes (goal.at.returns-in_err-sum c).At-loop-joining names n) c.in-Some.joining c.in-Some.k (joint (goal.at.returns-in_err-sum c).In-Some) _ _ _ (term (goal.at.returns-in_err-sum c).In_ok-own) _ (valued (goal.at.returns-in_err-sum c).In-Some-term_value names n) (rw (to_z-of_z fit, none) at c.add_term.ensures))

pub loop-joining-preserved : goal.loop-joining-preserved
loop-joining-preserved c =
    let fit : SFits w64 c.in-Some-term_value.v = search rules in
    let fits : SFits w64 c.in_ok-sum.sum = search rules in
    let some : c.add_term.result ≡ Some c.in_ok-sum.sum = grind arith in
    λ names n. rw (to_z-of_z fits)
    (sum_next _ _ _ _ _ _ c.loop-joining.at (c.loop-joining.invariant names n) c.in-Some.joining c.in-Some.k (joint (goal.at.loop-joining-preserved c).In-Some) _ _ _ (term (goal.at.loop-joining-preserved c).In_ok-own) _ (valued (goal.at.loop-joining-preserved c).In-Some-term_value names n) _ (rw (to_z-of_z fit, some) at c.add_term.ensures))

pub returns : goal.returns
returns c = λ names n. sum_end _ _ _ _ _ _ c.loop-joining.at (goes (goal.at.returns c).At-loop-joining names n) (rw (c.in_ok-joining.was, c.in_default.is) at c.joint_at.ensures)
