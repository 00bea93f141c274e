-- `Expression::any_unreadable`: the invariant says that from here on one is unreadable where one is of the whole.
use mathlib.Core.Path.{sym, ◌∙◌}
use native.Mathlib.Omega.{arith}
use Rattle.layout.specs.Code.Tokens.{TokenLeads}
use Rattle.layout.proofs.SpacedTokens.{unreadable-start, unreadable_end, unreadable-first, unreadable_next}
use Rattle.layout.proofs.expr.Expression.any_unreadable.Goals as goal
use Rattle.layout.proofs.expr.Expression.any_unreadable.Goals.{In-Some}

pub loop-token-init : goal.loop-token-init
loop-token-init c = unreadable-start c.args.self.one_space c.args.self.source.now

pub returns : goal.returns
returns c = sym (sym c.loop-token.invariant ∙ unreadable_end _ c.args.self.source.now c.loop-token.at (rw c.in_default.is at c.token_of.ensures))

-- the token read, after the test of it
read : (c : In-Some) → TokenLeads c.args.self.one_space c.args.self.source.now c.loop-token.at
    c.in-Some.token c.in-Some.after
read c = rw c.in-Some.is at c.token_of.ensures

pub returns-then-is_unreadable : goal.returns-then-is_unreadable
returns-then-is_unreadable c =
    let s = c.args.self.source.now in
    sym (sym c.loop-token.invariant ∙ unreadable-first _ s c.loop-token.at _ _ (read (goal.at.returns-then-is_unreadable c).In-Some) (sym (c.is_unreadable.ensures s) ∙ c.if-is_unreadable.true))

pub loop-token-smaller : goal.loop-token-smaller
loop-token-smaller c = let h = read (goal.at.loop-token-smaller c).In-Some in omega (arith, h.further, h.within)

pub loop-token-preserved : goal.loop-token-preserved
loop-token-preserved c =
    let s = c.args.self.source.now in
    sym (unreadable_next _ s c.loop-token.at _ _ (read (goal.at.loop-token-preserved c).In-Some) (sym (c.is_unreadable.ensures s) ∙ c.if-is_unreadable.false)) ∙ c.loop-token.invariant
