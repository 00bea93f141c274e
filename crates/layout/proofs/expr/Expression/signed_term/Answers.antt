-- `Expression::signed_term`: along the signs, what is left makes the same sign, and the same term stands behind it.
use Rattle.layout.specs.Code.Tokens.{TokenLeads}
use Rattle.layout.proofs.TermLaws.{signs_end, signs_plus, signs_minus, signs_unreadable, signs_operand}
use Rattle.layout.proofs.expr.Expression.signed_term.Goals as goal
use Rattle.layout.proofs.expr.Expression.signed_term.Goals.{In_ok-token}

pub returns-in_err-token : goal.returns-in_err-token
returns-in_err-token c =
    rw c.from_residual.ensures (signs_end _ _ _ _ c.loop-token.at c.loop-token.invariant (rw c.in_err-token.was at c.token_of.ensures))

-- the token read
read : (c : In_ok-token) → TokenLeads c.args.self.one_space c.args.self.source.now c.loop-token.at c.in_ok-token.token c.in_ok-token.after
read c = rw c.in_ok-token.was at c.token_of.ensures

pub loop-token-preserved-in-Plus : goal.loop-token-preserved-in-Plus
loop-token-preserved-in-Plus c = signs_plus _ _ _ _ _ c.loop-token.invariant _ _ (read (goal.at.loop-token-preserved-in-Plus c).In_ok-token) c.in-Plus.is

pub loop-token-preserved : goal.loop-token-preserved
loop-token-preserved c = signs_minus _ _ _ _ _ c.loop-token.invariant _ _ (read (goal.at.loop-token-preserved c).In_ok-token) c.in-Minus.is

pub returns-in_default : goal.returns-in_default
returns-in_default c =
    signs_operand _ _ _ _ _ c.loop-token.invariant _ _ (read (goal.at.returns-in_default c).In_ok-token)
    c.in_default.not-Plus c.in_default.not-Minus c.in_default.not-Unreadable

pub returns-in-Unreadable : goal.returns-in-Unreadable
returns-in-Unreadable c = signs_unreadable _ _ _ _ _ c.loop-token.invariant _ _ (read (goal.at.returns-in-Unreadable c).In_ok-token) c.in-Unreadable.is
