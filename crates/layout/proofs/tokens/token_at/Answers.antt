-- `tokens::token_at`: the token that stands after the blanks is the first from the place on.
use Rattle.layout.proofs.SpacedTokens.{from-here}
use Rattle.layout.proofs.tokens.token_at.Goals as goal

pub returns : goal.returns
returns c =
    let a = c.args in
    from-here a.one_space a.s.now a.at c.skip_blanks.result c.skip_blanks.ensures c.token_here.result c.token_here.ensures
