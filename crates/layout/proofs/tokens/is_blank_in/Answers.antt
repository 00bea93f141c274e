-- `tokens::is_blank_in`: the definition's two cases.
use mathlib.Core.Path.{refl}
use Rattle.layout.proofs.tokens.is_blank_in.Goals as goal

pub returns-then-one_space : goal.returns-then-one_space
returns-then-one_space c = rw (c.is_space.ensures, c.if-one_space.true) refl

pub returns : goal.returns
returns c = rw (c.is_blank.ensures, c.if-one_space.false) refl
