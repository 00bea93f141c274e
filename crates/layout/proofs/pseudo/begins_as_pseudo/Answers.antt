use mathlib.Core.Path.{refl}
use Rattle.layout.proofs.pseudo.begins_as_pseudo.Goals as goal

pub returns : goal.returns
returns c = rw (c.first_is.ensures, c.first_is-2.ensures, c.first_is-3.ensures) refl
