-- `emit::put_ordinary`: the word in front of the rest.
use Rattle.layout.proofs.EmitLaws.{one_put}
use Rattle.layout.proofs.emit.put_ordinary.Goals as goal

pub returns : goal.returns
returns c = one_put c.args.dst.now c.requires
