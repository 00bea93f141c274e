-- `little_endian::get_u32`: each of the four bytes is worth 256 of the one before it.
use native.Mathlib.Omega.{arith}
use Rattle.layout.proofs.ByteLaws.{four_at_lem}
use Rattle.layout.proofs.little_endian.get_u32.Goals as goal

pub returns : goal.returns
returns c = omega (arith, c.from_le_bytes.ensures, four_at_lem c.args.buf.now c.args.at c.requires)
