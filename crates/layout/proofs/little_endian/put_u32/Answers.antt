-- `little_endian::put_u32`: the library's four bytes are the number's.
use mathlib.Core.Path.{◌∙◌}
use Rattle.layout.specs.Bytes.{little_endian}
use Rattle.layout.proofs.ByteLaws.{length-little_endian, low_bytes, put_part}
use Rattle.layout.proofs.little_endian.put_u32.Goals as goal

pub returns : goal.returns
returns c =
    let a = c.args in
    rw (c.copy_from_slice.ensures.after ∙ c.to_le_bytes.ensures ∙ low_bytes 4 a.v) (put_part a.at 4 (little_endian 4 a.v) a.buf.now (length-little_endian 4 a.v))
