-- `Write::put`: a number's bytes, a string and its zeros, or zeros.
use mathlib.Core.Path.{◌∙◌, ap}
use native.Mathlib.Omega.{arith}
use mir.Facts.{to_z-of_z}
use mir.Syntax.{w64}
use mir.Val.{SFits}
use Rattle.numbers.specs.Ints.{bits}
use Rattle.layout.proofs.DataLaws.{source_fits, zeros_left, zeros_room, text-put}
use borrow.Author.Rules.{rules}
use Rattle.layout.proofs.data.Write.put.Goals as goal

pub put_string-requires : goal.put_string-requires
put_string-requires c =
    source_fits c.args.text.now c.args.dst.now _ c.args.n _ _ _ c.in-Text.is
    c.span_bytes.ensures c.requires.0 c.requires.1 c.requires.2

pub slice_bounds-put_zeros-count : goal.slice_bounds-put_zeros-count
slice_bounds-put_zeros-count c = omega (arith, zeros_left c.args.text.now _ _ _ _ _ _ c.in-Text.is c.span_bytes.ensures c.requires.0 c.requires.1 c.requires.2 _ c.put_string.ensures)

pub slice_bounds-put_zeros-start : goal.slice_bounds-put_zeros-start
slice_bounds-put_zeros-start c = omega (arith, zeros_left c.args.text.now _ _ _ _ _ _ c.in-Text.is c.span_bytes.ensures c.requires.0 c.requires.1 c.requires.2 _ c.put_string.ensures)

pub put_zeros-requires : goal.put_zeros-requires
put_zeros-requires c =
    zeros_room c.args.text.now _ _ _ _ _ _ c.in-Text.is c.span_bytes.ensures c.requires.0
    c.requires.1 c.requires.2 _ c.put_string.ensures

pub returns-in-Number : goal.returns-in-Number
returns-in-Number c =
    let f : SFits w64 c.in-Number.v = search rules in
    rw (c.in-Number.is, ← (c.bits_of_i64.ensures ∙ ap (bits 64) (to_z-of_z f))) c.put_number.ensures

pub returns-in-Text : goal.returns-in-Text
returns-in-Text c =
    text-put _ _ _ _ _ _ _ c.in-Text.is c.span_bytes.ensures c.requires.0 c.requires.1 c.requires.2
    _ c.put_string.ensures _ c.put_zeros.ensures

pub returns-in-Gap : goal.returns-in-Gap
returns-in-Gap c = rw c.in-Gap.is c.put_zeros-in-Gap.ensures

pub returns-in-Address : goal.returns-in-Address
returns-in-Address c = rw c.in-Address.is c.put_zeros-in-Address.ensures
