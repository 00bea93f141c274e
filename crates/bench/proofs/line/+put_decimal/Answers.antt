-- `line::put_decimal`: one digit, or the digits of a tenth and one more.
use Rattle.std.proofs.Common.{◌+◌, ◌%◌, ◌<◌, length, arith}
use Rattle.bench.proofs.DecimalLaws.{decimal_one, decimal_more, tenth_short}
use Rattle.bench.proofs.WriteLaws.{begins_none, begins_set}
use Rattle.bench.proofs.line.+put_decimal.Goals as goal

pub returns-then-n-lt10 : goal.returns-then-n-lt10
returns-then-n-lt10 t c =
    let d = c.args.dst.now in
    rw (decimal_one c.args.n c.if-n-lt10.true) (begins_set _ d d 0 (48 + c.args.n) (begins_none d) (omega arith))

pub bounds-dst-k : goal.bounds-dst-k
bounds-dst-k t c = omega (arith, c.put_decimal-k.ensures.count, tenth_short c.args.n (omega arith))

pub returns : goal.returns
returns t c =
    let p = c.put_decimal-k in
    let less : p.result < length c.args.dst.now = omega (arith, p.ensures.count, tenth_short c.args.n (omega arith)) in
    rw (decimal_more c.args.n c.if-n-lt10.false) (begins_set _ _ _ p.result (48 + c.args.n % 10) p.ensures less)
