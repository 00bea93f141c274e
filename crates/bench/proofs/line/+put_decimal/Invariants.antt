-- `line::put_decimal`: the number gets smaller.
use Rattle.bench.proofs.line.+put_decimal.Given as goal

abbrev pub decreases-put_decimal : goal.decreases-put_decimal
decreases-put_decimal l = l.n
