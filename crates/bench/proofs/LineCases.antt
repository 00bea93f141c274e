-- The lines of document 01's twelve cases, by computing.
use mathlib.Core.Path.{◌≡◌, refl}
use Rattle.numbers.specs.Text.{text}
use Rattle.layout.proofs.Computing.{computing}
use Rattle.bench.specs.Lines.{decimal_in, decimal, fields, answer_line, bench_line}

-- decimal numbers
pub decimal-cases :
    (decimal 0 ≡ text "0")
    × (decimal 9 ≡ text "9")
    × (decimal 10 ≡ text "10")
    × (decimal 65536 ≡ text "65536")
    × (decimal 18446744073709551615 ≡ text "18446744073709551615")
unfolding decimal decimal_in
decimal-cases = (refl, refl, refl, refl, refl)

pub line-cases :
    -- 1
    (bench_line (text "") ≡ text "ok 0 0 0 0\n")
    -- 2
    × (bench_line (text "li a0, 2047") ≡ text "ok 1 0 0 0\n")
    -- 3
    × (bench_line (text "li a0, 2048") ≡ text "ok 2 0 0 0\n")
    -- 4
    × (bench_line (text "li a0, 0x7FFFF800") ≡ text "ok 2 0 0 0\n")
    -- 5
    × (bench_line (text "li a0, 4294967295") ≡ text "ok 1 0 0 0\n")
    × (bench_line (text "n = 4294967295\nli a0, n") ≡ text "no 19 2\n")
    -- 6
    × (bench_line (text "push ra") ≡ text "ok 2 0 0 0\n")
    × (bench_line (text "pop ra") ≡ text "ok 2 0 0 0\n")
    -- 7
    × (bench_line (text ".data\n.byte 1\n.align 3") ≡ text "ok 0 1 0 0\n")
    × (bench_line (text ".data\n.byte 1,2\n.align 3") ≡ text "ok 0 4 0 0\n")
    × (bench_line (text ".data\n.byte 1,2,3\n.align 3") ≡ text "ok 0 5 0 0\n")
    -- 8
    × (bench_line (text ".data\n.byte --5") ≡ text "ok 0 1 0 0\n")
    × (bench_line (text ".data\n.byte 256") ≡ text "no 7 2\n")
    -- 9
    × (bench_line (text ".data\n.dword -9223372036854775808") ≡ text "no 6 2\n")
    × (bench_line (text ".data\n.dword +-9223372036854775808") ≡ text "ok 0 8 0 0\n")
    -- 10: "Case 10 alone gives `ok 0 0 0 6`"
    × (bench_line (text "a = b+1\nb = c+1\nc = 5") ≡ text "ok 0 0 0 6\n")
    -- 11: "case 11 `no 17 1`"
    × (bench_line (text "a = b\nb = a") ≡ text "no 17 1\n")
    -- 12
    × (bench_line (text ".data\nt: .byte 1\nt: .byte 2\n.word t") ≡ text "ok 0 6 0 0\n")
    -- the largest bss, and one byte more
    × (bench_line (text ".bss\n.space 1048576") ≡ text "ok 0 0 1048576 0\n")
    × (bench_line (text ".bss\n.space 1048577") ≡ text "no 43 2\n")
unfolding computing answer_line fields decimal decimal_in
line-cases = (refl, refl, refl, refl, refl, refl, refl, refl, refl, refl, refl, refl, refl, refl, refl, refl, refl, refl, refl, refl)
