-- The twelve numbered cases of document 01, "Proved table and bench program", by computing on the definitions; base 0 and buffers of every
-- limit's full size.
use Prim.Native.Nat.{ℕ}
use mathlib.Core.Path.{◌≡◌, refl}
use mathlib.Core.List.{List, [], ◌∷◌}
use lib.IntN.{pos}
use Rattle.std.proofs.Common.{Result, Ok, Err}
use Rattle.numbers.specs.Results.{mapped}
use Rattle.numbers.specs.Text.{text}
use Rattle.layout.specs.Pieces.{piece}
use Rattle.layout.specs.Refusals.{Refusal}
use Rattle.layout.specs.Limits.{full}
use Rattle.layout.specs.Directives.{aligned}
use Rattle.layout.specs.Layouts.{Layout, layout_of, call_of}
use Rattle.layout.proofs.Computing.{computing}

abbrev pub laid : List ℕ → Result Layout Refusal
laid t = layout_of t 0 full

-- what a case says: the words, or the data, or the refusal
abbrev pub words_of : List ℕ → Result (List ℕ) Refusal
words_of t = mapped (λ l. l.words) (laid t)

abbrev pub laid_data : List ℕ → Result (List ℕ) Refusal
laid_data t = mapped (λ l. l.data_bytes) (laid t)

abbrev pub no : {A : Type 0} → ℕ → ℕ → Result A Refusal
no n line = Err (record { number = n; line = line })

pub twelve-cases :
    -- 1
    (laid (text "")
    ≡ Ok (record { words = []; data_bytes = []; data_base = 0x1000; bss_size = 0; labels = []; equates = []; items = []; evaluations = 0 }))
    × ((call_of (text "") 0 full).number ≡ 0)
    × ((call_of (text "") 0 full).counts
    ≡ record { words = 0; data_bytes = 0; data_base = 0x1000; bss_size = 0; labels = 0; equates = 0; items = 0; evaluations = 0 })
    -- 2
    × (words_of (text "li a0, 2047") ≡ Ok (0x7FF00513 ∷ []))
    -- 3
    × (words_of (text "li a0, 2048") ≡ Ok (0x00001537 ∷ 0x80050513 ∷ []))
    -- 4
    × (words_of (text "li a0, 0x7FFFF800") ≡ Ok (0x80000537 ∷ 0x80050513 ∷ []))
    -- 5
    × (words_of (text "li a0, 4294967295") ≡ Ok (0xFFF00513 ∷ []))
    × (words_of (text "n = 4294967295\nli a0, n") ≡ no 19 1)
    -- 6
    × (words_of (text "push ra") ≡ Ok (0xFFC10113 ∷ 0x00112023 ∷ []))
    × (words_of (text "pop ra") ≡ Ok (0x00012083 ∷ 0x00410113 ∷ []))
    -- 7
    × (aligned 3 1 ≡ 1)
    × (aligned 3 2 ≡ 4)
    × (aligned 3 3 ≡ 5)
    × (laid_data (text ".data\n.byte 1\n.align 3") ≡ Ok (1 ∷ []))
    × (laid_data (text ".data\n.byte 1,2\n.align 3") ≡ Ok (1 ∷ 2 ∷ 0 ∷ 0 ∷ []))
    × (laid_data (text ".data\n.byte 1,2,3\n.align 3") ≡ Ok (1 ∷ 2 ∷ 3 ∷ 0 ∷ 0 ∷ []))
    -- 8
    × (laid_data (text ".data\n.byte --5") ≡ Ok (5 ∷ []))
    × (laid_data (text ".data\n.byte 256") ≡ no 7 1)
    -- 9
    × (laid_data (text ".data\n.dword -9223372036854775808") ≡ no 6 1)
    × (laid_data (text ".data\n.dword +-9223372036854775808") ≡ Ok (0 ∷ 0 ∷ 0 ∷ 0 ∷ 0 ∷ 0 ∷ 0 ∷ 0x80 ∷ []))
    -- 10
    × (laid (text "a = b+1\nb = c+1\nc = 5") ≡ Ok (record {
      words = [];
      data_bytes = [];
      data_base = 0x1000;
      bss_size = 0;
      labels = [];
      equates =
          record { name = piece 0 (text "a"); line = 0; value = pos 7; round = 3 } ∷
          record { name = piece 8 (text "b"); line = 1; value = pos 6; round = 2 } ∷
          record { name = piece 16 (text "c"); line = 2; value = pos 5; round = 1 } ∷ [];
      items = [];
      evaluations = 6;
    }))
    -- 11
    × (laid (text "a = b\nb = a") ≡ no 17 0)
    -- 12
    × (laid_data (text ".data\nt: .byte 1\nt: .byte 2\n.word t") ≡ Ok (0x01 ∷ 0x02 ∷ 0x01 ∷ 0x10 ∷ 0x00 ∷ 0x00 ∷ []))
unfolding computing
twelve-cases =
    (refl, refl, refl, refl, refl, refl, refl, refl, refl, refl, refl, refl, refl, refl, refl, refl, refl, refl, refl, refl, refl, refl, refl)
