-- Cases beyond the twelve, by computing on the definitions: whole answers in small buffers, byte by byte; each pseudo's words; records
-- read back; data; expressions and rounds; and refusals in document 01's order. The numbers are worked from document 01 and from the manual's formats.
use Prim.Native.Nat.{ℕ}
use mathlib.Core.Path.{◌≡◌, refl}
use mathlib.Core.Bool.{true, false}
use mathlib.Core.List.{List, [], ◌∷◌, ◌++◌, map}
use lib.IntN.{ℤ, pos, negsuc}
use lib.ListN.{length, replicate}
use Rattle.std.proofs.Common.{Result, Ok, Err}
use Rattle.numbers.specs.Results.{mapped}
use Rattle.numbers.specs.Text.{text}
use Rattle.layout.specs.Refusals.{Refusal}
use Rattle.layout.specs.declared.records.LabelRecord.{LabelRecord}
use Rattle.layout.specs.declared.records.EquateRecord.{EquateRecord}
use Rattle.layout.specs.declared.records.ItemRecord.{ItemRecord}
use Rattle.layout.specs.declared.records.ExprRecord.{ExprRecord}
use Rattle.layout.specs.declared.records.LabelWordRecord.{LabelWordRecord}
use Rattle.layout.specs.Limits.{Lent, full, room_of, label_size, equate_size, item_size}
use Rattle.layout.specs.Records.{field_bytes, label_fields, equate_fields, item_fields, little_endian_value, label_record_at, equate_record_at, item_record_at}
use Rattle.layout.specs.Code.Tables.{expr_size, label_word_size, expr_fields, label_word_fields}
use Rattle.layout.specs.Code.Tables.{expr_record_at, label_word_record_at}
use Rattle.layout.specs.Directives.{address_of}
use Rattle.layout.specs.Stage.{add_label_word}
use Rattle.layout.specs.Layouts.{layout_of, call_of}
use Rattle.layout.proofs.Computing.{computing}
use Rattle.layout.proofs.TwelveCases.{laid, laid_data, no}

-- ---- whole answers

-- a number below 256 in four bytes; the four bytes of an address, the high byte first here; a small negative number in eight bytes
abbrev small : ℕ → List ℕ
small v = v ∷ 0 ∷ 0 ∷ 0 ∷ []

abbrev address : ℕ → ℕ → ℕ → ℕ → List ℕ
address a b c d = d ∷ c ∷ b ∷ a ∷ []

abbrev negative : ℕ → List ℕ
negative v = v ∷ 0xFF ∷ 0xFF ∷ 0xFF ∷ 0xFF ∷ 0xFF ∷ 0xFF ∷ 0xFF ∷ []

-- so many words, and bytes for data, labels, equates and items
abbrev lent : ℕ → ℕ → ℕ → ℕ → ℕ → Lent
lent w d l e i = record { words = w; data_bytes = d; label_bytes = l; equate_bytes = e; item_bytes = i }

pub record-cases :
    -- 18 lines: two labels at one address; an equate found in round 2, three evaluations and then one; an li by name, whose upper part is 0; a label
    -- word; labels in each section; room for one word, one byte and part of a record more
    (call_of
    (text "\n\n   w: print s10\nzy:\nabc: li t1, n\n push s3 \n\nn = qq.+2 # c\n.set r4,-4\n.equ qq.  r4 - 3\n.data\n"
    ++ text "dd: .half 0x1234, 0xFEDC\n.byte 9\n.align 4\nv: .word zy\n.bss\ne5: .skip 5\nf: .zero 6")
    0x81234560 (lent 8 13 115 77 77)
    ≡ record {
      number = 0;
      line = 0;
      counts = record { words = 7; data_bytes = 12; data_base = 0x81235560; bss_size = 11; labels = 7; equates = 3; items = 3; evaluations = 4 };
      buffers = record {
        words = 0x3E800893 ∷ 0x000D0513 ∷ 0x00000073 ∷ 0x00000337 ∷ 0xFFB30313 ∷ 0xFFC10113 ∷ 0x01312023 ∷ 0 ∷ [];
        data_bytes = 0x34 ∷ 0x12 ∷ 0xDC ∷ 0xFE ∷ 9 ∷ 0 ∷ 0 ∷ 0 ∷ 0x6C ∷ 0x45 ∷ 0x23 ∷ 0x81 ∷ 0 ∷ [];
        labels =
            small 5 ++ small 1 ++ address 0x81 0x23 0x45 0x60 ++ small 2
            ++ small 22 ++ small 3 ++ address 0x81 0x23 0x45 0x6C ++ small 4
            ++ small 18 ++ small 2 ++ address 0x81 0x23 0x45 0x6C ++ small 3
            ++ small 95 ++ small 2 ++ address 0x81 0x23 0x55 0x60 ++ small 11
            ++ small 137 ++ small 1 ++ address 0x81 0x23 0x55 0x68 ++ small 14
            ++ small 154 ++ small 2 ++ address 0x81 0x23 0x55 0x6C ++ small 16
            ++ small 166 ++ small 1 ++ address 0x81 0x23 0x55 0x71 ++ small 17
            ++ 0 ∷ 0 ∷ 0 ∷ [];
        equates =
            small 47 ++ small 1 ++ small 7 ++ negative 0xFB ++ small 2
            ++ small 66 ++ small 2 ++ small 8 ++ negative 0xFC ++ small 1
            ++ small 77 ++ small 3 ++ small 9 ++ negative 0xF9 ++ small 1
            ++ 0 ∷ 0 ∷ 0 ∷ 0 ∷ 0 ∷ [];
        items =
            address 0x81 0x23 0x45 0x60 ++ small 2 ++ small 5 ++ small 0 ++ small 8 ++ small 9
            ++ address 0x81 0x23 0x45 0x6C ++ small 4 ++ small 1 ++ small 3 ++ small 27 ++ small 8
            ++ address 0x81 0x23 0x45 0x74 ++ small 5 ++ small 3 ++ small 5 ++ small 37 ++ small 7
            ++ 0 ∷ 0 ∷ 0 ∷ 0 ∷ 0 ∷ [];
      };
    })
    -- an ordinary line, an empty label, and a label of the bss without data; no room for data or equates
    × (call_of (text "nop\n  :la a0, x\n .bss\n.align 8\nx: .space 3") 0x7FFFF7F4 (lent 4 0 33 0 49) ≡ record {
      number = 0;
      line = 0;
      counts = record { words = 3; data_bytes = 0; data_base = 0x800007F4; bss_size = 3; labels = 2; equates = 0; items = 2; evaluations = 0 };
      buffers = record {
        words = 0 ∷ 0x80000537 ∷ 0x7F450513 ∷ 0 ∷ [];
        data_bytes = [];
        labels =
            small 6 ++ small 0 ++ address 0x7F 0xFF 0xF7 0xF8 ++ small 1 ++ small 31 ++ small 1 ++ address 0x80 0x00 0x07 0xF4 ++ small 4 ++ 0 ∷ [];
        equates = [];
        items =
            address 0x7F 0xFF 0xF7 0xF4 ++ small 0 ++ small 0 ++ small 0 ++ small 0 ++ small 3
            ++ address 0x7F 0xFF 0xF7 0xF8 ++ small 1 ++ small 2 ++ small 1 ++ small 7 ++ small 8 ++ 0 ∷ [];
      };
    })
    -- refused on line 1: all zeros
    × (call_of (text "x: li a0, 5\n.section") 0 (lent 2 1 17 3 25) ≡ record {
      number = 2;
      line = 1;
      counts = record { words = 0; data_bytes = 0; data_base = 0; bss_size = 0; labels = 0; equates = 0; items = 0; evaluations = 0 };
      buffers = record {
        words = 0 ∷ 0 ∷ [];
        data_bytes = 0 ∷ [];
        labels = small 0 ++ small 0 ++ small 0 ++ small 0 ++ 0 ∷ [];
        equates = 0 ∷ 0 ∷ 0 ∷ [];
        items = small 0 ++ small 0 ++ small 0 ++ small 0 ++ small 0 ++ small 0 ++ 0 ∷ [];
      };
    })
    -- labels at one address by their names' bytes
    × (mapped (λ l. map (λ x. x.name.bytes) l.labels) (laid (text "b:\na:\nc:\nB:\naa:"))
    ≡ Ok (text "B" ∷ text "a" ∷ text "aa" ∷ text "b" ∷ text "c" ∷ []))
unfolding computing
record-cases = (refl, refl, refl, refl)

-- ---- each pseudo's words

-- where s is 0x12346801: the upper part is one more, the lower is negative
abbrev words_at : List ℕ → Result (List ℕ) Refusal
words_at s = mapped (λ l. l.words) (layout_of (s ++ text "\n.data\n.byte 1\ns: .byte 7") 0x12345800 full)

-- each of the nine, a li of two words, and an ordinary line
abbrev nine : List ℕ
nine =
    text "li a0, 1\nla a0, s\npush a0\npop a0\nprint a0\nprint_str s\nread s\nread_byte s\nrandom a0\nli a0, 5000\nnop\ns:"

pub pseudo-cases :
    (words_at (text "li s3, -100000") ≡ Ok (0xFFFE89B7 ∷ 0x96098993 ∷ []))
    × (words_at (text "la s3, s") ≡ Ok (0x123479B7 ∷ 0x80198993 ∷ []))
    × (words_at (text "push s3") ≡ Ok (0xFFC10113 ∷ 0x01312023 ∷ []))
    × (words_at (text "pop s3") ≡ Ok (0x00012983 ∷ 0x00410113 ∷ []))
    × (words_at (text "print s3") ≡ Ok (0x3E800893 ∷ 0x00098513 ∷ 0x00000073 ∷ []))
    × (words_at (text "print_str s") ≡ Ok (
    0x123475B7 ∷ 0x80158593 ∷ 0x00058613 ∷ 0x00064283 ∷ 0x00028663 ∷ 0x00160613 ∷ 0xFF5FF06F ∷ 0x40B60633 ∷ 0x00100513 ∷ 0x04000893 ∷
    0x00000073 ∷ []
    ))
    × (words_at (text "read s") ≡ Ok (0x00000513 ∷ 0x123475B7 ∷ 0x80158593 ∷ 0x10000613 ∷ 0x03F00893 ∷ 0x00000073 ∷ []))
    × (words_at (text "readByte s") ≡ Ok (0x3F200893 ∷ 0x12347537 ∷ 0x80150513 ∷ 0x00000073 ∷ []))
    × (words_at (text "random s3") ≡ Ok (
    0xFFC10113 ∷ 0x11600893 ∷ 0x00010513 ∷ 0x00400593 ∷ 0x00000613 ∷ 0x00000073 ∷ 0x00012983 ∷ 0x00410113 ∷ []
    ))
    × (words_at (text "li s3, n\nn = 70000") ≡ Ok (0x000119B7 ∷ 0x17098993 ∷ []))
    -- ordinary lines: after a tab; a name that may not end the line
    × (words_at (text "push\ts3") ≡ Ok (0 ∷ []))
    × (words_at (text "random_bytes") ≡ Ok (0 ∷ []))
    -- kinds, and the words reserved by the addresses
    × (mapped (λ l. map (λ x. x.kind) l.items) (laid nine) ≡ Ok (1 ∷ 2 ∷ 3 ∷ 4 ∷ 5 ∷ 6 ∷ 7 ∷ 8 ∷ 9 ∷ 1 ∷ 0 ∷ []))
    × (mapped (λ l. map (λ x. x.address) l.items) (laid nine)
    ≡ Ok (0 ∷ 4 ∷ 12 ∷ 20 ∷ 28 ∷ 40 ∷ 84 ∷ 108 ∷ 124 ∷ 156 ∷ 164 ∷ []))
    × (mapped (λ l. map (λ x. x.address) l.labels) (laid nine) ≡ Ok (168 ∷ []))
unfolding computing
pseudo-cases = (refl, refl, refl, refl, refl, refl, refl, refl, refl, refl, refl, refl, refl, refl, refl)

-- ---- an li by name: document 02, W-202

abbrev by_name : List ℕ → Result (List ℕ) Refusal
by_name v = words_at (text "n = " ++ v ++ text "\nli a0, n")

abbrev pub shrunk : List ℕ
shrunk = text "n = 5\nli a0, n\nx: ecall"

pub named-load-cases :
    -- "lui with the upper part, 0 included, then addi"
    (by_name (text "5") ≡ Ok (0x00000537 ∷ 0x00550513 ∷ []))
    × (by_name (text "0") ≡ Ok (0x00000537 ∷ 0x00050513 ∷ []))
    × (by_name (text "-1") ≡ Ok (0x00000537 ∷ 0xFFF50513 ∷ []))
    × (by_name (text "2047") ≡ Ok (0x00000537 ∷ 0x7FF50513 ∷ []))
    × (by_name (text "2048") ≡ Ok (0x00001537 ∷ 0x80050513 ∷ []))
    × (by_name (text "-2048") ≡ Ok (0x00000537 ∷ 0x80050513 ∷ []))
    × (by_name (text "-2049") ≡ Ok (0xFFFFF537 ∷ 0x7FF50513 ∷ []))
    × (by_name (text "2147483647") ≡ Ok (0x80000537 ∷ 0xFFF50513 ∷ []))
    × (by_name (text "-2147483648") ≡ Ok (0x80000537 ∷ 0x00050513 ∷ []))
    × (words_at (text "n = 5\nli x0, n") ≡ Ok (0x00000037 ∷ 0x00500013 ∷ []))
    -- "An equate beyond 32 signed bits is still 19"
    × (by_name (text "2147483648") ≡ no 19 1)
    × (by_name (text "4294967295") ≡ no 19 1)
    × (by_name (text "-2147483649") ≡ no 19 1)
    -- "a readable number" is what `parse_imm` reads, whatever is named so
    × (words_at (text "5 = 9\nli a0, 5") ≡ Ok (0x00500513 ∷ []))
    × (words_at (text "li a0, 'a'") ≡ Ok (0x06100513 ∷ []))
    × (words_at (text "4294967296 = 7\nli a0, 4294967296") ≡ Ok (0x00000537 ∷ 0x00750513 ∷ []))
    -- "Each item's address then equals the base plus four times its first word's index", and a label's is that of the word behind it
    × (mapped (λ l. map (λ x. x.address) l.items) (laid shrunk) ≡ Ok (0 ∷ 8 ∷ []))
    × (mapped (λ l. map (λ x. x.first) l.items) (laid shrunk) ≡ Ok (0 ∷ 2 ∷ []))
    × (mapped (λ l. map (λ x. x.address) l.labels) (laid shrunk) ≡ Ok (8 ∷ []))
unfolding computing
named-load-cases = (refl, refl, refl, refl, refl, refl, refl, refl, refl, refl, refl, refl, refl, refl, refl, refl, refl, refl, refl)

-- ---- records read back

-- the second of two records is the one that was written: no two fields are alike, an equate's value is negative
pub read-back-cases :
    (let r : LabelRecord = record { start = 65535; len = 3; address = 0x81234560; line = 65536 } in
    label_record_at (replicate label_size 9 ++ field_bytes (label_fields r)) 1 ≡ r)
    × (let r : EquateRecord = record { start = 65535; len = 3; line = 65536; value = negsuc 0x123456789ABCDEF0; round = 255 } in
    equate_record_at (replicate equate_size 9 ++ field_bytes (equate_fields r)) 1 ≡ r)
    × (let r : ItemRecord = record { address = 0x81234560; line = 65536; kind = 9; first = 16383; start = 65535; len = 3 } in
    item_record_at (replicate item_size 9 ++ field_bytes (item_fields r)) 1 ≡ r)
    × (let r : ExprRecord = record { start = 65535; len = 3; one_space = true; place = 0x1000004 } in
    expr_record_at (replicate expr_size 9 ++ field_bytes (expr_fields r)) 1 ≡ r)
    × (let r : ExprRecord = record { start = 65535; len = 3; one_space = false; place = 0x1000004 } in
    expr_record_at (replicate expr_size 9 ++ field_bytes (expr_fields r)) 1 ≡ r)
    × (let r : LabelWordRecord = record { at = 65532; start = 65535; len = 3; line = 65536 } in
    label_word_record_at (replicate label_word_size 9 ++ field_bytes (label_word_fields r)) 1 ≡ r)
unfolding computing little_endian_value
read-back-cases = (refl, refl, refl, refl, refl, refl)

-- ---- data

pub data-cases :
    (laid_data (text ".data\n.dword -2\n.string \"a b\"\n.ascii \"c\" ; \"\n.zero 2\n.byte 'd'\n.word -3")
    ≡ Ok (0xFE ∷ 0xFF ∷ 0xFF ∷ 0xFF ∷ 0xFF ∷ 0xFF ∷ 0xFF ∷ 0xFF ∷ 97 ∷ 32 ∷ 98 ∷ 0 ∷ 99 ∷ 0 ∷ 0 ∷ 100 ∷ 0xFD ∷ 0xFF ∷ 0xFF ∷ 0xFF ∷ []))
    -- labels of data, bss and text, above and below
    × (laid_data (text "nop\nc:\n.section .rodata,x\na: .word b, 7, a, c\n.section sbss\n.skip 9\nb:")
    ≡ Ok (0x19 ∷ 0x10 ∷ 0 ∷ 0 ∷ 7 ∷ 0 ∷ 0 ∷ 0 ∷ 0 ∷ 0x10 ∷ 0 ∷ 0 ∷ 4 ∷ 0 ∷ 0 ∷ 0 ∷ []))
    × (laid_data (text ".data\n.section .note.GNU-stack,x\n.type a, b\n.globl a\n.bytes") ≡ no 6 4)
unfolding computing
data-cases = (refl, refl, refl)

-- ---- strings: document 02, W-201

-- what a line stores in the data section
abbrev stores : List ℕ → Result (List ℕ) Refusal
stores l = laid_data (text ".data\n" ++ l)

pub string-line-cases :
    (stores (text ".ascii \"12:40 #3;ok\\n\"") ≡ Ok (49 ∷ 50 ∷ 58 ∷ 52 ∷ 48 ∷ 32 ∷ 35 ∷ 51 ∷ 59 ∷ 111 ∷ 107 ∷ 10 ∷ []))
    -- a label whose colon precedes the quote, no blank before that, each blank at both places, a comment behind; the text's end and LF
    × (stores (text "a:.string\":\";\"") ≡ Ok (58 ∷ 0 ∷ []))
    × (stores (text ".asciz" ++ 9 ∷ 11 ∷ 12 ∷ 13 ∷ 32 ∷ text "\"\"" ++ 9 ∷ 11 ∷ 12 ∷ 13 ∷ 32 ∷ text "# c\n.byte 1") ≡ Ok (0 ∷ 1 ∷ []))
    -- the first colon makes a label where the line has no quote, or none before it
    × (stores (text ".ascii:\"a\"") ≡ no 10 1)
    × (stores (text "x: y: .ascii \":\"") ≡ no 10 1)
    × (stores (text ".ascii a:b") ≡ no 10 1)
    × (stores (text ".ascii :") ≡ Ok [])
    × (stores (text ".section data: .ascii \":\"") ≡ no 3 1)
    -- a label that has the quote: document 01's cut and string
    × (stores (text "\": .ascii \"a\\n\"") ≡ Ok (97 ∷ 92 ∷ 110 ∷ []))
    × (stores (text "\": .ascii \"a\" \"b\"") ≡ Ok (97 ∷ 34 ∷ 32 ∷ 34 ∷ 98 ∷ []))
    × (stores (text "\": .ascii \"#\"") ≡ no 9 1)
    -- "another escape, an octal above 377, no closing quote, or text beside the string"
    × (stores (text ".ascii \"\\q\"") ≡ no 9 1)
    × (stores (text ".ascii \"\\400\"") ≡ no 9 1)
    × (stores (text ".ascii \"\\378\"") ≡ no 9 1)
    × (stores (text ".ascii \"\\8\\377\\0019\"") ≡ Ok (8 ∷ 255 ∷ 1 ∷ 57 ∷ []))
    × (stores (text ".ascii \"a\\\"") ≡ no 9 1)
    × (stores (text ".ascii \"a\" \"b\"") ≡ no 9 1)
    × (stores (text ".ascii \"a\" :") ≡ no 9 1)
    × (stores (text ".asciiz \"a\"") ≡ no 9 1)
    × (stores (text ".ascii # \"a\"") ≡ no 9 1)
    -- other sections have none
    × (laid_data (text ".bss\n.ascii \":\"") ≡ no 11 1)
    × (laid_data (text ".ascii \":\"") ≡ Ok [])
    -- 1 before all
    × (stores (text ".ascii \"" ++ 128 ∷ text "\"") ≡ no 1 1)
unfolding computing
string-line-cases =
    (refl, refl, refl, refl, refl, refl, refl, refl, refl, refl, refl, refl, refl, refl, refl, refl, refl, refl, refl, refl, refl, refl, refl)

-- ---- expressions and rounds

abbrev values : List ℕ → Result (List ℤ) Refusal
values s = mapped (λ l. map (λ e. e.value) l.equates) (layout_of s 8 full)

pub expression-cases :
    -- a name with `$`; commas as blanks; `.` is base 8 and one word; `0X`; signs on both sides of a joint
    (values (text "a$_.9 = 5\nb = a$_.9,+,1") ≡ Ok (pos 5 ∷ pos 6 ∷ []))
    × (values (text "nop\nx = . + 0XaF") ≡ Ok (pos 187 ∷ []))
    × (values (text "x = -+-3 - - + 4 + -10") ≡ Ok (negsuc 2 ∷ []))
    -- `0b`, and a label below
    × (values (text "n = l - m\nm = 0b101\n.data\n.byte 1\nl:") ≡ Ok (pos 4100 ∷ pos 5 ∷ []))
    -- the least number; then a term times its sign, a product times its joint, a sum
    × (values (text "x = -9223372036854775807 - 1") ≡ Ok (negsuc 9223372036854775807 ∷ []))
    × (values (text "x = -9223372036854775807 - 1\ny = 0 - -x") ≡ no 24 1)
    × (values (text "x = -9223372036854775807 - 1\ny = -5 - x") ≡ no 24 1)
    × (values (text "x = 9223372036854775807 + 1") ≡ no 24 0)
    -- a term or a joint is missing; unreadable tokens first
    × (values (text "x = 5 +") ≡ no 16 0)
    × (values (text "x = 5 5") ≡ no 16 0)
    × (values (text "x = 5a") ≡ no 16 0)
    × (values (text "x = y + ?") ≡ no 16 0)
    × (values (text "x = y + 5 5") ≡ no 17 0)
    -- bytes 9 and 13 are blanks, 11 is not, but it is white space where a blank parts
    × (values (text "x = 1" ++ 9 ∷ 13 ∷ text "+ 2") ≡ Ok (pos 3 ∷ []))
    × (values (text ".equ x, 1" ++ 11 ∷ text "+ 2") ≡ no 16 0)
    × (values (text ".equ x 1" ++ 11 ∷ text "+ 2") ≡ Ok (pos 3 ∷ []))
    -- no equate begins with a dot
    × (values (text ".x = 5\ny = 6") ≡ Ok (pos 6 ∷ []))
    -- a name's second equate before its first; the first pending line
    × (values (text "a = b\na = 1\nb = 2") ≡ no 15 0)
    × (values (text "a = 1\nb = c\nd = b") ≡ no 17 1)
unfolding computing
expression-cases = (refl, refl, refl, refl, refl, refl, refl, refl, refl, refl, refl, refl, refl, refl, refl, refl, refl, refl, refl)

-- ---- refusals

-- with so much lent
abbrev within : Lent → List ℕ → Result ℕ Refusal
within k s = mapped (λ l. l.bss_size) (layout_of s 0 k)

pub input-cases :
    (within full (text "\n\nnop" ++ 128 ∷ []) ≡ no 1 2)
    × (within full (text "\n.section .text.x") ≡ no 3 1)
    × (within full (text ".globl") ≡ no 4 0)
    × (within full (text ".equ x") ≡ no 5 0)
    × (within full (text ".data\n.word") ≡ no 8 1)
    × (within full (text ".data\n.byte 1,") ≡ no 6 1)
    × (within full (text ".data\n.align 0") ≡ no 7 1)
    × (within full (text ".data\n.half 65536") ≡ no 7 1)
    × (within full (text ".data\n.ascii \"") ≡ no 9 1)
    × (within full (text ".data\n.skip 1") ≡ no 10 1)
    × (within full (text ".bss\nnop") ≡ no 11 1)
    × (within full (text ".bss\n.words") ≡ no 12 1)
    × (within full (text "x = ?\n.data\n.byte 0\n.word x\n.word y") ≡ no 13 3)
    × (within full (text "a = ?\na:") ≡ no 14 0)
    × (within full (text "a = 1\na = ?") ≡ no 15 1)
    × (within full (text "li a0\nla a0, x") ≡ no 18 0)
    × (within full (text "la x32, x") ≡ no 18 0)
    × (within full (text "print_str a0") ≡ no 18 0)
    × (within full (text "'x = 70000\nli a0, 'x") ≡ no 19 1)
    × (within full (text "la a0, x") ≡ no 20 0)
    × (within full (text ".data\n.float x, y") ≡ no 21 1)
    × (within full (text "readWord") ≡ no 21 0)
unfolding computing
input-cases =
    (refl, refl, refl, refl, refl, refl, refl, refl, refl, refl, refl, refl, refl, refl, refl, refl, refl, refl, refl, refl, refl, refl)

-- what is lent, and the limits; one record of each kind and a byte less than two
pub state-cases :
    (room_of (lent 99999 99999 99999 99999 99999) ≡ record { words = 16384; bytes = 65536; labels = 1024; equates = 256; items = 2048 })
    × (room_of (lent 9 10 47 71 95) ≡ record { words = 9; bytes = 10; labels = 2; equates = 2; items = 3 })
    -- 40, 41, 1
    × (mapped (λ l. l.data_base) (layout_of (text "") 0xFF000000 full) ≡ Ok 0xFF001000)
    × (layout_of (replicate 65537 128) 0xFF000001 full ≡ no 40 0)
    × (layout_of (replicate 65537 128) 0 full ≡ no 41 0)
    × (layout_of (10 ∷ replicate 65535 128) 0 full ≡ no 1 1)
    -- a string's 45, 9 and 42, by what it stands for with its 0
    × (within (lent 0 0 0 0 0) (text ".data\nx: .asciz \"\\q\"") ≡ no 45 1)
    × (within (lent 0 0 16 0 0) (text ".data\nx: .asciz \"\\q\"") ≡ no 9 1)
    × (within (lent 0 1 16 0 0) (text ".data\nx: .asciz \"\\n\"") ≡ no 42 1)
    × (within (lent 0 2 16 0 0) (text ".data\nx: .asciz \"\\n\"") ≡ Ok 0)
    -- each operand's own check, then 42
    × (within (lent 0 2 0 0 0) (text ".data\n.byte 1,2,x") ≡ no 6 1)
    × (within (lent 0 2 0 0 0) (text ".data\n.byte 1,2,3,x") ≡ no 42 1)
    × (within (lent 0 2 0 0 0) (text ".data\n.byte 1\n.align 4") ≡ no 42 2)
    × (within (lent 0 99999 0 0 0) (text ".data\n.space 65537") ≡ no 42 1)
    -- 43
    × (within full (text ".bss\n.space 1048573\n.align 4") ≡ Ok 1048576)
    × (within full (text ".bss\n.space 1048576\n\n.skip 1") ≡ no 43 3)
    -- 21, 48, 44
    × (within (lent 0 0 0 0 0) (text "randomBytes x") ≡ no 21 0)
    × (within (lent 0 0 0 0 47) (text "nop\nnop") ≡ no 44 0)
    × (within (lent 1 0 0 0 47) (text "nop\nnop") ≡ no 48 1)
    × (within (lent 2 0 0 0 48) (text "nop\nli a0, x") ≡ no 44 1)
    × (within (lent 2 0 0 0 48) (text "nop\nli a0") ≡ no 18 1)
    -- 45 first; a name that is there is no more
    × (within (lent 0 0 31 0 0) (text "a:\na:\nb: .equ") ≡ no 45 2)
    -- 5, then 46
    × (within (lent 0 0 0 47 0) (text "a=1\n.set b") ≡ no 5 1)
    × (within (lent 0 0 0 47 0) (text "a=1\nb=?") ≡ no 46 1)
    -- 42, then 47
    × (within (lent 0 3 0 0 0) (text ".data\n.word x") ≡ no 42 1)
    × (mapped length (add_label_word 3 8 (address_of (text "x")) (replicate 1023 (record { at = 4; name = text "y"; line = 2 }))) ≡ Ok 1024)
    × (add_label_word 3 8 (address_of (text "x")) (replicate 1024 (record { at = 4; name = text "y"; line = 2 })) ≡ Err 47)
unfolding computing
state-cases =
    (refl, refl, refl, refl, refl, refl, refl, refl, refl, refl, refl, refl, refl, refl, refl, refl, refl, refl, refl, refl, refl, refl, refl, refl, refl, refl, refl)
