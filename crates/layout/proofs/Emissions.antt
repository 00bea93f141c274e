-- What an item emits: a word for each of its instructions, none refused by the encoder, each below 2^32; as many as it reserves.
use Prim.Native.Nat.{ℕ, suc, ◌^◌, ◌<◌}
use mathlib.Core.Path.{◌≡◌, refl, ap, ◌∙◌}
use mathlib.Core.List.{List, [], ◌∷◌}
use mathlib.Core.Bool.{Bool, true, false, cond, ◌&&◌, false≢true}
use Rattle.std.proofs.Common.{Option, None, Some}
use native.Mathlib.Omega.{arith}
use lib.IntN.{ℤ}
use lib.ListN.{length}
use borrow.Author.Tests.{le-leb}
use Rattle.std.proofs.Common.{Result, Ok, Err}
use Rattle.numbers.specs.Results.{and_then, mapped, or_refuse}
use Rattle.numbers.specs.Text.{text, starts_with}
use Rattle.numbers.specs.Ints.{is_signed12, is_signed32, bits}
use Rattle.numbers.specs.Numbers.{imm_of}
use Rattle.numbers.specs.Registers.{register_of}
use Rattle.numbers.specs.Operands.{register_before}
use Rattle.encoder.specs.declared.instruction.Instruction.{Instruction}
use Rattle.encoder.specs.declared.instruction.Form.{Form}
use Rattle.encoder.specs.declared.instruction.Form.TheVariants.{R, I, Shift, S, B, U, J}
use Rattle.encoder.specs.Formats.{r_fields, i_fields, s_fields, b_fields, u_fields, j_fields}
use Rattle.encoder.specs.Table.{x0, form_of}
use Rattle.encoder.specs.Encoding.{checked, is_register, is_branch, is_jump, is_shift, is_upper, word_of, encoding, encoded}
use Rattle.numbers.proofs.Names.{register_below}
use Rattle.encoder.proofs.Fields.{joined_below}
use Rattle.encoder.proofs.Load.{upper_clear, lower_small}
use Rattle.layout.specs.declared.pseudo.Pseudo.{Pseudo}
use Rattle.layout.specs.declared.pseudo.Pseudo.TheVariants.{Li, La, Push, Pop, Print, PrintStr, Read, ReadByte, Random}
use Rattle.layout.specs.Refusals.{is_in, pseudo_numbers}
use Rattle.layout.specs.Pseudos.{pseudo_operands, is_single, li_words, pseudo_words, reserved_words}
use Rattle.layout.specs.Expansions.{Wanted, register, number, equate, label, register_label, wanted_register, one_register, wanted_label, one_label, label_last, register_and_label, number_or, number_last, wanted}
use Rattle.layout.specs.Expansions.{word, li_load, li_held, looked_up, built, instructions, Expanded, expansion}
use Rattle.layout.specs.Layouts.{emission}
use Rattle.layout.specs.Code.Fits.{Each}
use Rattle.layout.proofs.Gives.{Comes, Gives}

abbrev pub IsWord : ℕ → Type 0
IsWord w = w < 2 ^ 32

-- what the encoder answers
checked_fits : (a b : Bool) (w : ℕ) → IsWord w → Gives IsWord (checked a b w)
checked_fits false b w h = tt
checked_fits true false w h = tt
checked_fits true true w h = h

form_fits : (f : Form) → Gives IsWord (word_of f)
form_fits (R opcode funct3 funct7 rd rs1 rs2) =
    checked_fits (is_register rd && is_register rs1 && is_register rs2) true _ (joined_below (r_fields opcode funct3 funct7 rd rs1 rs2))
form_fits (I opcode funct3 rd rs1 imm) =
    checked_fits (is_register rd && is_register rs1) (is_signed12 imm) _ (joined_below (i_fields opcode funct3 rd rs1 (bits 32 imm)))
form_fits (Shift opcode funct3 funct7 rd rs1 shamt) =
    checked_fits (is_register rd && is_register rs1) (is_shift shamt) _ (joined_below (r_fields opcode funct3 funct7 rd rs1 shamt))
form_fits (S opcode funct3 rs1 rs2 imm) =
    checked_fits (is_register rs1 && is_register rs2) (is_signed12 imm) _ (joined_below (s_fields opcode funct3 rs1 rs2 (bits 32 imm)))
form_fits (B opcode funct3 rs1 rs2 imm) =
    checked_fits (is_register rs1 && is_register rs2) (is_branch imm) _ (joined_below (b_fields opcode funct3 rs1 rs2 (bits 32 imm)))
form_fits (U opcode rd imm) = checked_fits (is_register rd) (is_upper imm) _ (joined_below (u_fields opcode rd (bits 32 imm)))
form_fits (J opcode rd imm) = checked_fits (is_register rd) (is_jump imm) _ (joined_below (j_fields opcode rd (bits 32 imm)))

-- a word for each instruction
abbrev WordEach : List Instruction → List ℕ → Type 0
WordEach is ws = (length ws ≡ length is) × Each IsWord ws

pub encoded_each : (is : List Instruction) → Gives (WordEach is) (encoded is)
unfolding encoded
encoded_each [] = (refl, tt)
encoded_each (i ∷ is) = by (encoding i) (encoded is) (form_fits (form_of i)) (encoded_each is)
  where
    by : (a : Result ℕ ℕ) (x : Result (List ℕ) ℕ) → Gives IsWord a → Gives (WordEach is) x
        → Gives (WordEach (i ∷ is)) (and_then a (λ w. mapped (λ ws. w ∷ ws) x))
    by (Ok w) (Ok ws) h g = (ap suc g.0, (h, g.1))
    by (Ok w) (Err n) h g = tt
    by (Err n) x h g = tt

-- no refusal
abbrev Taken : Result (List ℕ) ℕ → Type 0
Taken x = Comes (λ _. Unit) (λ _. ⊥) x

-- "18 pseudo operand count, bad register", "19 li operand", "20 label not found"
abbrev pub PseudoRefusal : ℕ → Type 0
PseudoRefusal n = is_in pseudo_numbers n ≡ true

-- so many instructions, and the encoder takes them all
abbrev BuiltFits : ℕ → List Instruction → Type 0
BuiltFits k is = (length is ≡ k) × Taken (encoded is)

abbrev ExpandedFits : ℕ → Expanded → Type 0
ExpandedFits k x = Comes (BuiltFits k) PseudoRefusal x

-- ---- operands

-- a register that was read
read_right : (a : List ℕ) (n : ℕ) → register_of a ≡ Some n → is_register n ≡ true
read_right a n e = le-leb n 31 (omega (arith, register_below a n e))

-- the operands of all but li: registers that are right, and neither a number nor an equate
abbrev WordWanted : Wanted → Type 0
WordWanted (register rd) = is_register rd ≡ true
WordWanted (number rd z) = ⊥
WordWanted (equate rd b) = ⊥
WordWanted (label a) = Unit
WordWanted (register_label rd a) = is_register rd ≡ true

abbrev WordsWanted : Result Wanted ℕ → Type 0
WordsWanted x = Comes WordWanted PseudoRefusal x

one_register_lem : (ops : List (List ℕ)) → WordsWanted (one_register ops)
one_register_lem [] = refl
one_register_lem (a ∷ []) = by (register_of a) refl
  where
    by : (o : Option ℕ) → register_of a ≡ o → WordsWanted (wanted_register o)
    by None e = refl
    by (Some n) e = read_right a n e
one_register_lem (a ∷ b ∷ more) = refl

one_label_lem : (ops : List (List ℕ)) → WordsWanted (one_label ops)
one_label_lem [] = refl
one_label_lem (a ∷ []) = by (register_of a)
  where
    by : (o : Option ℕ) → WordsWanted (wanted_label a o)
    by None = tt
    by (Some n) = refl
one_label_lem (a ∷ b ∷ more) = refl

register_label_lem : (ops : List (List ℕ)) → WordsWanted (register_and_label ops)
register_label_lem [] = refl
register_label_lem (a ∷ []) = refl
register_label_lem (a ∷ b ∷ []) = by (register_of a) refl
  where
    by : (o : Option ℕ) → register_of a ≡ o → WordsWanted (or_refuse 18 (register_before (Some b) o) label_last)
    by None e = refl
    by (Some n) e = read_right a n e
register_label_lem (a ∷ b ∷ c ∷ more) = refl

-- ---- names, and the instructions

module _ (const : List ℕ → Option ℤ) (place : List ℕ → Option ℕ) where
  -- all but li: by the instructions of a register and 32 bits
  word_fits : (p : Pseudo) (k : ℕ) → ((rd : ℕ) (b : ℕ) → is_register rd ≡ true → BuiltFits k (built p rd b)) → (ops : List (List ℕ)) → WordsWanted (wanted p ops)
      → ExpandedFits k (mapped (instructions p) (and_then (wanted p ops) (looked_up const place)))
  word_fits p k f ops h = by (wanted p ops) h
    where
      address : (rd : ℕ) → is_register rd ≡ true → (o : Option ℕ) → ExpandedFits k (mapped (instructions p) (or_refuse 20 o (λ n. Ok (word rd n))))
      address rd r None = refl
      address rd r (Some n) = f rd n r

      by : (x : Result Wanted ℕ) → WordsWanted x → ExpandedFits k (mapped (instructions p) (and_then x (looked_up const place)))
      by (Err n) h = h
      by (Ok (register rd)) h = f rd 0 h
      by (Ok (number rd z)) h = absurd h
      by (Ok (equate rd b)) h = absurd h
      by (Ok (label a)) h = address x0 refl (place a)
      by (Ok (register_label rd a)) h = address rd h (place a)

  -- li: a single addi of a number that it holds, or the pair of any
  load_fits : (one : Bool) (rd : ℕ) (z : ℤ) → is_register rd ≡ true → (one ≡ true → is_signed12 z ≡ true)
      → BuiltFits (cond one 1 2) (instructions Li (li_load one rd z))
  unfolding encoded
  load_fits true rd z r h = (refl, rw (r, h refl) tt)
  load_fits false rd z r h = (refl, rw (r, upper_clear (bits 32 z), lower_small (bits 32 z)) tt)

  number_fits : (rd : ℕ) (b : List ℕ) (o : Option ℤ) → is_register rd ≡ true
      → ExpandedFits (cond (is_single o) 1 2) (mapped (instructions Li) (looked_up const place (number_or rd b o)))
  number_fits rd b (Some z) r = load_fits (is_signed12 z) rd z r (λ e. e)
  number_fits rd b None r = by (starts_with (text "'") b) (const b)
    where
      last : (z : ℤ) (c : Bool) → ExpandedFits 2 (mapped (instructions Li) (mapped (li_load false rd) (cond c (Ok z) (Err 19))))
      last z true = load_fits false rd z r (λ e. absurd (false≢true e))
      last z false = refl

      by : (c : Bool) (o : Option ℤ) → ExpandedFits 2 (mapped (instructions Li) (mapped (li_load false rd) (cond c (Err 19) (li_held o))))
      by true o = refl
      by false None = refl
      by false (Some z) = last z (is_signed32 z)

  li_fits : (ops : List (List ℕ)) → ExpandedFits (li_words ops) (mapped (instructions Li) (and_then (wanted Li ops) (looked_up const place)))
  li_fits [] = refl
  li_fits (a ∷ []) = refl
  li_fits (a ∷ b ∷ []) = by (register_of a) refl
    where
      by : (o : Option ℕ) → register_of a ≡ o
          → ExpandedFits (cond (is_single (imm_of b)) 1 2)
          (mapped (instructions Li) (and_then (or_refuse 18 (register_before (Some b) o) number_last) (looked_up const place)))
      by None e = refl
      by (Some n) e = number_fits n b (imm_of b) (read_right a n e)
  li_fits (a ∷ b ∷ c ∷ more) = refl

-- the words of an item: as many as it reserves
abbrev pub WordsFit : Option Pseudo → List ℕ → List ℕ → Type 0
WordsFit item s ws = (length ws ≡ reserved_words item s) × Each IsWord ws

module _ (const : List ℕ → Option ℤ) (place : List ℕ → Option ℕ) where
  -- each of the nine: its words, and that the encoder takes them
  pub expansion_fits : (p : Pseudo) (s : List ℕ) → ExpandedFits (pseudo_words p s) (expansion const place p (pseudo_operands s))
  unfolding expansion encoded
  expansion_fits Li s = li_fits const place (pseudo_operands s)
  expansion_fits La s = word_fits const place La 2 (λ rd b r. (refl, rw (r, upper_clear b, lower_small b) tt)) (pseudo_operands s) (register_label_lem (pseudo_operands s))
  expansion_fits Push s = word_fits const place Push 2 (λ rd b r. (refl, rw r tt)) (pseudo_operands s) (one_register_lem (pseudo_operands s))
  expansion_fits Pop s = word_fits const place Pop 2 (λ rd b r. (refl, rw r tt)) (pseudo_operands s) (one_register_lem (pseudo_operands s))
  expansion_fits Print s = word_fits const place Print 3 (λ rd b r. (refl, rw r tt)) (pseudo_operands s) (one_register_lem (pseudo_operands s))
  expansion_fits PrintStr s = word_fits const place PrintStr 11 (λ rd b r. (refl, rw (upper_clear b, lower_small b) tt)) (pseudo_operands s) (one_label_lem (pseudo_operands s))
  expansion_fits Read s = word_fits const place Read 6 (λ rd b r. (refl, rw (upper_clear b, lower_small b) tt)) (pseudo_operands s) (one_label_lem (pseudo_operands s))
  expansion_fits ReadByte s = word_fits const place ReadByte 4 (λ rd b r. (refl, rw (upper_clear b, lower_small b) tt)) (pseudo_operands s) (one_label_lem (pseudo_operands s))
  expansion_fits Random s = word_fits const place Random 8 (λ rd b r. (refl, rw r tt)) (pseudo_operands s) (one_register_lem (pseudo_operands s))

  -- what an item emits, or 18, 19 or 20
  pub emission_fits : (item : Option Pseudo) (s : List ℕ) → Comes (WordsFit item s) PseudoRefusal (emission const place item s)
  emission_fits None s = (refl, (omega arith, tt))
  emission_fits (Some p) s = by (expansion const place p (pseudo_operands s)) (expansion_fits p s)
    where
      all : (is : List Instruction) (x : Result (List ℕ) ℕ) → length is ≡ pseudo_words p s → Taken x → Gives (WordEach is) x
          → Comes (WordsFit (Some p) s) PseudoRefusal x
      all is (Ok ws) e k g = (g.0 ∙ e, g.1)
      all is (Err n) e k g = absurd k

      by : (x : Expanded) → ExpandedFits (pseudo_words p s) x → Comes (WordsFit (Some p) s) PseudoRefusal (and_then x encoded)
      by (Ok is) h = all is (encoded is) h.0 h.1 (encoded_each is)
      by (Err n) h = h

  pub emission-sized : (item : Option Pseudo) (s vs : List ℕ) → emission const place item s ≡ Ok vs → length vs ≡ reserved_words item s
  emission-sized item s vs e = (rw e at (emission_fits item s)).0

  -- an item is refused by 18, 19 or 20 alone
  pub emission-refused : (item : Option Pseudo) (s : List ℕ) (n : ℕ) → emission const place item s ≡ Err n → PseudoRefusal n
  emission-refused item s n e = rw e at (emission_fits item s)
