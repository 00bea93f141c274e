-- Records as numbers of four bytes: written and read one after the other.
use Prim.Native.Nat.{ℕ, suc, ◌+◌, ◌*◌, ◌/◌, ◌%◌, ◌≤◌, ◌<◌}
use native.Mathlib.Omega.{arith}
use mathlib.Core.Path.{◌≡◌, refl, sym, ap, ◌∙◌}
use mathlib.Core.List.{List, [], ◌∷◌, ◌++◌, map, append-nil}
use lib.ListN.{length, take, drop, get_or, set, length-append}
use Rattle.std.proofs.lemmas.List.{map-append, take_more, take_more_set, length-take-le, take-append-drop}
use Rattle.layout.specs.Bytes.{little_endian, put}
use Rattle.layout.specs.Records.{four, eight, field_bytes, four_at, eight_at}
use Rattle.layout.specs.Code.Tables.{words_at}
use Rattle.layout.proofs.ByteLaws.{length-little_endian, little_endian-low, eight_at_lem}
use Rattle.layout.proofs.TableLaws.{put-field}

-- the bytes of numbers of four bytes
abbrev pub bytes_of : List ℕ → List ℕ
bytes_of ws = field_bytes (map four ws)

length-bytes : (ws : List ℕ) → length (bytes_of ws) ≡ 4 * length ws
unfolding field_bytes
length-bytes [] = refl
length-bytes (w ∷ ws) =
    let e = length-append (little_endian 4 w) (bytes_of ws) in
    omega (arith, e, length-little_endian 4 w, length-bytes ws)

pub none_put : (at : ℕ) (xs : List ℕ) → xs ≡ put at (bytes_of []) xs
unfolding field_bytes
none_put at xs = let e : at + 0 ≡ at = omega arith in sym (ap (λ (k : ℕ). take at xs ++ [] ++ drop k xs) e ∙ ap (λ (ys : List ℕ). ys ++ drop at xs) (append-nil (take at xs)) ∙ take-append-drop at xs)

pub word_put : (at i : ℕ) (ws xs ys zs : List ℕ) → i < length ws → at + 4 * i ≤ length xs
    → ys ≡ put at (bytes_of (take i ws)) xs → zs ≡ put (at + 4 * i) (little_endian 4 (get_or ws i 0)) ys → zs ≡ put at (bytes_of (take (i + 1) ws)) xs
word_put at i ws xs ys zs h room p q =
    let w : ℕ = get_or ws i 0 in
    let on : map four (take (i + 1) ws) ≡ map four (take i ws) ++ (four w ∷ []) = ap (map four) (take_more ws i 0 h) ∙ map-append four (take i ws) (w ∷ []) in
    let sized = length-bytes (take i ws) in
    rw on
    (put-field at (at + 4 * i) (four w) (map four (take i ws)) xs ys zs (omega (arith, sized, length-take-le i ws (omega (arith, h)))) room p q)

words_more : (n : ℕ) (b : List ℕ) (at : ℕ) → words_at (n + 1) b at ≡ words_at n b at ++ (four_at b (at + 4 * n) ∷ [])
words_more n b at = let on : n + 1 ≡ suc n = omega arith in ap (λ (k : ℕ). words_at k b at) on

pub word_read : (b : List ℕ) (at i v : ℕ) (ws : List ℕ) → i < length ws → take i ws ≡ words_at i b at → v ≡ four_at b (at + 4 * i)
    → take (i + 1) (set ws i v) ≡ words_at (i + 1) b at
word_read b at i v ws h p q =
    take_more_set ws i v h ∙ ap (λ (xs : List ℕ). xs ++ (v ∷ [])) p ∙ ap (λ (k : ℕ). words_at i b at ++ (k ∷ [])) q ∙ sym (words_more i b at)

-- ---- eight bytes are four low ones and four high

four_and_four : (v : ℕ) → little_endian 4 (v % 4294967296) ++ little_endian 4 (v / 4294967296) ≡ little_endian 8 v
unfolding little_endian
four_and_four v =
    let high : v / 4294967296 ≡ v / 256 / 256 / 256 / 256 = omega arith in
    ap (λ (n : ℕ). little_endian 4 (v % 4294967296) ++ little_endian 4 n) high
    ∙ ap (λ (bs : List ℕ). bs ++ little_endian 4 (v / 256 / 256 / 256 / 256)) (little_endian-low 4 v)

pub halves_put : (start len line round v bits : ℕ) → bits ≡ v
    → field_bytes (four start ∷ four len ∷ four line ∷ four (bits % 4294967296) ∷ four (bits / 4294967296) ∷ four round ∷ [])
    ≡ field_bytes (four start ∷ four len ∷ four line ∷ eight v ∷ four round ∷ [])
unfolding field_bytes little_endian
halves_put start len line round v bits e =
    ap (λ (n : ℕ). field_bytes (four start ∷ four len ∷ four line ∷ four (n % 4294967296) ∷ four (n / 4294967296) ∷ four round ∷ [])) e
    ∙ ap (λ (bs : List ℕ). little_endian 4 start ++ (little_endian 4 len ++ (little_endian 4 line ++ (bs ++ field_bytes (four round ∷ []))))) (four_and_four v)

pub halves_read : (b : List ℕ) (at low high : ℕ) → at + 24 ≤ length b → low ≡ four_at b (at + 12) → high ≡ four_at b (at + 16)
    → low + 4294967296 * high ≡ eight_at b (at + 12)
halves_read b at low high h p q =
    let on : at + 16 ≡ at + 12 + 4 = omega arith in
    rw (p, q, on) (eight_at_lem b (at + 12) (omega (arith, h)))
