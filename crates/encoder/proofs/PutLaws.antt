-- Instructions encoded one after the other, their words put into what is lent.
use Rattle.std.proofs.Common.{◌≡◌, ℕ, zero, suc, ◌+◌, ◌-◌, ◌<◌, ◌≤◌, List, [], ◌∷◌, ◌++◌, length, get_or, drop, take, map, set, sym, refl, ap, ◌∙◌, append-nil, add-one, arith, length-append, length-take-le, drop-cons}
use native.Mathlib.Nat.{sub-zero}
use lib.Seq.{set_at, append_snoc, take_all}
use Rattle.std.proofs.Math.ListN.{get_or-map}
use Rattle.std.proofs.Math.Seq.{split_at}
use Rattle.std.proofs.lemmas.List.{take_more, get_or-take, length-map}
use Rattle.std.proofs.Common.{Result, Ok, Err}
use Rattle.numbers.specs.Results.{and_then, mapped}
use Rattle.numbers.specs.Code.Meanings.{Agrees}
use Rattle.encoder.specs.declared.error.EncodeError.{EncodeError}
use Rattle.encoder.specs.declared.sequences.Slot.{Slot}
use Rattle.encoder.specs.Encoding.{encoding, encoded}
use Rattle.encoder.specs.declared.instruction.Instruction.{Instruction}
use Rattle.encoder.specs.declared.instruction.Instruction.TheVariants.{Add}
use Rattle.encoder.specs.Table.{x0}
use Rattle.encoder.specs.Code.Meanings.{refusal_number, numbered}
use Rattle.encoder.specs.Code.Slots.{slot_at, slots_from}
use Rattle.encoder.specs.Code.Words.{WordsPut}

-- a word is put behind others
word_put : (d d' : List ℕ) (k : ℕ) (ws : List ℕ) (w : ℕ) → WordsPut d d' k ws → k < length d → WordsPut d (set d' k w) (k + 1) (ws ++ w ∷ [])
word_put d d' k ws w p g =
    record {
      counted = omega (arith, p.counted, length-append ws (w ∷ []));
      put = rw (p.put, drop-cons d k 0 g, add-one k)
          (set_at ws (get_or d k 0) (drop (suc k) d) w k (sym p.counted) ∙ sym (append_snoc ws w (drop (suc k) d)));
    }

-- the first k instructions' words are put; what all come to is these, and then what the others come to
pub record Putting (xs : List Slot) (n : ℕ) (d d' : List ℕ) (k : ℕ) : Type 0 where
  pub words : List ℕ
  pub within : k ≤ n
  pub counted : k ≡ length words
  pub put : d' ≡ words ++ drop k d
  pub rest : encoded (slots_from xs 0 n) ≡ mapped (λ (vs : List ℕ). words ++ vs) (encoded (slots_from xs k (n - k)))

-- words in front of words, twice
mapped_both : (ws : List ℕ) (w : ℕ) (x : Result (List ℕ) ℕ)
    → mapped (λ (vs : List ℕ). ws ++ vs) (mapped (λ (vs : List ℕ). w ∷ vs) x) ≡ mapped (λ (vs : List ℕ). (ws ++ w ∷ []) ++ vs) x
mapped_both ws w (Ok vs) = ap Ok (sym (append_snoc ws w vs))
mapped_both ws w (Err m) = refl

mapped-none : (x : Result (List ℕ) ℕ) → x ≡ mapped (λ (vs : List ℕ). [] ++ vs) x
mapped-none (Ok vs) = refl
mapped-none (Err m) = refl

module _ (xs : List Slot) (n : ℕ) (d : List ℕ) where
  pub put-none : Putting xs n d d 0
  put-none = record { words = []; within = omega arith; counted = refl; put = refl; rest = rw (sub-zero n) (mapped-none (encoded (slots_from xs 0 n))) }

  module _ (d' : List ℕ) (k : ℕ) (p : Putting xs n d d' k) where
    abbrev all : Result (List ℕ) ℕ
    all = encoded (slots_from xs 0 n)

    -- the kth instruction, and those after it
    next : k < n → encoded (slots_from xs k (n - k)) ≡ and_then (encoding (slot_at xs k)) (λ w. mapped (λ ws. w ∷ ws) (encoded (slots_from xs (k + 1) (n - (k + 1)))))
    unfolding encoded
    next h =
        let left : n - k ≡ suc (n - (k + 1)) = omega arith in
        rw (left, add-one k) refl

    pub put_more : (w : ℕ) → k < n → k < length d → encoding (slot_at xs k) ≡ Ok w → Putting xs n d (set d' k w) (k + 1)
    put_more w h g e =
        let more : WordsPut d (set d' k w) (k + 1) (p.words ++ w ∷ []) =
        word_put d d' k p.words w (record { counted = p.counted; put = p.put }) g in
        record {
          words = p.words ++ w ∷ [];
          within = omega arith;
          counted = more.counted;
          put = more.put;
          rest = p.rest ∙ rw (next h, e) (mapped_both p.words w (encoded (slots_from xs (k + 1) (n - (k + 1)))));
        }

    pub put_stops : (m : ℕ) → k < n → encoding (slot_at xs k) ≡ Err m → Agrees (WordsPut d d') (Err m) all
    put_stops m h e = rw (p.rest, next h, e) refl

    pub put_all : n ≤ k → Agrees (WordsPut d d') (Ok n) all
    unfolding encoded
    put_all h =
        let left : n - k ≡ 0 = omega arith in
        let is : n ≡ k = omega (arith, p.within) in
        rw (p.rest, left, append-nil p.words) (record { counted = is ∙ p.counted; put = rw is p.put })

-- so many slots have so many instructions
pub slots_size : (xs : List Slot) (k n : ℕ) → length (slots_from xs k n) ≡ n
slots_size xs k zero = refl
slots_size xs k (suc n) = ap suc (slots_size xs (suc k) n)

-- and the slots that stand at a place are theirs
pub slots_taken : (xs : List Slot) (k n : ℕ) → k + n ≤ length xs → slots_from xs k n ≡ map (λ (s : Slot). s.inst) (take n (drop k xs))
slots_taken xs k zero h = refl
slots_taken xs k (suc n) h =
    rw (drop-cons xs k (record { inst = Add x0 x0 x0 }) (omega (arith, h))) (ap (λ (is : List Instruction). slot_at xs k ∷ is) (slots_taken xs (suc k) n (omega (arith, h))))

-- words in front of words
and_mapped : (x : Result ℕ ℕ) (y z : Result (List ℕ) ℕ)
    → and_then x (λ w. mapped (λ vs. w ∷ vs) (and_then y (λ ws. mapped (λ vs. ws ++ vs) z)))
    ≡ and_then (and_then x (λ w. mapped (λ vs. w ∷ vs) y)) (λ ws. mapped (λ vs. ws ++ vs) z)
and_mapped (Ok w) (Ok ws) (Ok vs) = refl
and_mapped (Ok w) (Ok ws) (Err n) = refl
and_mapped (Ok w) (Err m) z = refl
and_mapped (Err m) y z = refl

-- instructions' words, then those of the instructions behind them
pub encoded-append : (is js : List Instruction) → encoded (is ++ js) ≡ and_then (encoded is) (λ ws. mapped (λ vs. ws ++ vs) (encoded js))
unfolding encoded
encoded-append [] js = mapped-none (encoded js)
encoded-append (i ∷ is) js = rw (encoded-append is js) (and_mapped (encoding i) (encoded is) (encoded js))

-- ---- the words of the first k, whatever stands for instructions and however the others end

-- of no instruction no word is put; where the first k are all, their words are all words
module _ (is : List Instruction) (d : List ℕ) where
  pub first-none : Agrees (WordsPut d d) (Ok 0) (encoded (take 0 is))
  unfolding encoded
  first-none = record { counted = refl; put = refl }

  pub first_all : (d' : List ℕ) (k : ℕ) → length is ≤ k → Agrees (WordsPut d d') (Ok k) (encoded (take k is)) → Agrees (WordsPut d d') (Ok k) (encoded is)
  first_all d' k h p = rw (take_all k is h) at p

-- so many of them are so many instructions
pub first_size : {X : Type 0} (f : X → Instruction) (xs : List X) (n : ℕ) → n ≤ length xs → length (map f (take n xs)) ≡ n
first_size f xs n fits = length-map (take n xs) f ∙ length-take-le n xs fits

-- the instructions are f of the first n of xs; the words of the first k are put, and the answer for the next is r
module _ {X : Type 0} (f : X → Instruction) (xs : List X) (n : ℕ) (is : List Instruction) (v : map f (take n xs) ≡ is) (fits : n ≤ length xs)
    (d d' : List ℕ) (k : ℕ) (h : k < n) (none : X) (r : Result ℕ EncodeError) (e : numbered r ≡ encoding (f (get_or xs k none)))
    (p : Agrees (WordsPut d d') (Ok k) (encoded (take k is))) where
  inside : k < length is
  inside = rw (← v, first_size f xs n fits) h

  answer : numbered r ≡ encoding (get_or is k (f none))
  answer = rw (← v, get_or-map f (take n xs) k none, get_or-take n xs k none h) e

  -- a word is put behind theirs
  pub first_more : (w : ℕ) → r ≡ Ok w → length is ≤ length d → Agrees (WordsPut d (set d' k w)) (Ok (k + 1)) (encoded (take (k + 1) is))
  unfolding encoded
  first_more w q m = rw (take_more is k (f none) inside, encoded-append (take k is) (get_or is k (f none) ∷ []), ← answer, q) (go (encoded (take k is)) p)
    where
      go : (x : Result (List ℕ) ℕ) → Agrees (WordsPut d d') (Ok k) x → Agrees (WordsPut d (set d' k w)) (Ok (k + 1)) (and_then x (λ ws. Ok (ws ++ w ∷ [])))
      go (Ok ws) q = word_put d d' k ws w q (omega (arith, inside))
      go (Err m) q = q

  -- a refusal is that of all
  pub first_stops : (m : EncodeError) → r ≡ Err m → Agrees (WordsPut d d') (Err (refusal_number m)) (encoded is)
  unfolding encoded
  first_stops m q =
      let rest : List Instruction = drop (suc k) is in
      rw (ap encoded (split_at is k (f none) inside) ∙ encoded-append (take k is) (get_or is k (f none) ∷ rest), ← answer, q) (go (encoded (take k is)) p)
    where
      go : (x : Result (List ℕ) ℕ) → Agrees (WordsPut d d') (Ok k) x → Agrees (WordsPut d d') (Err (refusal_number m)) (and_then x (λ ws. Err (refusal_number m)))
      go (Ok ws) q = refl
      go (Err n) q = absurd q
