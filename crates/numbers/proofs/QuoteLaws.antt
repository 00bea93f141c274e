-- Where a string ends: its first quote or backslash, the next unescaped quote, and what stands behind that; what is answered for it.
use Prim.Native.Nat.{ℕ, zero, suc, ◌+◌, ◌-◌, min, ◌≤◌, ◌<◌}
use native.Mathlib.Nat.{add-zero, not-suc-le-zero}
use mathlib.Core.Path.{◌≡◌, refl, sym, ap, ◌∙◌}
use mathlib.Core.List.{List, [], ◌∷◌, ◌++◌}
use mathlib.Core.Bool.{Bool, true, false, cond, not, ◌&&◌, ◌||◌}
use Rattle.std.proofs.Common.{Option, None, Some}
use native.Mathlib.Omega.{arith}
use native.Mathlib.Numerals.{add-one}
use lib.Dec.{eqb, ltb}
use lib.ListN.{length, take, drop, get_or, drop_of_length-le, length-take, length-drop, length-append}
use lib.Seq.{drop-cons, drop-drop, get_or-drop, take-append_seam}
use borrow.Author.Tests.{eq-eqb, ne_eqb, lt-ltb, le-ltb, ltb-true, ltb-false}
use Rattle.numbers.specs.declared.text.Span.{Span}
use Rattle.numbers.specs.declared.strings.Quoted.{Quoted}
use Rattle.numbers.specs.Text.{text, byte, leading, leading_spaces, index_of}
use Rattle.numbers.specs.Code.Spans.{spanned}
use Rattle.numbers.proofs.Bools.{none-some}
use Rattle.numbers.proofs.Trims.{drop-take}
use Rattle.numbers.proofs.Places.{index_from, index_within, index_take}
use Rattle.numbers.specs.Strings.{decoded, to_quote, is_comment, nothing_beside, quoted_of, opened_of, string_bytes}
use Rattle.numbers.specs.Code.Strings.{size_of, bytes_of, decoded_bytes, plain_len, sized, quoted_from, quoted_at}
use Rattle.numbers.proofs.CharLaws.{byte_inside, size_after, size_plain, size_short, decoded-plain}

-- ---- the first quote or backslash

-- from a place before it on
plain-from : (n : ℕ) (s : List ℕ) → n ≤ plain_len s → n + plain_len (drop n s) ≡ plain_len s
plain-from n s h = omega (arith, index_from 34 n s (omega arith), index_from 92 n s (omega arith))

-- and between two places
pub plain_on : (s : List ℕ) (at i : ℕ) → at ≤ i → i ≤ at + plain_len (drop at s) → i + plain_len (drop i s) ≡ at + plain_len (drop at s)
plain_on s at i h k =
    let there : at + (i - at) ≡ i = omega arith in
    omega (arith, rw (drop-drop (i - at) at s, there) at (plain-from (i - at) (drop at s) (omega arith)))

pub plain-within : (s : List ℕ) (at : ℕ) → at ≤ length s → at + plain_len (drop at s) ≤ length s
plain-within s at h = omega (arith, index_within 34 (drop at s), length-drop at s)

-- those before it are neither
pub plain_leading : (s : List ℕ) → plain_len s ≡ leading (λ x. not (eqb x 34) && not (eqb x 92)) s
unfolding leading index_of
plain_leading [] = omega arith
plain_leading (x ∷ xs) = go (eqb x 34) (eqb x 92) (plain_leading xs)
  where
    rest : ℕ
    rest = leading (λ y. not (eqb y 34) && not (eqb y 92)) xs

    go : (p q : Bool) → plain_len xs ≡ rest → min (cond p 0 (suc (index_of 34 xs))) (cond q 0 (suc (index_of 92 xs))) ≡ cond (not p && not q) (suc rest) 0
    go true q ih = omega arith
    go false true ih = omega arith
    go false false ih = omega (arith, ih)

-- is it among the first n bytes?
pub plain_below : (n : ℕ) (s : List ℕ) → ltb (index_of 34 s) n || ltb (index_of 92 s) n ≡ ltb (plain_len s) n
plain_below n s = go (ltb (index_of 34 s) n) (ltb (index_of 92 s) n) refl refl
  where
    go : (p q : Bool) → ltb (index_of 34 s) n ≡ p → ltb (index_of 92 s) n ≡ q → p || q ≡ ltb (plain_len s) n
    go true q e f = sym (lt-ltb (plain_len s) n (omega (arith, ltb-true (index_of 34 s) n e)))
    go false true e f = sym (lt-ltb (plain_len s) n (omega (arith, ltb-true (index_of 92 s) n f)))
    go false false e f = sym (le-ltb (plain_len s) n (omega (arith, ltb-false (index_of 34 s) n e, ltb-false (index_of 92 s) n f)))

-- ---- the next unescaped quote

-- from a place before a quote or backslash on
quote_plain : (n : ℕ) (s : List ℕ) → n ≤ plain_len s → n + to_quote false (drop n s) ≡ to_quote false s
unfolding to_quote index_of
quote_plain zero s h = omega arith
quote_plain (suc n) [] h = absurd (not-suc-le-zero h)
quote_plain (suc n) (x ∷ xs) h = go (eqb x 34) (eqb x 92) (quote_plain n xs) h
  where
    go : (p q : Bool) → (n ≤ plain_len xs → n + to_quote false (drop n xs) ≡ to_quote false xs)
        → suc n ≤ min (cond p 0 (suc (index_of 34 xs))) (cond q 0 (suc (index_of 92 xs))) → suc n + to_quote false (drop n xs) ≡ cond p 0 (suc (to_quote q xs))
    go true q ih k = absurd (omega arith)
    go false true ih k = absurd (omega arith)
    go false false ih k = omega (arith, ih (omega arith))

-- and between two places
pub quote_on : (s : List ℕ) (at i : ℕ) → at ≤ i → i ≤ at + plain_len (drop at s) → i + to_quote false (drop i s) ≡ at + to_quote false (drop at s)
quote_on s at i h k =
    let there : at + (i - at) ≡ i = omega arith in
    omega (arith, rw (drop-drop (i - at) at s, there) at (quote_plain (i - at) (drop at s) (omega arith)))

-- by the byte at a place: a quote, a backslash and a byte behind it, a backslash alone, the end
module _ (s : List ℕ) (i : ℕ) where
  pub quote_here : i < length s → get_or s i 0 ≡ 34 → to_quote false (drop i s) ≡ 0
  unfolding to_quote
  quote_here h e = rw (drop-cons s i 0 h, eq-eqb _ _ e) refl

  -- where a quote or backslash stands, and it is no quote
  module _ (h : i < length s) (p : plain_len (drop i s) ≡ 0) (n : get_or s i 0 ≡ 34 → ⊥) where
    backslash : eqb (get_or s i 0) 92 ≡ true
    unfolding index_of
    backslash = go (eqb (get_or s i 0) 92) (rw (drop-cons s i 0 h, ne_eqb _ _ n) at p)
      where
        go : (t : Bool) → min (suc (index_of 34 (drop (suc i) s))) (cond t 0 (suc (index_of 92 (drop (suc i) s)))) ≡ 0 → t ≡ true
        go true k = refl
        go false k = absurd (omega arith)

    pub quote_escaped : i + 2 ≤ length s → to_quote false (drop i s) ≡ suc (suc (to_quote false (drop (i + 2) s)))
    unfolding to_quote
    quote_escaped k =
        let two : i + 2 ≡ suc (suc i) = omega arith in
        rw (two, drop-cons s i 0 h, ne_eqb _ _ n, backslash, drop-cons s (suc i) 0 (omega arith)) refl

    pub quote_cut : length s ≤ i + 1 → to_quote false (drop i s) ≡ 1
    unfolding to_quote
    quote_cut k = rw (drop-cons s i 0 h, ne_eqb _ _ n, backslash, drop_of_length-le s {i = suc i} (omega arith)) refl

  pub quote_end : length s ≤ i → to_quote false (drop i s) ≡ 0
  unfolding to_quote
  quote_end h = rw (drop_of_length-le s h) refl

-- ---- behind the string

-- nothing but white space to the end; or another byte behind the white space
pub beside_end : (s : List ℕ) (n : ℕ) → n ≡ leading_spaces s → length s ≤ n → nothing_beside s ≡ true
unfolding nothing_beside
beside_end s n e h = rw (← e, drop_of_length-le s h) refl

pub beside_at : (s : List ℕ) (n : ℕ) → n ≡ leading_spaces s → n < length s → nothing_beside s ≡ is_comment (get_or s n 0)
unfolding nothing_beside
beside_at s n e h = rw (← e, drop-cons s n 0 h) refl

-- ---- a string, from behind its first quote on

-- the first quote or backslash from a place on
module _ (s : List ℕ) (at mark : ℕ) (h : at ≤ length s) (m : mark ≡ at + plain_len (drop at s)) where
  pub mark_within : mark ≤ length s
  mark_within = omega (arith, plain-within s at h)

  pub mark_rests : plain_len (drop mark s) ≡ 0
  mark_rests = omega (arith, plain_on s at mark (omega arith) (omega arith))

  -- then the next unescaped quote
  module _ (end : ℕ) (q : end ≡ mark + to_quote false (drop mark s)) where
    long : to_quote false (drop at s) ≡ end - at
    long = omega (arith, quote_on s at mark (omega arith) (omega arith))

    pub unclosed : length s ≤ end → quoted_of (drop at s) ≡ None
    unfolding quoted_of
    unclosed k = rw (le-ltb (to_quote false (drop at s)) (length (drop at s)) (omega (arith, long, length-drop at s))) refl

    -- it is closed; by what stands behind it
    module _ (k : end < length s) where
      closes : ltb (to_quote false (drop at s)) (length (drop at s)) ≡ true
      closes = lt-ltb (to_quote false (drop at s)) (length (drop at s)) (omega (arith, long, length-drop at s))

      behind : drop (suc (to_quote false (drop at s))) (drop at s) ≡ drop (end + 1) s
      behind =
          let e : at + suc (to_quote false (drop at s)) ≡ end + 1 = omega (arith, long) in
          drop-drop (suc (to_quote false (drop at s))) at s ∙ ap (λ (n : ℕ). drop n s) e

      pub beside : nothing_beside (drop (end + 1) s) ≡ false → quoted_of (drop at s) ≡ None
      unfolding quoted_of
      beside c = rw (closes, behind, c) refl

      closed : nothing_beside (drop (end + 1) s) ≡ true → quoted_of (drop at s) ≡ decoded (take (end - at) (drop at s))
      unfolding quoted_of
      closed c = rw (closes, behind, c, long) refl

      -- its size: the bytes before its first escape, and what the rest stands for
      pub counted : nothing_beside (drop (end + 1) s) ≡ true → (o : Option ℕ) → o ≡ size_of (decoded (take (end - mark) (drop mark s)))
          → sized (record { start = at; len = end - at }) (size_after (mark - at) o) ≡ quoted_from s at (quoted_of (drop at s))
      counted c o e =
          let n : ℕ = mark - at in
          let there : at + n ≡ mark = omega arith in
          let parts : n + (end - mark) ≡ end - at = omega arith in
          let t : List ℕ = take (end - at) (drop at s) in
          let behind_n : drop n t ≡ take (end - mark) (drop mark s) =
          rw (parts, drop-drop n at s, there) at (drop-take n (end - mark) (drop at s) (omega (arith, length-drop at s))) in
          let plain : n ≤ index_of 92 t = rw (index_take 92 (end - at) (drop at s)) (omega arith) in
          rw (closed c, long, e, ← behind_n, ← size_plain n t plain) refl

      pub counted_few : (n : ℕ) → Some n ≡ size_of (decoded (take (end - mark) (drop mark s))) → mark - at + n ≤ length s
      counted_few n e =
          let rest : List ℕ = take (end - mark) (drop mark s) in
          omega (arith, size_short n rest e, length-take (end - mark) (drop mark s))

-- ---- what stands behind a directive

-- by the byte behind the white space: no quote, or a quote
module _ (s : List ℕ) (n : ℕ) (e : n ≡ leading_spaces s) where
  pub opened_not : (get_or s n 0 ≡ 34 → ⊥) → None ≡ quoted_at s
  unfolding quoted_at string_bytes
  opened_not k = rw (← e, go (drop n s) (get_or-drop n s 0 0 ∙ rw (add-zero n) refl)) refl
    where
      go : (t : List ℕ) → get_or t 0 0 ≡ get_or s n 0 → opened_of t ≡ None
      go [] f = refl
      go (x ∷ xs) f = rw (ne_eqb x 34 (λ g. k (sym f ∙ g))) refl

  module _ (k : get_or s n 0 ≡ 34) where
    pub opened_inside : n + 1 ≤ length s
    opened_inside = omega (arith, byte_inside s n (omega arith))

    pub opened_at : quoted_from s (n + 1) (quoted_of (drop (n + 1) s)) ≡ quoted_at s
    unfolding quoted_at string_bytes
    opened_at = rw (← e, add-one n, drop-cons s n 0 (omega (arith, opened_inside)), eq-eqb _ _ k) refl

-- ---- what is answered

-- a string's bytes, and where they are read
opened_some : (t bs : List ℕ) → opened_of t ≡ Some bs → quoted_of (drop 1 t) ≡ Some bs
opened_some [] bs e = absurd (none-some e)
opened_some (x ∷ xs) bs e = go (eqb x 34) e
  where
    go : (t : Bool) → cond t (quoted_of xs) None ≡ Some bs → quoted_of xs ≡ Some bs
    go true k = k
    go false k = absurd (none-some k)

closed_some : (s bs : List ℕ) → quoted_of s ≡ Some bs → (to_quote false s < length s) × (decoded (take (to_quote false s) s) ≡ Some bs)
unfolding quoted_of
closed_some s bs e = go (ltb (to_quote false s) (length s)) (nothing_beside (drop (suc (to_quote false s)) s)) refl e
  where
    go : (a b : Bool) → ltb (to_quote false s) (length s) ≡ a → cond (a && b) (decoded (take (to_quote false s) s)) None ≡ Some bs
        → (to_quote false s < length s) × (decoded (take (to_quote false s) s) ≡ Some bs)
    go true true h k = (ltb-true _ _ h, k)
    go true false h k = absurd (none-some k)
    go false b h k = absurd (none-some k)

read_some : (s bs : List ℕ) → string_bytes s ≡ Some bs
    → (to_quote false (drop (leading_spaces s + 1) s) < length (drop (leading_spaces s + 1) s))
    × (decoded (spanned s (record { start = leading_spaces s + 1; len = to_quote false (drop (leading_spaces s + 1) s) })) ≡ Some bs)
unfolding string_bytes spanned
read_some s bs e = closed_some (drop (leading_spaces s + 1) s) bs (rw (drop-drop 1 (leading_spaces s) s) at (opened_some (drop (leading_spaces s) s) bs e))

sized-some : (p : Span) (o : Option (List ℕ)) (q : Quoted) → sized p (size_of o) ≡ Some q
    → (q.part ≡ p) × (o ≡ Some (bytes_of o)) × (q.size ≡ length (bytes_of o))
sized-some p None q e = absurd (none-some e)
sized-some p (Some bs) q e =
    let same : q ≡ record { part = p; size = length bs } = cc in
    (ap (λ (x : Quoted). x.part) same, refl, ap (λ (x : Quoted). x.size) same)

-- a string: its text lies within what is read, and it stands for the string's bytes
module _ (s : List ℕ) (q : Quoted) (e : quoted_at s ≡ Some q) where
  abbrev at : ℕ
  at = leading_spaces s + 1

  known : (q.part ≡ record { start = at; len = to_quote false (drop at s) }) × (string_bytes s ≡ Some (bytes_of (string_bytes s)))
      × (q.size ≡ length (bytes_of (string_bytes s)))
  unfolding quoted_at
  known = sized-some (record { start = at; len = to_quote false (drop at s) }) (string_bytes s) q e

  pub quoted_within : q.part.start + q.part.len ≤ length s
  quoted_within = rw known.0 (omega (arith, (read_some s _ known.1).0, length-drop at s))

  same_bytes : decoded (spanned s q.part) ≡ Some (bytes_of (string_bytes s))
  same_bytes = rw known.0 (read_some s _ known.1).1

  pub quoted_decoded : decoded (spanned s q.part) ≡ Some (decoded_bytes (spanned s q.part))
  quoted_decoded = rw same_bytes refl

  pub quoted_bytes : string_bytes s ≡ Some (decoded_bytes (spanned s q.part))
  quoted_bytes = known.1 ∙ sym same_bytes ∙ quoted_decoded

  pub quoted_size : q.size ≡ length (decoded_bytes (spanned s q.part))
  quoted_size = known.2 ∙ ap (λ o. length (bytes_of o)) (sym same_bytes)

-- no string
pub quoted_none : (s : List ℕ) → quoted_at s ≡ None → string_bytes s ≡ None
unfolding quoted_at
quoted_none s e = go (string_bytes s) e
  where
    go : (o : Option (List ℕ)) → quoted_from s (leading_spaces s + 1) o ≡ None → o ≡ None
    go None k = refl
    go (Some bs) k = absurd (none-some (sym k))

-- ---- punctuation

-- without a quote and a backslash before it, a quote is the next unescaped one
quote_behind : (s : List ℕ) → plain_len s ≡ length s → to_quote false (s ++ text "\"") ≡ length s
unfolding to_quote index_of
quote_behind [] h = refl
quote_behind (x ∷ xs) h = go (eqb x 34) (eqb x 92) (quote_behind xs) h
  where
    go : (p q : Bool) → (plain_len xs ≡ length xs → to_quote false (xs ++ text "\"") ≡ length xs)
        → min (cond p 0 (suc (index_of 34 xs))) (cond q 0 (suc (index_of 92 xs))) ≡ suc (length xs) → cond p 0 (suc (to_quote q (xs ++ text "\""))) ≡ suc (length xs)
    go true q ih k = absurd (omega arith)
    go false true ih k = absurd (omega arith)
    go false false ih k = omega (arith, ih (omega arith))

-- "Punctuation in display strings": between two quotes every text without a quote and a backslash stands for itself, whatever colons, comment
-- marks and white space it has (by document 01's definition too: `string_between`)
pub punctuation : (s : List ℕ) → index_of (byte "\"") s ≡ length s → index_of (byte "\\") s ≡ length s → string_bytes (text "\"" ++ s ++ text "\"") ≡ Some s
unfolding string_bytes quoted_of nothing_beside leading
punctuation s q b =
    let t : List ℕ = s ++ text "\"" in
    let long : length t ≡ length s + 1 = length-append s (text "\"") in
    let end : to_quote false t ≡ length s = quote_behind s (omega arith) in
    let past : drop (suc (length s)) t ≡ [] = drop_of_length-le t {i = suc (length s)} (omega arith) in
    rw (end, lt-ltb (length s) (length t) (omega arith), past, take-append_seam s (text "\""), decoded-plain s (omega arith)) refl
