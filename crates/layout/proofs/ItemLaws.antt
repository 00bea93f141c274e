-- Items: the code's record of an item stands for what the definition gives; and a text line by its kind.
use Rattle.layout.specs.Code.Numbers.{numbered}
use Rattle.layout.specs.declared.refusal.Refusal as code
use Rattle.std.proofs.Common.{Result}
use Prim.Native.Nat.{ℕ, ◌+◌, ◌*◌, ◌≤◌, ◌<◌}
use native.Mathlib.Omega.{arith}
use mathlib.Core.Path.{◌≡◌, refl, sym, ap, ◌∙◌}
use mathlib.Core.List.{List, [], ◌∷◌}
use Rattle.std.proofs.Common.{Option, None, Some}
use lib.ListN.{length, length-append}
use borrow.Author.Tests.{le-ltb, lt-ltb, le-leb, lt-leb}
use Rattle.numbers.specs.declared.text.Span.{Span}
use Rattle.std.proofs.Common.{Ok, Err}
use Rattle.numbers.specs.Code.Spans.{spanned}
use Rattle.layout.specs.declared.limits.Room.{Room}
use Rattle.layout.specs.declared.state.ItemCount.{ItemCount}
use Rattle.layout.specs.declared.records.ItemRecord.{ItemRecord}
use Rattle.layout.specs.declared.pseudo.Pseudo.{Pseudo}
use Rattle.layout.specs.Bytes.{little_endian, put}
use Rattle.layout.specs.Limits.{item_size}
use Rattle.layout.specs.Records.{field_bytes, item_fields}
use Rattle.layout.specs.Pseudos.{Item, ordinary, pseudo, other, item_of, reserved_words, item_kind}
use Rattle.layout.specs.State.{ItemLine}
use Rattle.layout.specs.Stage.{add_item, text_line}
use Rattle.layout.specs.Code.Kinds.{text_line_code}
use Rattle.layout.specs.Code.Spans.{SpanWithin, piece_at}
use Rattle.layout.specs.Code.Steps.{Steps}
use Rattle.layout.specs.Code.Stands.{ItemsStand, item_so_far}
use Rattle.layout.proofs.ByteLaws.{length-put}
use Rattle.layout.proofs.TableLaws.{table_more}
use Rattle.layout.proofs.SpanLaws.{within_size, within_inside}
use Rattle.layout.proofs.PseudoLaws.{words_few}
use Rattle.layout.proofs.Kept.{add_item_fits}

item-sized : (x : ItemLine) → length (field_bytes (item_so_far x)) ≡ item_size
unfolding field_bytes little_endian
item-sized x = refl

-- the code's record of an item
abbrev pub item_code : ℕ → ℕ → ℕ → Span → ItemRecord
item_code words line number q = record { address = 4 * words; line = line; kind = number; first = 0; start = q.start; len = q.len }

module _ (t : List ℕ) (k : Room) (c : ItemCount) (b b' : List ℕ) (line : ℕ) (i : Option Pseudo) (q : Span) where
  pub item_many : k.items ≤ c.items → Steps (ItemsStand t k) c b (Err 48) b' (add_item k line i (piece_at t q))
  unfolding add_item
  item_many h σ s = rw (add_item, le-ltb (length σ.list) k.items (omega (arith, s.counted))) refl

  module _ (m : ℕ) (is : m ≡ reserved_words i (spanned t q)) (h : c.items < k.items) where
    pub item-full : k.words < c.words + m → Steps (ItemsStand t k) c b (Err 44) b' (add_item k line i (piece_at t q))
    unfolding add_item
    item-full g σ s =
        let few = lt-ltb (length σ.list) k.items (omega (arith, s.counted)) in
        rw (add_item, few, ← is, lt-leb (σ.words + m) k.words (omega (arith, s.words))) refl

    pub item_goes : c.words + m ≤ k.words → line < length t → SpanWithin t q
        → (number : ℕ) → number ≡ item_kind i → (r : Span) → r ≡ q
        → b' ≡ put (c.items * item_size) (field_bytes (item_fields (item_code c.words line number r))) b
        → Steps (ItemsStand t k) c b (Ok (record { items = c.items + 1; words = c.words + m })) b' (add_item k line i (piece_at t q))
    unfolding add_item
    item_goes g below w number e r f p σ s =
        let x : ItemLine = record { offset = 4 * σ.words; line = line; item = i; source = piece_at t q } in
        let few = lt-ltb (length σ.list) k.items (omega (arith, s.counted)) in
        let room = le-leb (σ.words + reserved_words i (spanned t q)) k.words (omega (arith, s.words, is)) in
        let p' : b' ≡ put (c.items * item_size) (field_bytes (item_so_far x)) b = rw (within_size t q w, ← s.words, ← e, ← f) p in
        let l : length b' ≡ length b =
        ap length p' ∙ length-put (c.items * item_size) (field_bytes (item_so_far x)) b (omega (arith, item-sized x, s.lent)) in
        rw (add_item, few, room)
        (record {
          counted = omega (arith, s.counted, length-append σ.list (x ∷ []));
          words = omega (arith, s.words, is);
          fits = rw (add_item, few, room) at
              (add_item_fits t k s.word_limit line below i (piece_at t q) σ (within_inside t q w) s.fits);
          limit = s.limit;
          word_limit = s.word_limit;
          lent = rw l s.lent;
          bytes = table_more item_so_far item_size item-sized b b' σ.list s.bytes c.items x s.counted l p';
        })

-- ---- a text line, by the kind that the code finds

pub kind_few : (s : List ℕ) (o : Option Pseudo) (m : ℕ) → m ≡ reserved_words o s → m ≤ 11
kind_few s o m e = rw e (words_few o s).1

module _ (t : List ℕ) (q : Span) (found : Result (Option Pseudo) ℕ) (e : found ≡ text_line_code (item_of (spanned t q))) where
  module _ (k : Room) (c : ItemCount) (b b' : List ℕ) (n : ℕ) where
    pub text-item : (r : Result ItemCount code.Refusal) (o : Option Pseudo) → found ≡ Ok o
        → Steps (ItemsStand t k) c b (numbered r) b' (add_item k n o (piece_at t q))
        → Steps (ItemsStand t k) c b (numbered r) b' (text_line k n (piece_at t q) (item_of (spanned t q)))
    unfolding text_line
    text-item r o f h = by (item_of (spanned t q)) (sym e ∙ f)
      where
        by : (j : Item) → text_line_code j ≡ Ok o → Steps (ItemsStand t k) c b (numbered r) b' (text_line k n (piece_at t q) j)
        by ordinary g σ s = let z : o ≡ None = cc in rw z at (h σ s)
        by (pseudo p) g σ s = let z : o ≡ Some p = cc in rw z at (h σ s)
        by other g σ s = let z : ◌≡◌ {A = ℕ} 0 1 = cc in absurd (omega arith)

    pub text-other : (m : ℕ) → found ≡ Err m → Steps (ItemsStand t k) c b (Err m) b' (text_line k n (piece_at t q) (item_of (spanned t q)))
    unfolding text_line
    text-other m f = by (item_of (spanned t q)) (sym e ∙ f)
      where
        by : (j : Item) → text_line_code j ≡ Err m → Steps (ItemsStand t k) c b (Err m) b' (text_line k n (piece_at t q) j)
        by ordinary g σ s = let z : ◌≡◌ {A = ℕ} 0 1 = cc in absurd (omega arith)
        by (pseudo p) g σ s = let z : ◌≡◌ {A = ℕ} 0 1 = cc in absurd (omega arith)
        by other g σ s = let z : m ≡ 21 = cc in z
