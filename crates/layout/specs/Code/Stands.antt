-- How the line stage's counters and buffers stand for what has been laid out, part by part, and what its answers mean.
use Rattle.std.specs.Prelude.{ℕ, ◌+◌, ◌*◌, ◌≤◌, ◌≡◌, List, map, length, pos}
use Rattle.numbers.specs.Code.Spans.{spanned}
use Rattle.layout.specs.declared.limits.Room.{Room}
use Rattle.layout.specs.declared.records.LabelWordRecord.{LabelWordRecord}
use Rattle.layout.specs.declared.state.Section.{Section}
use Rattle.layout.specs.declared.state.Section.TheVariants as section
use Rattle.layout.specs.declared.state.Place.{Place}
use Rattle.layout.specs.declared.state.ItemCount.{ItemCount}
use Rattle.layout.specs.declared.state.DataCount.{DataCount}
use Rattle.layout.specs.declared.state.OwnCounters.{OwnCounters}
use Rattle.layout.specs.declared.state.RestCounters.{RestCounters}
use Rattle.layout.specs.declared.state.Counters.{Counters}
use Rattle.layout.specs.Bytes.{padded}
use Rattle.layout.specs.Limits.{word_limit, data_limit, bss_limit, label_limit, equate_limit, label_word_limit, item_limit}
use Rattle.layout.specs.Limits.{label_size, equate_size, item_size}
use Rattle.layout.specs.Pseudos.{item_kind}
use Rattle.layout.specs.State.{Label, Equate, ItemLine, LabelWord, Items, Stored, Own, Rest, State}
use Rattle.layout.specs.Records.{RecordField, label_record, label_fields, equate_record, equate_fields, item_record, item_fields, table_of}
use Rattle.layout.specs.Code.Places.{place_code}
use Rattle.layout.specs.Code.Tables.{expr_room, label_word_room, expr_fields, label_word_fields}
use Rattle.layout.specs.Code.Index.{Indexed, Distinct, label_index_room}
use Rattle.layout.specs.Code.Fits.{Each, LabelsFit, EquatesFit, ItemsFit, StoredFits}

-- ---- records while the lines are read

-- a label with its place for its address; an equate without value and round, and its expression apart; an item with its offset for its
-- address and without its first word's index
abbrev pub label_so_far : Label → List RecordField
label_so_far l = label_fields (label_record l.name (place_code l.place) l.line)

abbrev pub equate_so_far : Equate → List RecordField
equate_so_far e = equate_fields (equate_record e.name e.line (pos 0) 0)

abbrev pub expr_so_far : Equate → List RecordField
expr_so_far e =
    expr_fields (record {
      start = e.expr.source.at;
      len = length e.expr.source.bytes;
      one_space = e.expr.one_space;
      place = place_code e.place;
    })

abbrev pub item_so_far : ItemLine → List RecordField
item_so_far x = item_fields (item_record x.offset x.line (item_kind x.item) 0 x.source)

-- the label word that a record is of
abbrev pub label_word_of : List ℕ → LabelWordRecord → LabelWord
label_word_of t r = record { at = r.at; name = spanned t (record { start = r.start; len = r.len }); line = r.line }

-- ---- the parts

-- the labels' records, and the index of their names
pub record LabelStore : Type 0 where
  pub records : List ℕ
  pub index : List ℕ

abbrev pub label_name : Label → List ℕ
label_name l = l.name.bytes

pub record LabelsStand (t : List ℕ) (k : Room) (c : ℕ) (b : LabelStore) (ls : List Label) : Type 0 where
  pub counted : c ≡ length ls
  pub fits : LabelsFit t k ls
  pub limit : k.labels ≤ label_limit
  pub lent : k.labels * label_size ≤ length b.records
  pub records : b.records ≡ table_of (length b.records) label_so_far ls
  pub room : length b.index ≡ label_index_room
  pub indexed : Indexed (map label_name ls) b.index
  pub distinct : Distinct (map label_name ls)

pub record EquateStore : Type 0 where
  pub records : List ℕ
  pub exprs : List ℕ

pub record EquatesStand (t : List ℕ) (k : Room) (c : ℕ) (b : EquateStore) (es : List Equate) : Type 0 where
  pub counted : c ≡ length es
  pub fits : EquatesFit t k es
  pub limit : k.equates ≤ equate_limit
  pub lent : k.equates * equate_size ≤ length b.records
  pub room : length b.exprs ≡ expr_room
  pub records : b.records ≡ table_of (length b.records) equate_so_far es
  pub exprs : b.exprs ≡ table_of (length b.exprs) expr_so_far es

pub record ItemsStand (t : List ℕ) (k : Room) (c : ItemCount) (b : List ℕ) (σ : Items) : Type 0 where
  pub counted : c.items ≡ length σ.list
  pub words : c.words ≡ σ.words
  pub fits : ItemsFit t k σ
  pub limit : k.items ≤ item_limit
  pub word_limit : k.words ≤ word_limit
  pub lent : k.items * item_size ≤ length b
  pub bytes : b ≡ table_of (length b) item_so_far σ.list

pub record LabelWordsStand (t : List ℕ) (c : ℕ) (b : List ℕ) (ws : List LabelWord) : Type 0 where
  pub counted : c ≡ length ws
  pub few : length ws ≤ label_word_limit
  pub room : length b ≡ label_word_room
  pub entries : List LabelWordRecord
  pub mean : map (label_word_of t) entries ≡ ws
  pub within : Each (λ r. r.start + r.len ≤ length t) entries
  pub bytes : b ≡ table_of (length b) label_word_fields entries

pub record DataStore : Type 0 where
  pub bytes : List ℕ
  pub label_words : List ℕ

pub record StoredStand (t : List ℕ) (k : Room) (c : DataCount) (b : DataStore) (σ : Stored) : Type 0 where
  pub counted : c.bytes ≡ length σ.bytes
  pub fits : StoredFits t k σ
  pub limit : k.bytes ≤ data_limit
  pub lent : k.bytes ≤ length b.bytes
  pub bytes : b.bytes ≡ padded (length b.bytes) σ.bytes
  pub label_words : LabelWordsStand t c.label_words b.label_words σ.label_words

-- ---- together, as the calls take them

pub record OwnStore : Type 0 where
  pub items : List ℕ
  pub stored : DataStore

pub record OwnStand (t : List ℕ) (k : Room) (c : OwnCounters) (b : OwnStore) (σ : Own) : Type 0 where
  pub section : c.section ≡ σ.section
  pub items : ItemsStand t k c.items b.items σ.items
  pub stored : StoredStand t k c.stored b.stored σ.stored
  pub bss : c.bss ≡ σ.bss
  pub bss_limit : c.bss ≤ bss_limit

pub record RestStore : Type 0 where
  pub equates : EquateStore
  pub own : OwnStore

pub record RestStand (t : List ℕ) (k : Room) (c : RestCounters) (b : RestStore) (σ : Rest) : Type 0 where
  pub equates : EquatesStand t k c.equates b.equates σ.equates
  pub own : OwnStand t k c.own b.own σ.own

pub record Store : Type 0 where
  pub labels : LabelStore
  pub rest : RestStore

pub record Stands (t : List ℕ) (k : Room) (c : Counters) (b : Store) (σ : State) : Type 0 where
  pub labels : LabelsStand t k c.labels b.labels σ.labels
  pub rest : RestStand t k c.rest b.rest σ.rest

abbrev pub label_store : List ℕ → List ℕ → LabelStore
label_store l n = record { records = l; index = n }

abbrev pub equate_store : List ℕ → List ℕ → EquateStore
equate_store e x = record { records = e; exprs = x }

abbrev pub data_store : List ℕ → List ℕ → DataStore
data_store d w = record { bytes = d; label_words = w }

abbrev pub own_store : List ℕ → List ℕ → List ℕ → OwnStore
own_store i d w = record { items = i; stored = data_store d w }

abbrev pub rest_store : List ℕ → List ℕ → List ℕ → List ℕ → List ℕ → RestStore
rest_store e x i d w = record { equates = equate_store e x; own = own_store i d w }

abbrev pub store : List ℕ → List ℕ → List ℕ → List ℕ → List ℕ → List ℕ → List ℕ → Store
store l n e x i d w = record { labels = label_store l n; rest = rest_store e x i d w }

-- ---- answers

-- ---- counters

abbrev pub start_counters : Counters
start_counters =
    record {
      labels = 0;
      rest = record {
        equates = 0;
        own = record {
          section = section.Text;
          items = record { items = 0; words = 0 };
          stored = record { bytes = 0; label_words = 0 };
          bss = 0;
        };
      };
    }

-- the same counts in another section
abbrev pub entered_own : Section → OwnCounters → OwnCounters
entered_own s c = record { section = s; items = c.items; stored = c.stored; bss = c.bss }

-- the present place
abbrev pub offset_of : Section → OwnCounters → ℕ
offset_of section.Text c = 4 * c.items.words
offset_of section.Data c = c.stored.bytes
offset_of section.Bss c = c.bss

abbrev pub place_of : OwnCounters → Place
place_of c = record { section = c.section; offset = offset_of c.section c }
