-- `sequences::put_words`: the invariant says which words stand there, those of the first k, and that with what the other instructions come to they are all.
use Rattle.std.proofs.Common.{◌≡◌, Ok, length, take}
use Rattle.numbers.specs.Code.Meanings.{Agrees}
use Rattle.encoder.specs.Encoding.{encoded}
use Rattle.encoder.specs.Code.Slots.{instructions_in}
use Rattle.encoder.specs.Code.Words.{WordsPut}
use Rattle.encoder.proofs.PutLaws.{Putting}
use Rattle.encoder.proofs.sequences.put_words.Given as goal

abbrev pub invariant-loop-k : goal.invariant-loop-k
invariant-loop-k l =
    (length l.dst ≡ length l.initial.dst) × Putting l.fn.e.slots l.fn.e.count l.initial.dst l.dst l.k
    × Agrees (WordsPut l.initial.dst l.dst) (Ok l.k) (encoded (take l.k (instructions_in l.fn.e)))
