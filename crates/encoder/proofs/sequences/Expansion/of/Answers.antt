-- `sequences::Expansion::of`: the first slots are those that are copied.
use Rattle.std.proofs.Common.{◌≡◌, ℕ, List, ◌++◌, length, take, drop, map, replicate, length-append, sym, ap, ◌∙◌, rules, arith}
use Rattle.std.proofs.Math.Seq.{take-append_seam}
use Rattle.encoder.specs.declared.sequences.Slot.{Slot}
use Rattle.encoder.specs.declared.instruction.Instruction.TheVariants.{Ecall}
use Rattle.encoder.proofs.PutLaws.{slots_taken}
use Rattle.encoder.proofs.sequences.Expansion.of.Goals as goal

pub returns : goal.returns
returns g c =
    let copied = c.copy_from_slice.new.self in
    let behind : List Slot = drop g.row.N (replicate 11 (record { inst = Ecall })) in
    let sized : length copied ≡ g.row.N = search rules in
    let same : copied ≡ c.args.instructions = search rules in
    let first : take g.row.N (copied ++ behind) ≡ copied = ap (λ (n : ℕ). take n (copied ++ behind)) (sym sized) ∙ take-append_seam copied behind in
    slots_taken (copied ++ behind) 0 g.row.N (omega (arith, sized, length-append copied behind)) ∙ ap (map (λ (s : Slot). s.inst)) (first ∙ same)
