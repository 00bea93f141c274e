-- `sequences::put_words`: the invariant says which words stand there, those of the first k, and that with what the other instructions come to they are all.
use Rattle.std.proofs.Common.{◌≡◌, ◌≤◌, length, sym, refl, ap, ◌∙◌, length-set, Ok, Err, rules, arith}
use Rattle.encoder.specs.declared.sequences.Slot.{Slot}
use Rattle.encoder.specs.Code.Meanings.{numbered}
use Rattle.encoder.specs.Code.Slots.{instructions_in}
use Rattle.encoder.proofs.PutLaws.{put-none, put_more, put_stops, put_all, first-none, first_more, slots_size, slots_taken}
use Rattle.encoder.proofs.sequences.put_words.Goals as goal

pub loop-k-init : goal.loop-k-init
loop-k-init c = (refl, put-none _ _ _, first-none (instructions_in c.args.e) c.args.dst.now)

pub loop-k-preserved : goal.loop-k-preserved
loop-k-preserved c =
    let xs = c.args.e.slots in
    let n = c.args.e.count in
    let read : c.encode.result ≡ Ok c.in_ok-dst.field-0 = search rules in
    let sized : length xs ≡ 11 = search rules in
    let fits : n ≤ length xs = omega (arith, sized, c.requires.0) in (
      simp length-set c.loop-k.invariant.0,
      put_more _ _ _ _ _ c.loop-k.invariant.1 _ (search rules) (search rules) (sym c.encode.ensures ∙ ap numbered read),
      first_more (λ (s : Slot). s.inst) xs n _ (sym (slots_taken xs 0 n (omega (arith, fits)))) fits _ _ _ c.loop-k-test.true _ _ c.encode.ensures c.loop-k.invariant.2 _ read
          (omega (arith, slots_size xs 0 n, c.requires.1)),
    )

pub returns-in_err-dst : goal.returns-in_err-dst
returns-in_err-dst c =
    let e : c.from_residual.result ≡ Err c.in_err-dst.field-0.0 = search rules in
    let read : c.encode.result ≡ Err c.in_err-dst.field-0.0 = search rules in
    rw e (put_stops _ _ _ _ _ c.loop-k.invariant.1 _ c.loop-k-test.true (sym c.encode.ensures ∙ ap numbered read))

pub returns : goal.returns
returns c = put_all _ _ _ _ _ c.loop-k.invariant.1 c.loop-k-test.false
