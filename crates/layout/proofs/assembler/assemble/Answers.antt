-- `assembler::assemble`: cleared buffers are laid out; after a refusal they are cleared again.
use mathlib.Core.Path.{ap}
use Rattle.layout.specs.Code.Numbers.{numbered_at}
use Rattle.layout.specs.Code.Calls.{buffers}
use Rattle.layout.proofs.CallLaws.{cleared, same-lengths, zeroed, call_through, call-refused}
use Rattle.layout.proofs.assembler.assemble.Goals as goal

pub lay_out-requires : goal.lay_out-requires
lay_out-requires c =
    let a = c.args in
    let z = c.clear.ensures in
    (cleared a.words.now _ z.0, cleared a.data_bytes.now _ z.1, cleared a.labels.now _ z.2, cleared a.equates.now _ z.3, cleared a.items.now _ z.4)

pub returns-in-Ok : goal.returns-in-Ok
returns-in-Ok c =
    let a = c.args in
    let b₀ = (buffers a.words.now a.data_bytes.now a.labels.now a.equates.now a.items.now) in
    let b₁ = (buffers c.clear.new.words c.clear.new.data_bytes c.clear.new.labels c.clear.new.equates c.clear.new.items) in
    let b = (buffers c.lay_out.new.words c.lay_out.new.data_bytes c.lay_out.new.labels c.lay_out.new.equates c.lay_out.new.items) in
    call_through a.text.now a.base b₀ b₁ b (same-lengths b₀ b₁ c.clear.auto.words c.clear.auto.data_bytes c.clear.auto.labels c.clear.auto.equates c.clear.auto.items)
    (same-lengths b₁ b c.lay_out.auto.words c.lay_out.auto.data_bytes c.lay_out.auto.labels c.lay_out.auto.equates c.lay_out.auto.items) _ (rw (ap numbered_at c.in-Ok.is) at c.lay_out.ensures)

pub returns-in-Err : goal.returns-in-Err
returns-in-Err c =
    let a = c.args in
    let b₀ = (buffers a.words.now a.data_bytes.now a.labels.now a.equates.now a.items.now) in
    let b₁ = (buffers c.clear.new.words c.clear.new.data_bytes c.clear.new.labels c.clear.new.equates c.clear.new.items) in
    let b = (buffers c.lay_out.new.words c.lay_out.new.data_bytes c.lay_out.new.labels c.lay_out.new.equates c.lay_out.new.items) in
    let b' = (buffers c.clear-in-Err.new.words c.clear-in-Err.new.data_bytes c.clear-in-Err.new.labels c.clear-in-Err.new.equates c.clear-in-Err.new.items) in
    call-refused a.text.now a.base b₀ b₁ b (same-lengths b₀ b₁ c.clear.auto.words c.clear.auto.data_bytes c.clear.auto.labels c.clear.auto.equates c.clear.auto.items)
    (same-lengths b₁ b c.lay_out.auto.words c.lay_out.auto.data_bytes c.lay_out.auto.labels c.lay_out.auto.equates c.lay_out.auto.items) _ (rw (ap numbered_at c.in-Err.is) at c.lay_out.ensures) b'
    (zeroed b b' c.clear-in-Err.ensures.0 c.clear-in-Err.ensures.1 c.clear-in-Err.ensures.2 c.clear-in-Err.ensures.3 c.clear-in-Err.ensures.4)
