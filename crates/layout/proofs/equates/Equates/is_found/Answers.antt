-- `Equates::is_found`: the round in the record, then the name.
use mathlib.Core.Path.{◌≡◌, refl, sym, ap, ◌∙◌}
use borrow.Author.Tests.{ne_eqb}
use Rattle.layout.specs.Records.{equate_record_at}
use Rattle.layout.proofs.equates.Equates.is_found.Goals as goal

pub returns-then-get-eq0 : goal.returns-then-get-eq0
returns-then-get-eq0 c =
    let a = c.args in
    let e : (equate_record_at a.self.records.now a.k).round ≡ 0 = sym (ap (λ r. r.round) c.get.ensures) ∙ c.if-get-eq0.true in
    rw e refl

pub returns : goal.returns
returns c =
    let a = c.args in
    let e : (equate_record_at a.self.records.now a.k).round ≡ 0 → ⊥ = λ q. c.if-get-eq0.false (ap (λ r. r.round) c.get.ensures ∙ q) in
    rw (c.same_bytes.ensures, c.name.ensures, ne_eqb _ _ e) refl
