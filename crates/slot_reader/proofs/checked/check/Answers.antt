use Rattle.std.proofs.Common.{ℕ, IfOk, subst}
use Rattle.slot_reader.specs.declared.opening.Opening.{Opening}
use Rattle.slot_reader.specs.Readings.{IsChecked, IsOpened, IsTold, Stands}
use Rattle.slot_reader.proofs.ReadingLemmas.{opened_reads}
use Rattle.slot_reader.proofs.checked.check.Goals as goal

pub returns-in-Open-clause-checked : goal.returns-in-Open-clause-checked
returns-in-Open-clause-checked g c =
    let told = (g.D.Outside.stands c.open.new.disk).told in
    let new = (g.D.Outside.stands c.check_inputs.new.disk).told in
    let opened = subst (λ (o : Opening). IsTold (λ now. IsOpened now o) c.args.slot told) c.in-Open.is c.in_ok-head.ensures.opened in
    let stands = subst (λ (o : Opening). Stands c.args.slot o told) c.in-Open.is c.in_ok-head.ensures.stands in
    let given = opened_reads c.args.slot c.in-Open.reader c.in-Open._view told stands.0 opened in
    subst (λ (k : ℕ). IfOk c.check_inputs.result (λ checked. IsTold (λ now. IsChecked now checked) k new)) stands.0 (c.check_inputs.ensures.checked c.in-Open._view given)
