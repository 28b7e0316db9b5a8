use Rattle.std.proofs.Common.{subst}
use Rattle.slot_reader.specs.declared.opening.Opening.{Opening}
use Rattle.slot_reader.specs.Readings.{HasStorableView, IsOpened, IsTold, Stands}
use Rattle.ban_journal.proofs.LoadLemmas.{begun_open}
use Rattle.ban_journal.proofs.load.begun.Goals as goal

pub returns-in-Open-clause-begun : goal.returns-in-Open-clause-begun
returns-in-Open-clause-begun g c =
    let told = (g.D.Outside.stands c.open.new.disk).told in
    let slot = c.args.position.slot in
    let opened = subst (λ (o : Opening). IsTold (λ now. IsOpened now o) slot told) c.in-Open.is c.in_ok-open.ensures.opened in
    let stands = subst (λ (o : Opening). Stands slot o told) c.in-Open.is c.in_ok-open.ensures.stands in
    begun_open c.args.position c.in-Open.reader c.in-Open.view told opened stands

pub returns-in-Open-clause-storable : goal.returns-in-Open-clause-storable
returns-in-Open-clause-storable g c = subst HasStorableView c.in-Open.is c.in_ok-open.ensures.storable
