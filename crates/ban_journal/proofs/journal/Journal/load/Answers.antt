use Rattle.std.proofs.Common.{subst}
use Rattle.std.proofs.lemmas.Result.{err_from_is_err_and}
use Rattle.ban_journal.proofs.LoadLemmas.{FoundBy, BegunAt, loaded_refused, loaded_stops, loaded_ok, loaded_placed}
use Rattle.ban_journal.proofs.journal.Journal.load.Goals as goal

pub returns-in_err-position-clause-loaded : goal.returns-in_err-position-clause-loaded
returns-in_err-position-clause-loaded g c =
    let found = subst (FoundBy c.args.limit c.in_ok-first.first c.in_ok-second.second) c.in_err-position.was c.position_of.ensures.found in
    let p = err_from_is_err_and c.from_residual-in_err-position.result c.from_residual-in_err-position.ensures.1 in
    rw (p.1, p.2) (loaded_refused c.args.limit c.in_ok-first.first c.in_ok-second.second (g.D.Outside.stands c.check.new.disk) (g.D.Outside.stands c.check-2.new.disk)
    c.in_ok-first.ensures.checked c.in_ok-second.ensures.reads c.in_ok-second.ensures.checked _ found)

pub returns-in_err-view-clause-loaded : goal.returns-in_err-view-clause-loaded
returns-in_err-view-clause-loaded g c =
    let d = g.D.Outside.stands c.begun.new.disk in
    let found = subst (FoundBy c.args.limit c.in_ok-first.first c.in_ok-second.second) c.in_ok-position.was c.position_of.ensures.found in
    let begun_is = subst (BegunAt c.in_ok-position.position d.told) c.in_err-view.was c.begun.ensures.begun in
    let p = err_from_is_err_and c.from_residual-in_err-view.result c.from_residual-in_err-view.ensures.1 in
    rw (p.1, p.2) (loaded_stops c.args.limit c.in_ok-first.first c.in_ok-second.second (g.D.Outside.stands c.check.new.disk) (g.D.Outside.stands c.check-2.new.disk)
    c.in_ok-first.ensures.checked c.in_ok-second.ensures.reads c.in_ok-second.ensures.checked c.in_ok-position.position _ d found c.begun.ensures.reads _ begun_is)

pub returns-clause-loaded : goal.returns-clause-loaded
returns-clause-loaded g c =
    let d = g.D.Outside.stands c.begun.new.disk in
    let found = subst (FoundBy c.args.limit c.in_ok-first.first c.in_ok-second.second) c.in_ok-position.was c.position_of.ensures.found in
    let begun_is = subst (BegunAt c.in_ok-position.position d.told) c.in_ok-view.was c.begun.ensures.begun in
    loaded_ok c.args.limit c.in_ok-first.first c.in_ok-second.second (g.D.Outside.stands c.check.new.disk) (g.D.Outside.stands c.check-2.new.disk)
    c.in_ok-first.ensures.checked c.in_ok-second.ensures.reads c.in_ok-second.ensures.checked c.in_ok-position.position _ d found c.begun.ensures.reads c.in_ok-view.view c.in_ok-view.inputs c.in_ok-position.ensures.slot begun_is

pub returns-clause-placed : goal.returns-clause-placed
returns-clause-placed g c =
    let d = g.D.Outside.stands c.begun.new.disk in
    let found = subst (FoundBy c.args.limit c.in_ok-first.first c.in_ok-second.second) c.in_ok-position.was c.position_of.ensures.found in
    loaded_placed c.args.limit c.in_ok-first.first c.in_ok-second.second (g.D.Outside.stands c.check.new.disk) (g.D.Outside.stands c.check-2.new.disk)
    c.in_ok-first.ensures.checked c.in_ok-second.ensures.reads c.in_ok-second.ensures.checked c.in_ok-position.position _ d found c.begun.ensures.reads
