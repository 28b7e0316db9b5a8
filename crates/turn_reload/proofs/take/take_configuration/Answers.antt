use Rattle.std.proofs.lemmas.Result.{err_from_is_err_and}
use Rattle.run_law.proofs.CauseLemmas.{steady_on}
use Rattle.turn_reload.proofs.TakeLemmas.{configure_fails, configures}
use Rattle.turn_reload.proofs.take.take_configuration.Goals as goal

pub returns-in_err-clocked-clause-err : goal.returns-in_err-clocked-clause-err
returns-in_err-clocked-clause-err g c =
    let p = err_from_is_err_and c.from_residual-in_err-clocked.result c.from_residual-in_err-clocked.ensures.1 in
    rw (p.1, p.2) (configure_fails (g.W.Outside.stands c.args.world.now) (g.W.Outside.stands c.name_paths.new.world) c.args.settings.now c.args.clocked c.in_ok-named.named c.in_ok-named.ensures.ok
    c.in_ok-lines.lines c.as_slice.result.now c.in_ok-lines.ensures c.as_slice.ensures (g.W.Outside.stands c.configure.new.world) c.in_err-clocked.field-0.0 c.in_err-clocked.ensures.err)

pub returns-in_err-clocked-clause-steady : goal.returns-in_err-clocked-clause-steady
returns-in_err-clocked-clause-steady g c = steady_on _ _ _ c.name_paths.ensures.steady c.configure.ensures.steady

pub returns-clause-ok : goal.returns-clause-ok
returns-clause-ok g c =
    configures (g.W.Outside.stands c.args.world.now) (g.W.Outside.stands c.name_paths.new.world) c.args.settings.now c.args.clocked c.in_ok-named.named c.in_ok-named.ensures.ok
    c.in_ok-lines.lines c.as_slice.result.now c.in_ok-lines.ensures c.as_slice.ensures (g.W.Outside.stands c.configure.new.world) c.in_ok-clocked.clocked c.in_ok-clocked.ensures.ok c.in_ok-clocked.ensures.jails

pub returns-clause-steady : goal.returns-clause-steady
returns-clause-steady g c = steady_on _ _ _ c.name_paths.ensures.steady c.configure.ensures.steady
