use Rattle.std.proofs.lemmas.Result.{err_from_is_err_and}
use Rattle.server_top.proofs.ClockLemmas.{clock_moves, clock_fails}
use Rattle.server_top.proofs.clock.read_clock.Goals as goal

pub returns-clause-ok : goal.returns-clause-ok
returns-clause-ok g c = clock_moves _ _ _ _ _ c.read-running.ensures.reads _ c.in_ok-running.ensures.ok

pub returns-in_err-running-clause-err : goal.returns-in_err-running-clause-err
returns-in_err-running-clause-err g c =
    let p = err_from_is_err_and c.from_residual.result c.from_residual.ensures.1 in
    rw (p.1, p.2) (clock_fails _ _ _ _ _ c.read-running.ensures.reads _ c.in_err-running.ensures.err)
