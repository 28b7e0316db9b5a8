use Rattle.std.proofs.lemmas.Result.{err_from_is_err_and}
use Rattle.turn_logs.proofs.LoopLemmas.{looks_fail}
use Rattle.turn_logs.proofs.looks.look_at_each.Goals as goal

pub returns-in_err-running-clause-err : goal.returns-in_err-running-clause-err
returns-in_err-running-clause-err g c =
    let p = err_from_is_err_and c.from_residual.result c.from_residual.ensures.1 in
    rw (p.1, p.2) (looks_fail (g.W.Outside.stands c.args.world.now) (g.W.Outside.stands c.logs.world) c.logs.from c.next.result c.args.running c.logs.running
    c.logs.invariant.moves c.next.ensures.next c.in-Some.place c.in-Some.is (g.W.Outside.stands c.look_at.new.world) c.in_err-running.field-0.0 c.in_err-running.ensures.err)
