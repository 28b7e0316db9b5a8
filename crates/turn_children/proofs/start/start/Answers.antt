use Rattle.std.proofs.lemmas.Result.{err_from_is_err_and}
use Rattle.run_law.proofs.CauseLemmas.{steady_on}
use Rattle.turn_children.proofs.StartLemmas.{failed_nearer, start_apart, start_done, start_failed, start_fails, start_memory, start_steady, started_nearer, started_placed, unstarted_placed}
use Rattle.turn_children.proofs.start.start.Goals as goal

pub started-requires-clause-apart : goal.started-requires-clause-apart
started-requires-clause-apart g c = start_apart c.args.running c.args.launch.now c.requires.next

pub returns-in-Started-clause-ok : goal.returns-in-Started-clause-ok
returns-in-Started-clause-ok g c =
    start_done c.args.running c.args.launch.now c.requires.next (g.W.Outside.stands c.args.world.now) (g.W.Outside.stands c.child_start.new.self) c.child_start.result
    (rw c.as_str.ensures.value at c.child_start.ensures) c.in_ok-running-in-Started.running c.in-Started.is c.in_ok-running-in-Started.ensures

pub returns-in-Started-clause-nearer : goal.returns-in-Started-clause-nearer
returns-in-Started-clause-nearer g c = started_nearer c.args.running c.in_ok-running-in-Started.running c.args.launch.now c.requires.next c.in_ok-running-in-Started.ensures

pub returns-in-Started-clause-placed : goal.returns-in-Started-clause-placed
returns-in-Started-clause-placed g c =
    started_placed c.args.running c.args.launch.now c.requires.next (g.W.Outside.stands c.args.world.now) (g.W.Outside.stands c.child_start.new.self) c.child_start.result
    (rw c.as_str.ensures.value at c.child_start.ensures) c.in_ok-running-in-Started.running c.in_ok-running-in-Started.ensures c.requires.placed

pub take_end-requires : goal.take_end-requires
take_end-requires g c = record {
  placed =
      unstarted_placed c.args.running c.args.launch.now c.requires.next (g.W.Outside.stands c.args.world.now) (g.W.Outside.stands c.child_start.new.self) c.child_start.result
      (rw c.as_str.ensures.value at c.child_start.ensures) c.not_started-running.result c.not_started-running.ensures c.requires.placed;
}

pub returns-in_err-running-in-Failed-clause-err : goal.returns-in_err-running-in-Failed-clause-err
returns-in_err-running-in-Failed-clause-err g c =
    let p = err_from_is_err_and c.from_residual-in_err-running-in-Failed.result c.from_residual-in_err-running-in-Failed.ensures.1 in
    rw (p.1, p.2) (start_fails c.args.running c.args.launch.now c.requires.next (g.W.Outside.stands c.args.world.now) (g.W.Outside.stands c.child_start.new.self) c.child_start.result
    (rw c.as_str.ensures.value at c.child_start.ensures) (g.W.Outside.stands c.take_end.new.world) c.not_started-running.result c.in-Failed.is c.not_started-running.ensures
    c.in_err-running-in-Failed.field-0.0 c.in_err-running-in-Failed.ensures.err)

pub returns-in_err-running-in-Failed-clause-steady : goal.returns-in_err-running-in-Failed-clause-steady
returns-in_err-running-in-Failed-clause-steady g c =
    steady_on (g.W.Outside.stands c.args.world.now) (g.W.Outside.stands c.child_start.new.self) (g.W.Outside.stands c.take_end.new.world)
    (start_steady c.args.running c.args.launch.now c.requires.next (g.W.Outside.stands c.args.world.now) (g.W.Outside.stands c.child_start.new.self) c.child_start.result
    (rw c.as_str.ensures.value at c.child_start.ensures)) c.take_end.ensures.steady

pub returns-in-Failed-clause-ok : goal.returns-in-Failed-clause-ok
returns-in-Failed-clause-ok g c =
    start_failed c.args.running c.args.launch.now c.requires.next (g.W.Outside.stands c.args.world.now) (g.W.Outside.stands c.child_start.new.self) c.child_start.result
    (rw c.as_str.ensures.value at c.child_start.ensures) (g.W.Outside.stands c.take_end.new.world) c.not_started-running.result c.in-Failed.is c.not_started-running.ensures
    c.in_ok-running-in-Failed.running c.in_ok-running-in-Failed.ensures.ok

pub returns-in-Failed-clause-steady : goal.returns-in-Failed-clause-steady
returns-in-Failed-clause-steady g c =
    steady_on (g.W.Outside.stands c.args.world.now) (g.W.Outside.stands c.child_start.new.self) (g.W.Outside.stands c.take_end.new.world)
    (start_steady c.args.running c.args.launch.now c.requires.next (g.W.Outside.stands c.args.world.now) (g.W.Outside.stands c.child_start.new.self) c.child_start.result
    (rw c.as_str.ensures.value at c.child_start.ensures)) c.take_end.ensures.steady

pub returns-in-Failed-clause-nearer : goal.returns-in-Failed-clause-nearer
returns-in-Failed-clause-nearer g c =
    failed_nearer c.args.running c.not_started-running.result c.in_ok-running-in-Failed.running c.args.launch.now c.requires.next c.not_started-running.ensures
    c.in_ok-running-in-Failed.ensures.time c.in_ok-running-in-Failed.ensures.children c.is_check.result c.is_check.ensures c.in_ok-running-in-Failed.ensures.makes

pub returns-clause-err : goal.returns-clause-err
returns-clause-err g c =
    start_memory c.args.running c.args.launch.now c.requires.next (g.W.Outside.stands c.args.world.now) (g.W.Outside.stands c.child_start.new.self) c.child_start.result
    (rw c.as_str.ensures.value at c.child_start.ensures) c.in-NoMemory.is
