use Rattle.std.proofs.lemmas.Result.{err_from_is_err_and}
use Rattle.f2b_world.specs.declared.event.Event.TheVariants.{ChildPoll}
use Rattle.run_law.proofs.CauseLemmas.{called_placed, cause_later, steady_call, steady_on}
use Rattle.turn_children.proofs.PollLemmas.{poll_ended, poll_fails, poll_on}
use Rattle.turn_children.proofs.poll.poll.Goals as goal

pub child_ended-requires-clause-placed : goal.child_ended-requires-clause-placed
child_ended-requires-clause-placed g c =
    called_placed c.args.running.clocked.engine.journal (g.W.Outside.stands c.args.world.now) (g.W.Outside.stands c.child_poll.new.self) (ChildPoll c.at-child.result.job c.child_poll.result)
    c.child_poll.ensures c.requires.placed

pub returns-in_err-running-in-Some-clause-err : goal.returns-in_err-running-in-Some-clause-err
returns-in_err-running-in-Some-clause-err g c =
    let p = err_from_is_err_and c.from_residual.result c.from_residual.ensures.1 in
    rw (p.1, p.2) (poll_fails c.args.running c.args.place c.at-child.result c.at-child.ensures c.requires.within
    (g.W.Outside.stands c.args.world.now) (g.W.Outside.stands c.child_poll.new.self) c.child_poll.result c.child_poll.ensures c.outcome_of.result c.outcome_of.ensures
    (g.W.Outside.stands c.child_ended.new.world) c.in-Some.outcome c.in-Some.is c.in_err-running-in-Some.field-0.0 c.in_err-running-in-Some.ensures.err)

pub returns-in_err-running-in-Some-clause-cause : goal.returns-in_err-running-in-Some-clause-cause
returns-in_err-running-in-Some-clause-cause g c =
    let p = err_from_is_err_and c.from_residual.result c.from_residual.ensures.1 in
    rw (p.1, p.2) (cause_later (g.W.Outside.stands c.args.world.now) (g.W.Outside.stands c.child_poll.new.self) (g.W.Outside.stands c.child_ended.new.world) c.in_err-running-in-Some.field-0.0
    (steady_call (g.W.Outside.stands c.args.world.now) (g.W.Outside.stands c.child_poll.new.self) (ChildPoll c.at-child.result.job c.child_poll.result) c.child_poll.ensures)
    c.in_err-running-in-Some.ensures.cause)

pub returns-in_err-running-in-Some-clause-steady : goal.returns-in_err-running-in-Some-clause-steady
returns-in_err-running-in-Some-clause-steady g c =
    steady_on (g.W.Outside.stands c.args.world.now) (g.W.Outside.stands c.child_poll.new.self) (g.W.Outside.stands c.child_ended.new.world)
    (steady_call (g.W.Outside.stands c.args.world.now) (g.W.Outside.stands c.child_poll.new.self) (ChildPoll c.at-child.result.job c.child_poll.result) c.child_poll.ensures) c.child_ended.ensures.steady

pub returns-in_ok-running-in-Some-clause-ok : goal.returns-in_ok-running-in-Some-clause-ok
returns-in_ok-running-in-Some-clause-ok g c =
    poll_ended c.args.running c.args.place c.at-child.result c.at-child.ensures c.requires.within
    (g.W.Outside.stands c.args.world.now) (g.W.Outside.stands c.child_poll.new.self) c.child_poll.result c.child_poll.ensures c.outcome_of.result c.outcome_of.ensures
    (g.W.Outside.stands c.child_ended.new.world) c.in-Some.outcome c.in-Some.is c.in_ok-running-in-Some.running c.in_ok-running-in-Some.ensures.ok

pub returns-in_ok-running-in-Some-clause-steady : goal.returns-in_ok-running-in-Some-clause-steady
returns-in_ok-running-in-Some-clause-steady g c =
    steady_on (g.W.Outside.stands c.args.world.now) (g.W.Outside.stands c.child_poll.new.self) (g.W.Outside.stands c.child_ended.new.world)
    (steady_call (g.W.Outside.stands c.args.world.now) (g.W.Outside.stands c.child_poll.new.self) (ChildPoll c.at-child.result.job c.child_poll.result) c.child_poll.ensures) c.child_ended.ensures.steady

pub returns-in-Some-place_behind-clause-ok : goal.returns-in-Some-place_behind-clause-ok
returns-in-Some-place_behind-clause-ok g c =
    poll_on c.args.running c.args.place c.at-child.result c.at-child.ensures c.requires.within
    (g.W.Outside.stands c.args.world.now) (g.W.Outside.stands c.child_poll.new.self) c.child_poll.result c.child_poll.ensures c.outcome_of.result c.outcome_of.ensures
    c.in-None.is c.place_behind.result c.place_behind.ensures c.in-Some-place_behind.next c.in-Some-place_behind.is

pub returns-in-Some-place_behind-clause-placed : goal.returns-in-Some-place_behind-clause-placed
returns-in-Some-place_behind-clause-placed g c =
    called_placed c.args.running.clocked.engine.journal (g.W.Outside.stands c.args.world.now) (g.W.Outside.stands c.child_poll.new.self) (ChildPoll c.at-child.result.job c.child_poll.result)
    c.child_poll.ensures c.requires.placed

pub kill-requires-clause-placed : goal.kill-requires-clause-placed
kill-requires-clause-placed g c =
    called_placed c.args.running.clocked.engine.journal (g.W.Outside.stands c.args.world.now) (g.W.Outside.stands c.child_poll.new.self) (ChildPoll c.at-child.result.job c.child_poll.result)
    c.child_poll.ensures c.requires.placed
