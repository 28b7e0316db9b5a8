use Rattle.turn_children.proofs.PollLemmas.{ended_fewer}
use Rattle.turn_children.proofs.poll.child_ended.Goals as goal

pub returns-clause-fewer : goal.returns-clause-fewer
returns-clause-fewer g c =
    ended_fewer c.args.running c.gone-running.result c.in_ok-running-2.running c.args.place c.requires.within c.gone-running.ensures c.in_ok-running-2.ensures.children
