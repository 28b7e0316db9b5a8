use Rattle.f2b_world.specs.declared.event.Event.TheVariants.{ChildKill}
use Rattle.run_law.proofs.CauseLemmas.{called_placed}
use Rattle.turn_children.proofs.poll.kill.Goals as goal

pub child_ended-requires-clause-placed : goal.child_ended-requires-clause-placed
child_ended-requires-clause-placed g c =
    called_placed c.args.running.clocked.engine.journal (g.W.Outside.stands c.args.world.now) (g.W.Outside.stands c.child_kill.new.self) (ChildKill c.args.child.job) c.child_kill.ensures c.requires.placed
