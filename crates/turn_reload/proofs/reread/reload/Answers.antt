use Rattle.run_law.proofs.CauseLemmas.{steady_placed}
use Rattle.turn_reload.proofs.reread.reload.Goals as goal

pub take_read-requires-clause-placed : goal.take_read-requires-clause-placed
take_read-requires-clause-placed g c =
    steady_placed c.args.running.clocked.engine.journal (g.W.Outside.stands c.args.world.now) (g.W.Outside.stands c.try_configuration.new.world) c.try_configuration.ensures.steady c.requires.placed

pub leave-requires-clause-placed : goal.leave-requires-clause-placed
leave-requires-clause-placed g c =
    steady_placed c.args.running.clocked.engine.journal (g.W.Outside.stands c.args.world.now) (g.W.Outside.stands c.try_configuration.new.world) c.try_configuration.ensures.steady c.requires.placed
