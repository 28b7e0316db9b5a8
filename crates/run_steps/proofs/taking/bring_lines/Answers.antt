use Rattle.run_law.proofs.CauseLemmas.{steady_placed}
use Rattle.run_steps.proofs.taking.bring_lines.Goals as goal

pub returns-clause-placed : goal.returns-clause-placed
returns-clause-placed g c = steady_placed c.args.clocked.engine.journal (g.W.Outside.stands c.args.world.now) (g.W.Outside.stands c.say_all.new.world) c.say_all.ensures.steady c.requires
