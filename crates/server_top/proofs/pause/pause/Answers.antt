use Rattle.f2b_world.specs.declared.event.Event.TheVariants.{Pause}
use Rattle.run_law.proofs.CauseLemmas.{called_placed}
use Rattle.server_top.proofs.pause.pause.Goals as goal

pub returns-clause-placed : goal.returns-clause-placed
returns-clause-placed g c =
    called_placed c.args.running.clocked.engine.journal (g.W.Outside.stands c.args.world.now) (g.W.Outside.stands c.pause.new.self) (Pause 250) c.pause.ensures c.requires.placed
