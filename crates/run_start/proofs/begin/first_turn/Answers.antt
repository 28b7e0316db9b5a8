use Rattle.run_start.proofs.BeginLemmas.{placed_first}
use Rattle.run_start.proofs.begin.first_turn.Goals as goal

pub name_paths-requires-clause-placed : goal.name_paths-requires-clause-placed
name_paths-requires-clause-placed g c =
    placed_first (g.W.Outside.stands c.args.world.now) (g.W.Outside.stands c.clock-reading.new.self) c.args.settings.now c.args.engine c.clock-reading.result c.read-clocked.result
    c.clock-reading.ensures c.read-clocked.ensures c.requires.placed
