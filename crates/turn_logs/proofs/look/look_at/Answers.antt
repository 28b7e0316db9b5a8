use Rattle.turn_logs.proofs.LookLemmas.{look_placed}
use Rattle.turn_logs.proofs.look.look_at.Goals as goal

pub take_answer-requires-clause-placed : goal.take_answer-requires-clause-placed
take_answer-requires-clause-placed g c =
    look_placed c.args.running.clocked.engine.journal (g.W.Outside.stands c.args.world.now) (g.W.Outside.stands c.look-answer.new.self) _ _ _ _ c.look-answer.result c.look-answer.ensures.event
    c.requires.placed
