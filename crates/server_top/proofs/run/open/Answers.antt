use Rattle.server_top.proofs.run.open.Goals as goal

pub returns-clause-placed : goal.returns-clause-placed
returns-clause-placed g c = c.listen.ensures.placed.each c.in_ok-engine.engine.journal c.in_ok-engine.ensures.placed
