use Rattle.run_law.proofs.CauseLemmas.{called_placed}
use Rattle.turn_clients.proofs.ServingLemmas.{clients_placed}
use Rattle.turn_clients.proofs.close.close.Goals as goal

pub returns-clause-placed : goal.returns-clause-placed
returns-clause-placed g c = clients_placed c.args.running c.gone.result _ _ c.gone.ensures (called_placed c.args.running.clocked.engine.journal _ _ _ c.gate_close.ensures c.requires.placed)
