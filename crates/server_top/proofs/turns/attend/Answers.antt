use Rattle.run_law.proofs.CauseLemmas.{steady_on}
use Rattle.server_top.proofs.turns.attend.Goals as goal

pub returns-clause-steady : goal.returns-clause-steady
returns-clause-steady g c = steady_on _ _ _ c.poll_children.ensures.steady c.serve_clients.ensures.steady
