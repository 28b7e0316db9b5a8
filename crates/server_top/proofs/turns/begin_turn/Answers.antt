use Rattle.run_law.proofs.CauseLemmas.{steady_on}
use Rattle.server_top.proofs.turns.begin_turn.Goals as goal

pub returns-clause-steady : goal.returns-clause-steady
returns-clause-steady g c = steady_on _ _ _ c.observe.ensures.steady c.attend.ensures.steady
