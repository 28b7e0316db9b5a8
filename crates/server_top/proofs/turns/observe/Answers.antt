use Rattle.run_law.proofs.CauseLemmas.{steady_on}
use Rattle.server_top.proofs.turns.observe.Goals as goal

pub returns-clause-steady : goal.returns-clause-steady
returns-clause-steady g c = steady_on _ _ _ c.read_clock.ensures.steady c.look_at_logs.ensures.steady
