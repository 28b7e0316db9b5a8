use Rattle.jail_moves.proofs.WindowCounts.{ok_then}
use Rattle.jail_moves.proofs.matches_tests.fresh.Goals as goal

pub returns : goal.returns
returns c = ok_then _ _ c.fresh.result (λ room kept. kept 300 0) c.fresh.ensures.kept
