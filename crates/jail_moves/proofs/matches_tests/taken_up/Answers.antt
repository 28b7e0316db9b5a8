use Rattle.jail_moves.proofs.WindowCounts.{ok_then}
use Rattle.jail_moves.proofs.matches_tests.taken_up.Goals as goal

pub of-requires-clause-stored : goal.of-requires-clause-stored
of-requires-clause-stored c = (0, c.in_ok-view.ensures)

pub returns : goal.returns
returns c = ok_then _ _ c.of.result (λ room kept. kept 0 c.in_ok-view.ensures) c.of.ensures.kept
