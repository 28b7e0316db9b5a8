use Rattle.jail_moves.proofs.LineLemmas.{IsLeft}
use Rattle.jail_moves.proofs.matches.first_shown.Given as goal

abbrev pub invariant-loop-index : goal.invariant-loop-index
invariant-loop-index l = IsLeft l.maxmatches l.failures l.left l.index
