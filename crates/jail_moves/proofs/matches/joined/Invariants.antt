use Rattle.std.proofs.Common.{take}
use Rattle.jail_moves.proofs.LineLemmas.{IsJoined}
use Rattle.jail_moves.proofs.matches.joined.Given as goal

abbrev pub invariant-loop-failure : goal.invariant-loop-failure
invariant-loop-failure l = IsJoined l.text (take l.failure-index l.failures)
