use Rattle.std.proofs.Common.{drop}
use Rattle.jail_moves.proofs.PastLemmas.{IsLast}
use Rattle.jail_moves.proofs.stored.last_end.Given as goal

abbrev pub invariant-loop-ban : goal.invariant-loop-ban
invariant-loop-ban l = IsLast l.at l.active l.last (drop l.ban-index l.active)
