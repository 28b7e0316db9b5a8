use Rattle.std.proofs.Common.{length}
use Rattle.ban_table.proofs.PurgeLemmas.{HasDropped}
use Rattle.ban_table.proofs.purge.purge_front.Given as goal

abbrev pub invariant-loop-entry : goal.invariant-loop-entry
invariant-loop-entry l = HasDropped l.limit l.fn.past l.past l.fn.counts l.counts

abbrev pub decreases-loop-entry : goal.decreases-loop-entry
decreases-loop-entry l = length l.past.items
