use Rattle.ban_table.proofs.PurgeLemmas.{HasSifted}
use Rattle.ban_table.proofs.purge.sift.Given as goal

abbrev pub invariant-loop : goal.invariant-loop
invariant-loop l = HasSifted l.limit l.counter l.fn.past l.past l.fn.counts l.counts
