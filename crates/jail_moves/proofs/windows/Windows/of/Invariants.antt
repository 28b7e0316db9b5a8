use Rattle.jail_moves.proofs.WindowReads.{AreRead}
use Rattle.jail_moves.proofs.windows.Windows.of.Given as goal

abbrev pub invariant-loop-failure : goal.invariant-loop-failure
invariant-loop-failure l = AreRead l.findtime l.maxretry l.moment l.failure-index l.failures l.full l.by_addr.entries
