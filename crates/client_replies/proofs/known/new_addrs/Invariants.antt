use Rattle.std.proofs.Common.{drop}
use Rattle.client_replies.proofs.KnownLemmas.{IsSoFar}
use Rattle.client_replies.proofs.known.new_addrs.Given as goal

abbrev pub invariant-loop-addr : goal.invariant-loop-addr
invariant-loop-addr l = IsSoFar l.bans l.addrs l.known l.new (drop l.addr-index l.addrs)
