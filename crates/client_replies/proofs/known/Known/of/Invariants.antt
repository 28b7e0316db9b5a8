use Rattle.std.proofs.Common.{take}
use Rattle.client_replies.specs.Banned.{is_among}
use Rattle.client_replies.specs.Known.{IsKnown}
use Rattle.client_replies.proofs.known.Known.of.Given as goal

abbrev pub invariant-loop-addr : goal.invariant-loop-addr
invariant-loop-addr l = IsKnown l.known (is_among (take l.addr-index l.addrs))
