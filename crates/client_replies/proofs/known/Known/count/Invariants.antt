use Rattle.std.proofs.Common.{◌≡◌, ◌≤◌, List, Some, take}
use Rattle.f2b_base.specs.declared.addr.Addr.{Addr}
use Rattle.client_replies.specs.Banned.{count_meant, is_among}
use Rattle.client_replies.specs.Known.{IsKnown}
use Rattle.client_replies.proofs.known.Known.count.Given as goal

abbrev pub invariant-loop-ban : goal.invariant-loop-ban
invariant-loop-ban l = record {
  value : (addrs : List Addr) → IsKnown l.self (is_among addrs) → l.count ≡ count_meant (Some addrs) (take l.ban-index l.bans);
  few : l.count ≤ l.ban-index;
}
