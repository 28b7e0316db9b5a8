use Rattle.std.proofs.Common.{◌≡◌, ◌≤◌, ◌*◌, ◌^◌, List, Option, take}
use Rattle.std.specs.List.{sum_by}
use Rattle.f2b_base.specs.declared.addr.Addr.{Addr}
use Rattle.f2b_base.specs.declared.view.JailView.{JailView}
use Rattle.client_replies.specs.Banned.{count_meant}
use Rattle.client_replies.specs.Meant.{IsWhom}
use Rattle.client_replies.proofs.banned.count_all.Given as goal

abbrev pub invariant-loop-jail : goal.invariant-loop-jail
invariant-loop-jail l = record {
  value : (addrs : Option (List Addr)) → IsWhom l.whom addrs → l.total ≡ sum_by (λ (j : JailView). count_meant addrs j.bans) (take l.jail-index l.jails);
  few : l.total ≤ l.jail-index * 2 ^ 64;
}
