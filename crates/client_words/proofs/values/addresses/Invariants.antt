use Rattle.std.proofs.Common.{◌≡◌, ◌≤◌, ◌+◌, drop, length}
use Rattle.f2b_base.specs.Addresses.{IsAddr}
use Rattle.f2b_model.specs.Lists.{AllOf}
use Rattle.jail_conf.proofs.EachLemmas.{behind}
use Rattle.client_words.specs.Values.{addresses}
use Rattle.client_words.proofs.values.addresses.Given as goal

abbrev pub invariant-loop-index : goal.invariant-loop-index
invariant-loop-index l = record {
  value : behind l.addrs (addresses (l.place + l.index) (drop l.index l.words)) ≡ addresses l.place l.words;
  bounds : AllOf IsAddr l.addrs;
  few : length l.addrs ≤ l.index;
}
