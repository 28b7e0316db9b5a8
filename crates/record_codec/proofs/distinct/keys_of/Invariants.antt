use Rattle.std.proofs.Common.{◌≡◌, map, take}
use Rattle.record_codec.specs.Distinct.{addr_key}
use Rattle.record_codec.proofs.distinct.keys_of.Given as goal

abbrev pub invariant-loop-host : goal.invariant-loop-host
invariant-loop-host l = l.keys.items ≡ map addr_key (take l.host-index l.hosts)
