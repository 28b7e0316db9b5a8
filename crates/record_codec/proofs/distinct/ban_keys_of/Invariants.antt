use Rattle.std.proofs.Common.{◌≡◌, map, take}
use Rattle.f2b_base.specs.declared.ban.Ban.{Ban}
use Rattle.record_codec.specs.Distinct.{addr_key}
use Rattle.record_codec.proofs.distinct.ban_keys_of.Given as goal

abbrev pub invariant-loop-ban : goal.invariant-loop-ban
invariant-loop-ban l = l.keys.items ≡ map (λ (b : Ban). addr_key b.addr) (take l.ban-index l.bans)
