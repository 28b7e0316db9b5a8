use Rattle.std.proofs.Common.{◌≡◌, ◌-◌, ◌^◌, map, min, sum, take}
use Rattle.f2b_model.specs.Storable.{patterns_of}
use Rattle.record_codec.proofs.definitions.patterns_of_all.Given as goal

abbrev pub invariant-loop-jail : goal.invariant-loop-jail
invariant-loop-jail l = l.total ≡ min (sum (map patterns_of (take l.jail-index l.jails))) (2 ^ 64 - 1)
