use Rattle.std.proofs.Common.{◌≡◌, map, take}
use Rattle.f2b_model.specs.declared.jail_now.JailNow.{JailNow}
use Rattle.jail_rooms.specs.Kept.{now_of}
use Rattle.jail_rooms.proofs.stored.definitions.Given as goal

abbrev pub invariant-loop-jail : goal.invariant-loop-jail
invariant-loop-jail l = l.definitions ≡ map (λ (j : JailNow). j.definition) (map now_of (take l.jail-index l.jails))
