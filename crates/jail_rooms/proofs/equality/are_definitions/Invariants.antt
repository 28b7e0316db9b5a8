use Rattle.std.proofs.Common.{◌≡◌, map, take}
use Rattle.f2b_model.specs.declared.jail_now.JailNow.{JailNow}
use Rattle.jail_rooms.specs.Kept.{now_of}
use Rattle.jail_rooms.proofs.equality.are_definitions.Given as goal

abbrev pub invariant-loop-index : goal.invariant-loop-index
invariant-loop-index l = take l.index l.definitions ≡ map (λ (j : JailNow). j.definition) (map now_of (take l.index l.jails))
