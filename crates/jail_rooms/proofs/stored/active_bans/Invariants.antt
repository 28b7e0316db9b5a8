use Rattle.std.proofs.Common.{◌≡◌, map, take}
use Rattle.f2b_model.specs.Active.{held_by, held_of}
use Rattle.f2b_model.specs.Steps.{moves_now}
use Rattle.jail_rooms.specs.Kept.{now_of}
use Rattle.jail_rooms.proofs.stored.active_bans.Given as goal

abbrev pub invariant-loop-jail : goal.invariant-loop-jail
invariant-loop-jail l = held_of l.held.items ≡ held_by moves_now (map now_of (take l.jail-index l.jails))
