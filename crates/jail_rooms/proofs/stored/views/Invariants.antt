use Rattle.std.proofs.Common.{◌≡◌, map, take}
use Rattle.f2b_model.specs.Views.{jail_view}
use Rattle.jail_rooms.specs.Kept.{now_of}
use Rattle.jail_rooms.proofs.stored.views.Given as goal

abbrev pub invariant-loop-jail : goal.invariant-loop-jail
invariant-loop-jail l = l.views ≡ map jail_view (map now_of (take l.jail-index l.jails))
