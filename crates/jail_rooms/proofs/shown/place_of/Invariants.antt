use Rattle.std.proofs.Common.{◌≡◌, ◌+◌, drop}
use Rattle.jail_rooms.specs.Places.{jail_place}
use Rattle.jail_rooms.proofs.shown.place_of.Given as goal

abbrev pub invariant-loop-index : goal.invariant-loop-index
invariant-loop-index l = jail_place l.name l.jails ≡ l.index + jail_place l.name (drop l.index l.jails)
