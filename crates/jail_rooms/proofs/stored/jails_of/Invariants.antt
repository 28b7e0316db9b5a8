use Rattle.std.proofs.Common.{◌≡◌, length}
use Rattle.jail_rooms.proofs.StoredLemmas.{AreBack}
use Rattle.jail_rooms.proofs.stored.jails_of.Given as goal

abbrev pub invariant-loop-index : goal.invariant-loop-index
invariant-loop-index l = (length l.jails.items ≡ l.index) × AreBack l.at l.definitions l.views l.jails.items
