use Rattle.f2b_model.specs.NowMoves.{dropped_now}
use Rattle.jail_rooms.specs.Moved.{AreMoved}
use Rattle.jail_rooms.proofs.ends.drop_old_bans.Given as goal

abbrev pub invariant-loop-index : goal.invariant-loop-index
invariant-loop-index l = AreMoved (dropped_now l.at l.purge) l.at l.index l.initial.jails l.jails
