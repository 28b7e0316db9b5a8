-- The windows forget; nothing else changes.
use Rattle.std.proofs.Common.{◌+◌, ◌∙◌, ap, length}
use Rattle.jail_moves.specs.Rooms.{Contents}
use Rattle.jail_moves.specs.Stale.{stale_addrs}
use Rattle.jail_moves.proofs.RoomLemmas.{swept_jail, swept_kept}
use Rattle.jail_moves.proofs.room.Room.sweep.Goals as goal

-- the jail before
before : (c : goal.After-sweep) → Contents
before c = record {
  idle = c.self.inside.idle;
  total_failed = c.self.inside.total_failed;
  total_banned = c.self.inside.total_banned;
  moment = c.self.inside.moment;
  watches = c.self.inside.watches;
  windows = c.self.inside.windows;
  bans = c.self.inside.bans;
}

pub returns-clause-jail : goal.returns-clause-jail
unfolding before
returns-clause-jail c = rw (← c.self.view_is) (λ definition limits. swept_jail definition (before c) c.sweep.new.self c.sweep.ensures.recent limits)

pub returns-clause-kept : goal.returns-clause-kept
unfolding before
returns-clause-kept c =
    rw (← c.self.view_is) (λ at next definition kept. swept_kept at next definition (before c) c.sweep.new.self c.sweep.ensures.limits c.sweep.ensures.times kept)

pub returns-clause-left : goal.returns-clause-left
returns-clause-left c =
    rw (← c.self.view_is)
    (ap (λ n. length (stale_addrs c.self.inside.moment n c.sweep.new.self.failures) + c.sweep.result) c.sweep.ensures.limits.findtime ∙ c.sweep.ensures.left)

pub returns-clause-none : goal.returns-clause-none
returns-clause-none c = λ fewer. ap (λ n. stale_addrs c.self.inside.moment n c.sweep.new.self.failures) c.sweep.ensures.limits.findtime ∙ c.sweep.ensures.none fewer
