use Rattle.std.proofs.Common.{length, refl}
use Rattle.ban_journal.proofs.CallLemmas.{turn_done}
use Rattle.ban_journal.proofs.calls.turn.Goals as goal

pub returns-clause-ok : goal.returns-clause-ok
returns-clause-ok g c =
    turn_done c.args.slot (length c.args.whole.now) c.args.head c.args.whole.now c.args.entry.now (g.D.Outside.stands c.args.disk.now) (g.D.Outside.stands c.clear.new.disk) (g.D.Outside.stands c.put_behind.new.disk) (g.D.Outside.stands c.put_behind-2.new.disk) refl
    c.in_ok-clear.ensures.ok c.in_ok-put_behind.ensures.ok c.in_ok-put_behind-2.ensures.ok
