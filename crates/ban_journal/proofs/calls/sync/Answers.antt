use Rattle.ban_journal.proofs.CallLemmas.{sync_done}
use Rattle.ban_journal.proofs.calls.sync.Goals as goal

pub returns-in-Done-clause-ok : goal.returns-in-Done-clause-ok
returns-in-Done-clause-ok g c = sync_done c.args.slot (g.D.Outside.stands c.args.disk.now) (g.D.Outside.stands c.disk_sync.new.self) c.in-Done.ensures
