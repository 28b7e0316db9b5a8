use Rattle.ban_journal.proofs.CallLemmas.{put_done}
use Rattle.ban_journal.proofs.calls.put.Goals as goal

pub returns-in-Done-clause-ok : goal.returns-in-Done-clause-ok
returns-in-Done-clause-ok g c = put_done c.args.slot c.args.at c.args.bytes.now (g.D.Outside.stands c.args.disk.now) (g.D.Outside.stands c.disk_write.new.self) c.in-Done.ensures
