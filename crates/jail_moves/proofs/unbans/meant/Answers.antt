use Rattle.jail_moves.proofs.BanLemmas.{all_meant}
use Rattle.jail_moves.proofs.unbans.meant.Goals as goal

pub returns-in-None : goal.returns-in-None
returns-in-None c = rw (c.in-None.is, ← (all_meant c.args.table.now.active)) c.bans.ensures
