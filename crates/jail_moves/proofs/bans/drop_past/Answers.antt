use Rattle.jail_moves.proofs.BanLemmas.{none_stale}
use Rattle.jail_moves.proofs.bans.drop_past.Goals as goal

pub returns-else-purge-at : goal.returns-else-purge-at
returns-else-purge-at c = none_stale c.args.at c.args.purge c.args.table.now c.if-purge-at.false
