use Rattle.std.proofs.Common.{◌∙◌}
use Rattle.jail_moves.proofs.BanLemmas.{begun_behind}
use Rattle.jail_moves.proofs.bans.begin.Goals as goal

pub returns-clause-bans : goal.returns-clause-bans
returns-clause-bans c = c.in_ok-start.ensures.ok ∙ begun_behind _ c.args.table.now c.requires.serial
