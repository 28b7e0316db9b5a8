use Rattle.std.proofs.Common.{◌<◌}
use Rattle.f2b_base.specs.declared.ban.Ban.{Ban}
use Rattle.f2b_model.specs.Lists.{AllOf}
use Rattle.jail_rows.proofs.bans.table_after.Given as goal

abbrev pub invariant-loop-index : goal.invariant-loop-index
invariant-loop-index l = AllOf (λ (b : Ban). b.serial < l.index) l.table.active
