use Rattle.std.proofs.Common.{◌≡◌, map}
use Rattle.ban_table.proofs.table.active_of.Given as goal

abbrev pub invariant-loop-ban : goal.invariant-loop-ban
invariant-loop-ban l = l.active ≡ map (λ ban. ban.now) l.yielded
