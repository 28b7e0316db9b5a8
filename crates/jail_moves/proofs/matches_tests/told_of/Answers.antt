use Rattle.std.proofs.Common.{arith}
use Rattle.jail_moves.proofs.matches_tests.told_of.Goals as goal

pub loop-addr-init : goal.loop-addr-init
loop-addr-init c = record { kept = c.requires; below = omega arith }
