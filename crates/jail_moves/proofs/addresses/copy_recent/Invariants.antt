use Rattle.std.proofs.Common.{◌≡◌, ◌++◌, take}
use Rattle.std.specs.List.{filter}
use Rattle.f2b_model.specs.Full.{is_recent}
use Rattle.jail_moves.proofs.addresses.copy_recent.Given as goal

abbrev pub invariant-loop-failure : goal.invariant-loop-failure
invariant-loop-failure l = l.failures ≡ l.fn.failures ++ filter (is_recent l.moment l.findtime) (take l.failure-index l.failure-items)
