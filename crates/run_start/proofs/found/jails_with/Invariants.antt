use Rattle.std.proofs.Common.{◌≡◌, take, map}
use Rattle.run_start.specs.Found.{with_watches}
use Rattle.run_start.proofs.found.jails_with.Given as goal

abbrev pub invariant-loop-jail : goal.invariant-loop-jail
invariant-loop-jail l = l.with ≡ map (with_watches l.found) (take l.jail-index l.jails)
