use Rattle.std.proofs.Common.{◌≡◌, take, flat_map}
use Rattle.run_law.specs.Paths.{paths_of_jail}
use Rattle.run_start.proofs.paths.paths_in.Given as goal

abbrev pub invariant-loop-jail : goal.invariant-loop-jail
invariant-loop-jail l = l.paths ≡ flat_map paths_of_jail (take l.jail-index l.jails)
