use Rattle.std.proofs.Common.{◌≡◌, take, map}
use Rattle.log_set.specs.Logs.{first_search}
use Rattle.log_set.proofs.searches.searches.Given as goal

abbrev pub invariant-loop-index : goal.invariant-loop-index
invariant-loop-index l = l.jails.items ≡ map first_search (take l.index l.definitions)
