use Rattle.std.proofs.Common.{◌≡◌, [], take}
use Rattle.run_law.specs.Paths.{once_each}
use Rattle.run_start.specs.Few.{watches_at}
use Rattle.run_start.proofs.found.watches_found.Given as goal

abbrev pub invariant-loop-path : goal.invariant-loop-path
invariant-loop-path l = l.watches ≡ once_each [] (watches_at l.jail (take l.path-index l.found))
