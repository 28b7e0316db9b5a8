use Rattle.std.proofs.Common.{◌≡◌, ◌++◌, take, map}
use Rattle.run_start.specs.Walks.{path_at}
use Rattle.run_start.proofs.paths.push_watches.Given as goal

abbrev pub invariant-loop-watch : goal.invariant-loop-watch
invariant-loop-watch l = l.paths ≡ l.initial.paths ++ map (path_at l.jail) (take l.watch-index l.watches)
