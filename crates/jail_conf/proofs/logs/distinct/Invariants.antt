use Rattle.std.proofs.Common.{◌≡◌, take}
use Rattle.jail_conf.specs.Logs.{distinct}
use Rattle.jail_conf.proofs.logs.distinct.Given as goal

abbrev pub invariant-loop-watch : goal.invariant-loop-watch
invariant-loop-watch l = l.kept ≡ distinct (take l.watch-index l.watches)
