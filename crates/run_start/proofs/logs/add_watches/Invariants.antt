use Rattle.std.proofs.Common.{take, map}
use Rattle.run_law.specs.Logs.{log_begun}
use Rattle.run_start.specs.Followed.{AddsLogs}
use Rattle.run_start.proofs.logs.add_watches.Given as goal

abbrev pub invariant-loop-watch : goal.invariant-loop-watch
invariant-loop-watch l = AddsLogs l.initial.set l.set (map (log_begun l.jail) (take l.watch-index l.watches))
