use Rattle.std.proofs.Common.{take, flat_map}
use Rattle.run_start.specs.Followed.{AddsLogs, logs_at}
use Rattle.run_start.proofs.logs.add_jails.Given as goal

abbrev pub invariant-loop-jail : goal.invariant-loop-jail
invariant-loop-jail l = AddsLogs l.initial.set l.set (flat_map logs_at (take l.jail-index l.jails))
