use Rattle.std.proofs.Common.{◌≡◌, ◌++◌, take, map}
use Rattle.run_law.specs.Said.{line_of}
use Rattle.run_steps.proofs.told.push_jails.Given as goal

abbrev pub invariant-loop-happening : goal.invariant-loop-happening
invariant-loop-happening l = l.lines ≡ l.initial.lines ++ map (line_of l.now) (take l.happening-index l.jails)
