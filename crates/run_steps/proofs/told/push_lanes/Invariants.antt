use Rattle.std.proofs.Common.{◌≡◌, ◌++◌, take, flat_map}
use Rattle.run_law.specs.Said.{lane_lines}
use Rattle.run_steps.proofs.told.push_lanes.Given as goal

abbrev pub invariant-loop-happening : goal.invariant-loop-happening
invariant-loop-happening l = l.lines ≡ l.initial.lines ++ flat_map (lane_lines l.now) (take l.happening-index l.lanes)
