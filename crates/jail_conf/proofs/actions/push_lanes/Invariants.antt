use Rattle.std.proofs.Common.{◌≡◌, ◌++◌, take}
use Rattle.jail_conf.proofs.actions.push_lanes.Given as goal

abbrev pub invariant-loop-lane : goal.invariant-loop-lane
invariant-loop-lane l = l.all ≡ l.fn.all ++ take l.lane-index l.lanes
