use Rattle.std.proofs.Common.{◌≡◌, take}
use Rattle.jail_core.proofs.state.copies.Given as goal

abbrev pub invariant-loop-lane : goal.invariant-loop-lane
invariant-loop-lane l = l.copies ≡ take l.lane-index l.lanes
