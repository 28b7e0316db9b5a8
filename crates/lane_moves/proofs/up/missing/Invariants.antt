use Rattle.std.proofs.Common.{◌≡◌, not, take, filter}
use Rattle.std.specs.List.{flat_map}
use Rattle.f2b_model.specs.Lanes.{lanes_of_jail}
use Rattle.f2b_model.specs.Orders.{is_up, lane_id}
use Rattle.lane_moves.proofs.up.missing.Given as goal

abbrev pub invariant-loop-jail : goal.invariant-loop-jail
invariant-loop-jail l = l.lanes ≡ filter (λ lane. not (is_up l.up (lane_id lane))) (flat_map lanes_of_jail (take l.jail-index l.defs.jails))
