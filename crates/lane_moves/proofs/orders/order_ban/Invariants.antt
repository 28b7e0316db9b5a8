use Rattle.std.proofs.Common.{◌≡◌, take}
use Rattle.f2b_model.specs.Orders.{ban_orders}
use Rattle.lane_moves.specs.Pending.{ordered}
use Rattle.lane_moves.proofs.orders.order_ban.Given as goal

abbrev pub invariant-loop-lane : goal.invariant-loop-lane
invariant-loop-lane l = l.book ≡ ordered l.at (ban_orders l.lines l.kind (record { jail = l.jail; ban = l.ban }) (take l.lane-index l.up)) l.initial.book
