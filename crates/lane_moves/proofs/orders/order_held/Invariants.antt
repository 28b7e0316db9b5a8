use Rattle.std.proofs.Common.{◌≡◌, take}
use Rattle.f2b_model.specs.Orders.{lane_orders}
use Rattle.f2b_model.specs.Active.{held_of}
use Rattle.lane_moves.specs.Pending.{ordered}
use Rattle.lane_moves.proofs.orders.order_held.Given as goal

abbrev pub invariant-loop-jail : goal.invariant-loop-jail
invariant-loop-jail l = l.book ≡ ordered l.at (lane_orders l.kind l.lane (held_of (take l.jail-index l.held))) l.initial.book
