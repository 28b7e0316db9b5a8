use Rattle.std.proofs.Common.{◌≡◌, take}
use Rattle.f2b_model.specs.Orders.{told_orders}
use Rattle.lane_moves.specs.Pending.{ordered}
use Rattle.lane_moves.proofs.orders.order_told.Given as goal

abbrev pub invariant-loop-happening : goal.invariant-loop-happening
invariant-loop-happening l = l.book ≡ ordered l.at (told_orders l.up (take l.happening-index l.told)) l.initial.book
