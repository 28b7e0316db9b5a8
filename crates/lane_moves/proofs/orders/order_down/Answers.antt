-- The bans are taken back before the lane stops.
use Rattle.std.proofs.Common.{None, [], ◌∷◌}
use Rattle.f2b_base.specs.declared.job.JobKind.TheVariants.{Stop, Unban}
use Rattle.f2b_model.specs.Orders.{lane_orders, order}
use Rattle.f2b_model.specs.Active.{held_of}
use Rattle.lane_moves.proofs.OrderedLemmas.{ordered_more}
use Rattle.lane_moves.proofs.orders.order_down.Goals as goal

pub returns : goal.returns
returns c =
    ordered_more c.args.at (lane_orders Unban c.args.lane.now (held_of c.args.held.now)) (order Stop None c.args.lane.now ∷ []) c.args.book.now c.order_held.new.book c.order_lane.new.book
    c.in_ok-order_held.ensures c.in_ok-order_lane.ensures
