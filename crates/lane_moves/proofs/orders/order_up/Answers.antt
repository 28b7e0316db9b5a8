-- The lane starts before it takes its bans.
use Rattle.std.proofs.Common.{None, [], ◌∷◌}
use Rattle.f2b_base.specs.declared.job.JobKind.TheVariants.{Start, Ban}
use Rattle.f2b_model.specs.Orders.{lane_orders, order}
use Rattle.f2b_model.specs.Active.{held_of}
use Rattle.lane_moves.proofs.OrderedLemmas.{ordered_more}
use Rattle.lane_moves.proofs.orders.order_up.Goals as goal

pub returns : goal.returns
returns c =
    ordered_more c.args.at (order Start None c.args.lane.now ∷ []) (lane_orders Ban c.args.lane.now (held_of c.args.held.now)) c.args.book.now c.order_lane.new.book c.order_held.new.book
    c.in_ok-order_lane.ensures c.in_ok-order_held.ensures
