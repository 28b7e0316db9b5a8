-- The lane stops and starts before it takes its bans again.
use Rattle.std.proofs.Common.{None, [], ◌∷◌}
use Rattle.f2b_base.specs.declared.job.JobKind.TheVariants.{Start, Stop, Reban}
use Rattle.f2b_model.specs.Orders.{lane_orders, order}
use Rattle.f2b_model.specs.Active.{held_of}
use Rattle.lane_moves.proofs.OrderedLemmas.{ordered_more}
use Rattle.lane_moves.proofs.orders.order_restart.Goals as goal

pub returns : goal.returns
returns c =
    let stop = order Stop None c.args.lane.now in
    let start = order Start None c.args.lane.now in
    let both = ordered_more c.args.at (stop ∷ []) (start ∷ []) c.args.book.now c.order_lane.new.book c.order_lane-2.new.book c.in_ok-order_lane.ensures c.in_ok-order_lane-2.ensures in
    ordered_more c.args.at (stop ∷ start ∷ []) (lane_orders Reban c.args.lane.now (held_of c.args.held.now)) c.args.book.now c.order_lane-2.new.book c.order_held.new.book both c.in_ok-order_held.ensures
