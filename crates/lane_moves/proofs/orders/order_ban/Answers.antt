-- A lane more.
use Rattle.f2b_model.specs.Orders.{Held, ban_orders}
use Rattle.lane_moves.specs.Pending.{order_where}
use Rattle.lane_moves.proofs.OrderedLemmas.{ordered_step, ban_orders_more}
use Rattle.lane_moves.proofs.orders.order_ban.Goals as goal

pub loop-lane-preserved : goal.loop-lane-preserved
loop-lane-preserved c =
    let h : Held = record { jail = c.args.jail.now; ban = c.args.ban } in
    ordered_step (ban_orders c.args.lines.now c.args.kind h) (order_where c.args.lines.now c.args.kind h) (ban_orders_more c.args.lines.now c.args.kind h) c.args.at c.args.up.now c.loop-lane.lane-index c.lane-item.result
    c.args.book.now c.loop-lane.book c.order_where.new.book c.loop-lane-test.true c.lane-item.is c.loop-lane.invariant c.in_ok-order_where.ensures
