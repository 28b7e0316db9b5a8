-- The job of a lane that takes the ban.
use Rattle.std.proofs.Common.{◌∙◌, sym}
use Rattle.f2b_model.specs.Orders.{Held}
use Rattle.lane_moves.proofs.OrderedLemmas.{taken_order}
use Rattle.lane_moves.proofs.orders.order_where.Goals as goal

pub returns-in_ok-order : goal.returns-in_ok-order
returns-in_ok-order c =
    let h : Held = record { jail = c.args.jail.now; ban = c.args.ban } in
    taken_order c.args.at c.args.lines.now c.args.kind h c.args.lane.now c.in_ok-fill.fill c.args.book.now c.order.new.self (sym c.takes.ensures ∙ c.if-takes.true)
    (c.in_ok-fill.ensures c.args.lane.now.action.family c.args.jail.now) c.in_ok-order.ensures
