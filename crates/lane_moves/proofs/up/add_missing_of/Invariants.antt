use Rattle.std.proofs.Common.{◌≡◌, ◌++◌, not, take, filter, map}
use Rattle.f2b_base.specs.declared.jail.ActionDef.{ActionDef}
use Rattle.f2b_base.specs.declared.job.UpLane.{UpLane}
use Rattle.f2b_model.specs.Orders.{is_up, lane_id}
use Rattle.lane_moves.proofs.up.add_missing_of.Given as goal

abbrev pub invariant-loop-action : goal.invariant-loop-action
invariant-loop-action l =
    l.lanes ≡ l.initial.lanes ++ filter (λ (lane : UpLane). not (is_up l.up (lane_id lane))) (map (λ (action : ActionDef). record { jail = l.jail.name; action = action }) (take l.action-index l.jail.actions))
