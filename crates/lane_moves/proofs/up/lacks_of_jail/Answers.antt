-- The jail's actions, each as a lane.
use Rattle.std.proofs.Common.{◌∙◌, not, rules, tests}
use Rattle.std.proofs.lemmas.Iterator.{YieldsList-from_slice}
use Rattle.std.proofs.lemmas.Iterator.Search.{any_from_yields_List}
use Rattle.f2b_base.specs.declared.jail.ActionDef.{ActionDef}
use Rattle.f2b_base.specs.declared.job.UpLane.{UpLane}
use Rattle.f2b_model.specs.Orders.{is_up, lane_id}
use Rattle.lane_moves.proofs.LaneLemmas.{any_map}
use Rattle.lane_moves.proofs.up.lacks_of_jail.Goals as goal

pub returns : goal.returns
returns c =
    let as_lane = λ (action : ActionDef). let lane : UpLane = record { jail = c.args.jail.now.name; action = action } in lane in
    any_from_yields_List (λ (action : ActionDef). not (is_up c.args.up.now (lane_id (as_lane action)))) _ _ _ c.any.ensures.ran (YieldsList-from_slice c.args.jail.now.actions cc) (λ x b q k. search (rules, tests))
    ∙ any_map (λ lane. not (is_up c.args.up.now (lane_id lane))) as_lane c.args.jail.now.actions
