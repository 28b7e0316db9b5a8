-- The jail's actions, each as a lane.
use Rattle.std.proofs.Common.{◌∙◌, rules, tests}
use Rattle.std.proofs.lemmas.Iterator.{YieldsList-from_slice}
use Rattle.std.proofs.lemmas.Iterator.Search.{any_from_yields_List}
use Rattle.f2b_base.specs.declared.jail.ActionDef.{ActionDef}
use Rattle.f2b_base.specs.declared.job.UpLane.{UpLane}
use Rattle.f2b_model.specs.Families.{same_up}
use Rattle.lane_moves.proofs.LaneLemmas.{any_map}
use Rattle.lane_moves.proofs.up.is_of_jail.Goals as goal

pub returns : goal.returns
returns c =
    let as_lane = λ (action : ActionDef). let lane : UpLane = record { jail = c.args.jail.now.name; action = action } in lane in
    any_from_yields_List (λ (action : ActionDef). same_up c.args.lane.now (as_lane action)) _ _ _ c.any.ensures.ran (YieldsList-from_slice c.args.jail.now.actions cc) (λ x b q k. search (rules, tests))
    ∙ any_map (same_up c.args.lane.now) as_lane c.args.jail.now.actions
