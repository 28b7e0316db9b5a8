-- The lanes of all jails, jail by jail.
use Rattle.std.proofs.Common.{◌∙◌, not, rules, tests}
use Rattle.std.specs.List.{list_any}
use Rattle.std.proofs.lemmas.Iterator.{YieldsList-from_slice}
use Rattle.std.proofs.lemmas.Iterator.Search.{any_from_yields_List}
use Rattle.f2b_base.specs.declared.job.UpLane.{UpLane}
use Rattle.f2b_base.specs.declared.jail.JailDef.{JailDef}
use Rattle.f2b_model.specs.Lanes.{lanes_of_jail}
use Rattle.f2b_model.specs.Orders.{is_up, lane_id}
use Rattle.lane_moves.proofs.LaneLemmas.{any_flat}
use Rattle.lane_moves.proofs.up.lacks_some.Goals as goal

pub returns : goal.returns
returns c =
    let is_missing = λ (lane : UpLane). not (is_up c.args.up.now (lane_id lane)) in
    any_from_yields_List (λ (jail : JailDef). list_any is_missing (lanes_of_jail jail)) _ _ _ c.any.ensures.ran (YieldsList-from_slice c.args.defs.now.jails cc) (λ x b q k. search (rules, tests))
    ∙ any_flat is_missing lanes_of_jail c.args.defs.now.jails
