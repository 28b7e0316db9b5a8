-- The command of a lane's check.
use Rattle.std.specs.Prelude.{ℕ, List, Option, Some, None}
use Rattle.f2b_base.specs.declared.job.UpLane.{UpLane}
use Rattle.f2b_model.specs.Orders.{fill_of}
use Rattle.f2b_model.specs.Render.{rendered}

-- the template of the check, with the values of a Start of the lane
abbrev pub check_text : UpLane → List ℕ
check_text lane = rendered lane.action.check (fill_of lane.action.family None)

-- that of the lane whose check is run, if there is one
abbrev pub check_text_of : Option UpLane → Option (List ℕ)
check_text_of None = None
check_text_of (Some lane) = Some (check_text lane)
