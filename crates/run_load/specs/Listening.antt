-- What letting clients in hands up, whatever was loaded before: the run comes to the first reading of the clock, or ends.
use Rattle.f2b_world.specs.Told.{History, Standing}
use Rattle.std.specs.Prelude.{Option}
use Rattle.ban_journal.specs.Places.{IsPlaced}
use Rattle.jail_conf.specs.declared.settings.Settings.{Settings}
use Rattle.reconcile.specs.Loads.{Loaded}
use Rattle.run_law.specs.Points.{AtFirst, AtListen}
use Rattle.run_law.specs.declared.plan.Plan.{Plan}
use Rattle.run_law.specs.declared.status.Status.{Status}
use Rattle.run_steps.specs.Starting.{StartFails, Starts}
use Rattle.slot_writes.specs.declared.position.Position.{Position}

-- from where clients are let in to the first reading of the clock, whatever the plan is and whatever was loaded
pub record Listens (old new : Standing) (settings : Settings) : Type 0 where
  pub starts : (plan : Plan) (l : Loaded) → Starts old new plan (AtListen settings l) (AtFirst settings l)

-- the run ends there
pub record ListenFails (old new : Standing) (settings : Settings) (status : Status) : Type 0 where
  pub fails : (plan : Plan) (l : Loaded) → StartFails old new plan (AtListen settings l) status

-- any journal that stood in its places stands there still
pub record LeavesPlaces (old new : Option History) : Type 0 where
  pub each : (p : Position) → IsPlaced p old → IsPlaced p new
