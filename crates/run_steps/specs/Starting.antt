-- What a part of the start hands up: from one point to another, as long as there is no server yet.
use Rattle.std.specs.Prelude.{◌≡◌}
use Rattle.f2b_model.specs.Lists.{AllOf}
use Rattle.f2b_model.specs.Sound.{IsSound}
use Rattle.f2b_model.specs.Whole.{now_of}
use Rattle.f2b_world.specs.Told.{Standing, Adds}
use Rattle.reconcile.specs.Engines.{EngineNow}
use Rattle.reconcile.specs.Laws.{ChangesNoSlot}
use Rattle.run_law.specs.Law.{Goes, Halts}
use Rattle.reconcile.specs.Loads.{Loaded}
use Rattle.run_law.specs.Points.{Point, Run}
use Rattle.run_law.specs.Stages.{IsAt}
use Rattle.run_law.specs.declared.plan.Plan.{Plan}
use Rattle.run_law.specs.declared.status.Status.{Status}

-- a run of this plan comes to a point, on the slots that it began with, and no input came
pub record Arrives (old new : Standing) (plan : Plan) (r : Run) (there : Point) : Type 0 where
  pub to : Run
  pub goes : Goes old.told new.told r to
  pub at : IsAt to there
  pub asked : to.plan ≡ plan
  pub slots : to.slots ≡ r.slots
  pub unclosed : to.unclosed ≡ r.unclosed

-- from one point of the start to another
pub record Starts (old new : Standing) (plan : Plan) (from there : Point) : Type 0 where
  pub runs : (r : Run) → r.plan ≡ plan → IsAt r from → Arrives old new plan r there

-- the run ends on the way
pub record StartFails (old new : Standing) (plan : Plan) (from : Point) (status : Status) : Type 0 where
  pub runs : (r : Run) → r.plan ≡ plan → IsAt r from → Halts old.told new.told r status

-- nothing was written to a slot
abbrev pub LeavesSlots : Standing → Standing → Type 0
LeavesSlots old new = Adds old.told new.told (λ g es. AllOf ChangesNoSlot es)

-- The engine is what was loaded: the middle state of its state, which is sound, and where its journal stands.
pub record KeepsLoaded (l : Loaded) (engine : EngineNow) : Type 0 where
  pub core : engine.core ≡ now_of l.state
  pub sound : IsSound l.state
  pub journal : engine.journal ≡ l.position
