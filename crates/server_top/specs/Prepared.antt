-- What the start of a run comes to.
use Rattle.std.specs.Prelude.{ℕ, ◌≡◌, List, Option, Some}
use Rattle.f2b_world.specs.Told.{History, Standing}
use Rattle.jail_conf.specs.declared.settings.Settings.{Settings}
use Rattle.reconcile.specs.Engines.{EngineNow}
use Rattle.reconcile.specs.Loads.{AreSound, Loaded}
use Rattle.reconcile.specs.Opens.{WhereTold}
use Rattle.run_law.specs.Law.{Halts, opening}
use Rattle.run_law.specs.Points.{AtFirst, AtStore, Run}
use Rattle.run_law.specs.Stages.{IsAt}
use Rattle.run_law.specs.Stops.{HoldsThese, held_in}
use Rattle.run_law.specs.declared.plan.Plan.{Plan}
use Rattle.run_law.specs.declared.status.Status.{Status}
use Rattle.run_load.specs.Loading.{IsUnloaded}
use Rattle.run_start.specs.First.{Begun}
use Rattle.run_steps.specs.Starting.{Arrives, KeepsLoaded}
use Rattle.run_steps.specs.declared.clocked.Clocked.{Clocked}

-- where the history is told, what its slots mean is sound
pub record BeginsSound (told : Option History) : Type 0 where
  pub sound : (g : History) → told ≡ Some g → AreSound (held_in g)

-- ---- behind the configuration

-- the run comes to the first reading of the clock with what its slots come to, and the engine is that
pub record Opens (old new : Standing) (plan : Plan) (settings : Settings) (engine : EngineNow) (r : Run) : Type 0 where
  pub comes : Loaded
  pub arrives : Arrives old new plan r (AtFirst settings comes)
  pub keeps : KeepsLoaded comes engine

-- from the naming of the slots to the first reading of the clock, as long as the world tells
pub record OpensTo (old new : Standing) (plan : Plan) (settings : Settings) (engine : EngineNow) : Type 0 where
  pub runs : (r : Run) → IsAt r (AtStore settings) → IsUnloaded old.told plan r → AreSound r.slots → WhereTold new.told (λ g. Opens old new plan settings engine r)

-- from the naming of the slots to the first turn, as long as the world tells
pub record Resumes (old new : Standing) (plan : Plan) (settings : Settings) (kept : Clocked) : Type 0 where
  pub runs : (r : Run) → IsAt r (AtStore settings) → IsUnloaded old.told plan r → AreSound r.slots → WhereTold new.told (λ g. Begun old new plan settings r kept)

-- the run ends before the first turn
pub record ResumeFails (old new : Standing) (plan : Plan) (settings : Settings) (status : Status) : Type 0 where
  pub runs : (r : Run) → IsAt r (AtStore settings) → IsUnloaded old.told plan r → AreSound r.slots → Halts old.told new.told r status

-- ---- the whole start

-- A run of this plan comes to its first turn, with a server that the code keeps, where its slots are those that the disk holds, and what they
-- mean is sound, as long as the world tells.
pub record Prepares (old new : Standing) (plan : Plan) (kept : Clocked) : Type 0 where
  pub settings : Settings
  pub runs : (slots : ℕ → List ℕ) → HoldsThese slots old.told → AreSound slots → WhereTold new.told (λ g. Begun old new plan settings (opening plan slots) kept)

-- ---- a run that ends

-- such a run ends with this status
pub record PlanHalts (old new : Standing) (plan : Plan) (status : Status) : Type 0 where
  pub runs : (slots : ℕ → List ℕ) → HoldsThese slots old.told → AreSound slots → Halts old.told new.told (opening plan slots) status
