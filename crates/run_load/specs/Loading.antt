-- What loading the journal of a run hands up: the run comes to where clients are let in, with what its slots come to, or ends.
use Rattle.std.specs.Prelude.{ℕ, ◌≡◌, false, Option, None, Ok}
use Rattle.f2b_world.specs.Told.{History, Standing}
use Rattle.ban_journal.specs.declared.load_error.LoadError.{LoadError}
use Rattle.ban_journal.specs.declared.load_error.LoadError.TheVariants.{DiskFault as LostDisk, NotAJournal as NoSuchJournal, NoMemory as NoRoom}
use Rattle.jail_conf.specs.declared.settings.Settings.{Settings}
use Rattle.reconcile.specs.Engines.{EngineNow}
use Rattle.reconcile.specs.LoadedEngines.{IsLoadedEngine}
use Rattle.reconcile.specs.Loads.{AreSound, Loaded, loaded}
use Rattle.reconcile.specs.Opens.{WhereTold}
use Rattle.run_law.specs.Law.{Halts}
use Rattle.run_law.specs.Points.{AtListen, AtStore, Run}
use Rattle.run_law.specs.Stages.{IsAt, IsStill, Refuses}
use Rattle.run_law.specs.Start.{store_named}
use Rattle.run_law.specs.Stops.{HoldsThese}
use Rattle.run_law.specs.declared.plan.Plan.{Plan}
use Rattle.run_law.specs.declared.status.Status.{Status}
use Rattle.run_law.specs.declared.status.Status.TheVariants.{DiskFault, NoMemory, NotAJournal}
use Rattle.run_steps.specs.Starting.{Arrives, KeepsLoaded}
use Rattle.slot_reader.specs.Reads.{OnlyReads, content}

-- A run of this plan had no input, and its slots hold what they held as it began.
pub record IsUnloaded (told : Option History) (plan : Plan) (r : Run) : Type 0 where
  pub asked : r.plan ≡ plan
  pub unclosed : r.unclosed ≡ None
  pub holds : HoldsThese r.slots told

-- the run comes to where clients are let in, with what its slots come to, and the engine is that
pub record Loads (old new : Standing) (plan : Plan) (settings : Settings) (engine : EngineNow) (r : Run) : Type 0 where
  pub comes : Loaded
  pub loads : loaded plan.limit r.slots ≡ Ok comes
  pub arrives : Arrives old new plan r (AtListen settings comes)
  pub keeps : KeepsLoaded comes engine

-- The journal of a run with sound slots was loaded, as long as the world tells. Of one that does not tell no slots are known.
pub record LoadsTo (old new : Standing) (plan : Plan) (settings : Settings) (engine : EngineNow) : Type 0 where
  pub runs : (r : Run) → IsAt r (AtStore settings) → IsUnloaded old.told plan r → AreSound r.slots → WhereTold new.told (λ g. Loads old new plan settings engine r)

-- the run ends on the way
pub record LoadFails (old new : Standing) (plan : Plan) (settings : Settings) (status : Status) : Type 0 where
  pub runs : (r : Run) → IsAt r (AtStore settings) → IsUnloaded old.told plan r → Halts old.told new.told r status

-- ---- behind the naming of the slots

-- they were read to their ends, and the engine is what they come to
pub record ReadsTo (old new : Standing) (limit : ℕ) (engine : EngineNow) : Type 0 where
  pub reads : OnlyReads false old new
  pub comes : WhereTold new.told (λ g. IsLoadedEngine limit (content g) engine)

abbrev pub status_of : LoadError → Status
status_of LostDisk = DiskFault
status_of (NoSuchJournal slot at) = NotAJournal slot at
status_of NoRoom = NoMemory

-- why they were not loaded is said before the run ends, but for want of memory
abbrev pub IsEnded : LoadError → Standing → Standing → Status → Type 0
IsEnded NoRoom old new status = (status ≡ NoMemory) × (new ≡ old)
IsEnded error old new status = Refuses old new 0 (status_of error) status

-- the run ends while they are read
pub record ReadFails (old new : Standing) (plan : Plan) (status : Status) : Type 0 where
  pub runs : (settings : Settings) (r : Run) → IsStill r → IsUnloaded old.told plan r → Halts old.told new.told (store_named settings r) status
