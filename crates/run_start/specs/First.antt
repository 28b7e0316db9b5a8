-- The first turn of a run: its server goes on from what was loaded, and has the jails of the configuration, with the paths that were found.
use Rattle.std.specs.Prelude.{◌≡◌, List, [], map}
use Rattle.f2b_model.specs.State.{Jail}
use Rattle.f2b_world.specs.Told.{Standing}
use Rattle.child_table.specs.Children.{nobody}
use Rattle.jail_conf.specs.declared.settings.Settings.{Settings}
use Rattle.reconcile.specs.Engines.{EngineNow}
use Rattle.reconcile.specs.Loads.{Loaded}
use Rattle.run_law.specs.Law.{Goes, Halts}
use Rattle.run_law.specs.Paths.{Path, with_paths}
use Rattle.run_law.specs.Points.{AtFirst, Run}
use Rattle.run_law.specs.Server.{Server, jails}
use Rattle.run_law.specs.Stages.{IsAt, IsStill}
use Rattle.run_law.specs.Start.{first_turn, starts_with}
use Rattle.run_law.specs.declared.plan.Plan.{Plan}
use Rattle.run_law.specs.declared.status.Status.{Status}
use Rattle.run_start.specs.Followed.{AreAwake}
use Rattle.run_start.specs.Names.{HasFound}
use Rattle.run_start.specs.declared.named.Named.{Named}
use Rattle.run_steps.specs.Keeping.{KeepsClocked}
use Rattle.run_steps.specs.Starting.{KeepsLoaded}
use Rattle.run_steps.specs.declared.clocked.Clocked.{Clocked}

-- What the code keeps of a server before its first turn: its jails are those of the configuration, and none is idle.
pub record KeepsFirst (plan : Plan) (settings : Settings) (s : Server) (kept : Clocked) : Type 0 where
  pub clocked : KeepsClocked s kept
  pub found : List Path
  pub definitions : map (λ (j : Jail). j.definition) (jails s) ≡ (with_paths settings.defs found).jails
  pub awake : AreAwake (jails s)
  pub logs : s.logs ≡ []
  pub children : s.children ≡ nobody
  pub clients : s.clients ≡ []
  pub left : s.left ≡ plan.turns

-- the run comes to the first turn of a server that the code keeps
pub record Begun (old new : Standing) (plan : Plan) (settings : Settings) (r : Run) (kept : Clocked) : Type 0 where
  pub to : Run
  pub server : Server
  pub goes : Goes old.told new.told r to
  pub at : IsAt to (first_turn server)
  pub keeps : KeepsFirst plan settings server kept

-- what the code keeps of a server to which nothing happened since it was loaded
pub record KeepsBegun (plan : Plan) (s : Server) (kept : Clocked) : Type 0 where
  pub clocked : KeepsClocked s kept
  pub logs : s.logs ≡ []
  pub children : s.children ≡ nobody
  pub clients : s.clients ≡ []
  pub left : s.left ≡ plan.turns

-- from where all paths are found to the first turn
pub record Configures (old new : Standing) (named : Named) (after : Clocked) : Type 0 where
  pub runs : (plan : Plan) (settings : Settings) (here : Run) (s : Server) → IsStill here → HasFound settings.defs named.defs → KeepsBegun plan s named.clocked
      → Begun old new plan settings (starts_with named.before named.defs s here) after

-- the run ends on the way
pub record ConfigureFails (old new : Standing) (named : Named) (status : Status) : Type 0 where
  pub runs : (here : Run) (s : Server) → IsStill here → KeepsClocked s named.clocked → Halts old.told new.told (starts_with named.before named.defs s here) status

-- from the first reading of the clock to the first turn, where the engine is what was loaded
pub record Begins (old new : Standing) (plan : Plan) (settings : Settings) (engine : EngineNow) (kept : Clocked) : Type 0 where
  pub runs : (r : Run) (l : Loaded) → r.plan ≡ plan → IsAt r (AtFirst settings l) → KeepsLoaded l engine → Begun old new plan settings r kept

-- the run ends on the way
pub record BeginFails (old new : Standing) (plan : Plan) (settings : Settings) (engine : EngineNow) (status : Status) : Type 0 where
  pub runs : (r : Run) (l : Loaded) → r.plan ≡ plan → IsAt r (AtFirst settings l) → KeepsLoaded l engine → Halts old.told new.told r status
