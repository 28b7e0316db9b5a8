-- A configuration that is taken, from right behind the last of its patterns.
use Rattle.std.specs.Prelude.{ℕ, ◌≡◌, [], Option}
use Rattle.f2b_base.specs.declared.input.What.{What}
use Rattle.f2b_world.specs.Told.{Standing}
use Rattle.jail_conf.specs.declared.settings.Settings.{Settings}
use Rattle.log_set.specs.Logs.{AreLogs}
use Rattle.run_law.specs.Law.{Goes, Halts}
use Rattle.run_law.specs.News.{server_after}
use Rattle.run_law.specs.Points.{Run}
use Rattle.run_law.specs.Reload.{left_for, reloaded, tells_taken}
use Rattle.run_law.specs.Server.{Server, jails}
use Rattle.run_law.specs.Stages.{IsAt, IsStill, Reaches}
use Rattle.run_law.specs.declared.status.Status.{Status}
use Rattle.run_start.specs.Followed.{AreAwake}
use Rattle.run_steps.specs.Keeping.{KeepsClocked, KeepsRunning}
use Rattle.run_steps.specs.declared.clocked.Clocked.{Clocked}
use Rattle.run_steps.specs.declared.running.Running.{Running}
use Rattle.turn_reload.specs.declared.reloaded.Reloaded.{Reloaded}

-- ---- the configuration alone

-- The run comes to behind the client, for the server that the configuration leads to: none of its jails is idle.
pub record Configured (old new : Standing) (place : ℕ) (r : Run) (s : Server) (after : Clocked) : Type 0 where
  pub to : Run
  pub what : Option What
  pub goes : Goes old.told new.told r to
  pub at : IsAt to (reloaded place (server_after what (tells_taken place s)))
  pub keeps : KeepsClocked (server_after what (tells_taken place s)) after
  pub awake : AreAwake (jails (server_after what (tells_taken place s)))

pub record Configures (old new : Standing) (settings : Settings) (before after : Clocked) : Type 0 where
  pub runs : (place : ℕ) (r : Run) (s : Server) → IsStill r → KeepsClocked s before → Configured old new place (left_for place s settings [] r) s after

-- the run ended on the way
pub record ConfigureFails (old new : Standing) (settings : Settings) (before : Clocked) (status : Status) : Type 0 where
  pub runs : (place : ℕ) (r : Run) (s : Server) → IsStill r → KeepsClocked s before → Halts old.told new.told (left_for place s settings [] r) status

-- ---- with all that is kept

-- What the code keeps of a server whose configuration was taken again, and whose logs are still those that were followed before.
pub record KeepsReloaded (s : Server) (kept : Reloaded) : Type 0 where
  pub clocked : KeepsClocked s kept.clocked
  pub awake : AreAwake (jails s)
  pub logs : AreLogs kept.logs.items s.logs
  pub children : kept.children ≡ s.children
  pub clients : kept.clients ≡ s.clients
  pub left : kept.left ≡ s.left

-- the turn goes on behind the client, with the logs of the jails that there are now
pub record Takes (old new : Standing) (settings : Settings) (place : ℕ) (before : Running) (after : Reloaded) : Type 0 where
  pub runs : (r : Run) (s : Server) → IsStill r → KeepsRunning s before → Reaches KeepsReloaded old new (left_for place s settings [] r) (reloaded place) after

-- the run ended on the way
pub record TakeFails (old new : Standing) (settings : Settings) (place : ℕ) (before : Running) (status : Status) : Type 0 where
  pub runs : (r : Run) (s : Server) → IsStill r → KeepsRunning s before → Halts old.told new.told (left_for place s settings [] r) status
