-- A configuration that is not taken, from right behind its reading.
use Rattle.std.specs.Prelude.{ℕ}
use Rattle.f2b_world.specs.Told.{Standing}
use Rattle.run_law.specs.Law.{Halts}
use Rattle.run_law.specs.Points.{Run}
use Rattle.run_law.specs.Reload.{untaken_for}
use Rattle.run_law.specs.Server.{Server}
use Rattle.run_law.specs.Stages.{IsStill, Reaches}
use Rattle.run_law.specs.Turn.{behind_client}
use Rattle.run_law.specs.declared.status.Status.{Status}
use Rattle.run_steps.specs.Keeping.{KeepsRunning}
use Rattle.run_steps.specs.declared.running.Running.{Running}

-- the turn goes on behind the client that was told why
pub record Leaves (old new : Standing) (place : ℕ) (status : Status) (before after : Running) : Type 0 where
  pub runs : (r : Run) (s : Server) → IsStill r → KeepsRunning s before → Reaches KeepsRunning old new (untaken_for place s status r) (behind_client place) after

-- the run ended on the way
pub record LeaveFails (old new : Standing) (place : ℕ) (status : Status) (before : Running) (fault : Status) : Type 0 where
  pub runs : (r : Run) (s : Server) → IsStill r → KeepsRunning s before → Halts old.told new.told (untaken_for place s status r) fault
