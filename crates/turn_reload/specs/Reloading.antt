-- A configuration that is read again for the client of a place.
use Rattle.std.specs.Prelude.{ℕ, ◌≡◌, List}
use Rattle.client_table.specs.Clients.{Client}
use Rattle.f2b_world.specs.Told.{Standing}
use Rattle.jail_conf.specs.declared.settings.Settings.{Settings}
use Rattle.run_law.specs.Law.{Halts}
use Rattle.run_law.specs.Points.{Point, Run}
use Rattle.run_law.specs.Reload.{at_reload, reloaded}
use Rattle.run_law.specs.Server.{Server, following}
use Rattle.run_law.specs.Stages.{IsAt, Reaches}
use Rattle.run_law.specs.Turn.{behind_client}
use Rattle.run_law.specs.declared.plan.Plan.{Plan}
use Rattle.run_law.specs.declared.status.Status.{Status}
use Rattle.run_start.specs.Followed.{ArePlaces, rules_in}
use Rattle.run_steps.specs.Keeping.{KeepsRunning}
use Rattle.run_steps.specs.declared.clocked.Clocked.{Clocked}
use Rattle.run_steps.specs.declared.running.Running.{Running}
use Rattle.turn_reload.specs.Taking.{KeepsReloaded, Takes}
use Rattle.turn_reload.specs.declared.reloaded.Reloaded.{Reloaded}
use Rattle.turn_reload.specs.declared.reloaded.Reread.{Reread}
use Rattle.turn_reload.specs.declared.reloaded.Reread.TheVariants.{Untaken, Taken}

-- ---- what comes of it

-- C is what the code keeps then
module _ {C : Type 0} (Keeps : Server → C → Type 0) where
  -- a run of this plan comes from there to a point
  pub record ReadsTo (old new : Standing) (plan : Plan) (place : ℕ) (there : Server → Point) (before : Running) (after : C) : Type 0 where
    pub runs : (r : Run) (s : Server) → r.plan ≡ plan → IsAt r (at_reload place s) → KeepsRunning s before → Reaches Keeps old new r there after

-- The turn goes on behind the client: as before, or, where it is taken, with the logs of the jails that there are now.
abbrev pub Rereads : Standing → Standing → Plan → ℕ → Running → Reread → Type 0
Rereads old new plan place before (Untaken after) = ReadsTo KeepsRunning old new plan place (behind_client place) before after
Rereads old new plan place before (Taken filters after) = ReadsTo KeepsReloaded old new plan place (reloaded place) before after

-- the run ended on the way
pub record RereadFails (old new : Standing) (plan : Plan) (place : ℕ) (before : Running) (status : Status) : Type 0 where
  pub runs : (r : Run) (s : Server) → r.plan ≡ plan → IsAt r (at_reload place s) → KeepsRunning s before → Halts old.told new.told r status

-- it is taken, from right behind the last of its patterns
abbrev pub TakesRead : Standing → Standing → Settings → ℕ → Running → Reread → Type 0
TakesRead old new settings place before (Untaken after) = ⊥
TakesRead old new settings place before (Taken filters after) = Takes old new settings place before after

-- ---- what is kept behind it

abbrev pub clocked_in : Reread → Clocked
clocked_in (Untaken after) = after.clocked
clocked_in (Taken filters after) = after.clocked

abbrev pub clients_in : Reread → List Client
clients_in (Untaken after) = after.clients
clients_in (Taken filters after) = after.clients

abbrev pub left_in : Reread → ℕ
left_in (Untaken after) = after.left
left_in (Taken filters after) = after.left

-- the filters are those of the jails, and what is kept of each log is a place
abbrev pub CanFollow : Reread → Type 0
CanFollow (Untaken after) = Unit {0}
CanFollow (Taken filters after) = (filters.items ≡ rules_in after.clocked) × ArePlaces after.clocked

-- the logs of any server that is kept so go on in what is kept of it then
pub record FollowsOn (before : Reloaded) (after : Running) : Type 0 where
  pub keeps : (s : Server) → KeepsReloaded s before → KeepsRunning (following s) after
