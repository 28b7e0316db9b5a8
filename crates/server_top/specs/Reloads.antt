-- A run from one configuration that is taken to the next.
use Rattle.std.specs.Prelude.{ℕ, ◌≡◌, ◌<◌, ◌≤◌, ◌+◌, ◌-◌, ◌*◌, length, List, Option, Some, None}
use Rattle.f2b_world.specs.Told.{Standing}
use Rattle.filter_regex.specs.Rules.{Rules}
use Rattle.reconcile.specs.Loads.{AreSound}
use Rattle.reconcile.specs.Opens.{WhereTold}
use Rattle.run_law.specs.Law.{opening}
use Rattle.run_law.specs.Points.{Point}
use Rattle.run_law.specs.Reload.{at_reload, reloaded}
use Rattle.run_law.specs.Server.{Server}
use Rattle.run_law.specs.Stages.{Reaches}
use Rattle.run_law.specs.Stops.{HoldsThese}
use Rattle.run_law.specs.declared.plan.Plan.{Plan}
use Rattle.run_law.specs.declared.status.Status.{Status}
use Rattle.run_law.specs.declared.status.Status.TheVariants.{TurnsSpent}
use Rattle.run_start.specs.Followed.{ArePlaces, rules_in}
use Rattle.run_steps.specs.Keeping.{KeepsRunning}
use Rattle.run_steps.specs.declared.clocked.Clocked.{Clocked}
use Rattle.run_steps.specs.declared.running.Running.{Running}
use Rattle.server_top.specs.Prepared.{PlanHalts, Prepares}
use Rattle.server_top.specs.Turns.{left_of}
use Rattle.turn_reload.specs.Taking.{KeepsReloaded}
use Rattle.turn_reload.specs.declared.reloaded.Reloaded.{Reloaded}

-- ---- where a run stands

-- C is what the code keeps
module _ {C : Type 0} (Keeps : Server → C → Type 0) where
  -- A run of this plan came from its beginning to a point, with a server that the code keeps, as long as the world tells.
  pub record StandsAt (begun now : Standing) (plan : Plan) (there : Server → Point) (kept : C) : Type 0 where
    pub runs : (slots : ℕ → List ℕ) → HoldsThese slots begun.told → AreSound slots → WhereTold now.told (λ g. Reaches Keeps begun now (opening plan slots) there kept)

-- a client of a place asks for a reload, or all turns were made
abbrev pub StandsAsked : Standing → Standing → Plan → Option (Running × ℕ) → Type 0
StandsAsked begun now plan (Some r) = StandsAt KeepsRunning begun now plan (at_reload r.1) r.0
StandsAsked begun now plan None = PlanHalts begun now plan TurnsSpent

-- a configuration was taken for the client of a place, whatever its filters are, or all turns were made
abbrev pub StandsTaken : {A : Type 0} → Standing → Standing → Plan → Option (A × Reloaded × ℕ) → Type 0
StandsTaken begun now plan (Some r) = StandsAt KeepsReloaded begun now plan (reloaded r.2) r.1
StandsTaken begun now plan None = PlanHalts begun now plan TurnsSpent

-- the filters are those of the jails, what is kept of each log is a place, and the client is there, in a turn that is made
pub record GoesOnWith (rules : List Rules) (kept : Reloaded) (place : ℕ) : Type 0 where
  pub filters : rules ≡ rules_in kept.clocked
  pub places : ArePlaces kept.clocked
  pub within : place < length kept.clients
  pub left : 1 ≤ kept.left

-- ---- how much is left of it

abbrev pub left_in : Option (Running × ℕ) → ℕ
left_in (Some r) = left_of r.0 r.1 + 1
left_in None = 0

abbrev pub left_at : Reloaded → ℕ → ℕ
left_at kept place = 17 * kept.left + (length kept.clients - place) + 1

abbrev pub left_behind : {A : Type 0} → Option (A × Reloaded × ℕ) → ℕ
left_behind (Some r) = left_at r.1 r.2
left_behind None = 0

-- ---- from one configuration to the next, wherever the run began

pub record Takes {A : Type 0} (old new : Standing) (plan : Plan) (before : Option (Running × ℕ)) (after : Option (A × Reloaded × ℕ)) : Type 0 where
  pub goes : (begun : Standing) → StandsAsked begun old plan before → StandsTaken begun new plan after

-- the run ended on the way
pub record TakeHalts (old new : Standing) (plan : Plan) (before : Option (Running × ℕ)) (status : Status) : Type 0 where
  pub goes : (begun : Standing) → StandsAsked begun old plan before → PlanHalts begun new plan status

-- from what is kept before the first turn
pub record FirstTakes {A : Type 0} (old new : Standing) (plan : Plan) (before : Clocked) (after : Option (A × Reloaded × ℕ)) : Type 0 where
  pub goes : (begun : Standing) → Prepares begun old plan before → StandsTaken begun new plan after

pub record FirstHalts (old new : Standing) (plan : Plan) (before : Clocked) (status : Status) : Type 0 where
  pub goes : (begun : Standing) → Prepares begun old plan before → PlanHalts begun new plan status

-- from where a configuration was taken for the client of a place
pub record NextTakes {A : Type 0} (old new : Standing) (plan : Plan) (before : Reloaded) (place : ℕ) (after : Option (A × Reloaded × ℕ)) : Type 0 where
  pub goes : (begun : Standing) → StandsAt KeepsReloaded begun old plan (reloaded place) before → StandsTaken begun new plan after

pub record NextHalts (old new : Standing) (plan : Plan) (before : Reloaded) (place : ℕ) (status : Status) : Type 0 where
  pub goes : (begun : Standing) → StandsAt KeepsReloaded begun old plan (reloaded place) before → PlanHalts begun new plan status
