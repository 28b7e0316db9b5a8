-- How turns go on, up to a client that asks for a reload.
use Rattle.std.specs.Prelude.{ℕ, ◌≡◌, ◌≤◌, ◌+◌, ◌*◌, Option, Some, None}
use Rattle.f2b_world.specs.Told.{Standing}
use Rattle.run_law.specs.Points.{Point}
use Rattle.run_law.specs.Reload.{at_reload}
use Rattle.run_law.specs.Server.{Server}
use Rattle.run_law.specs.Stages.{MoveFails, Moves}
use Rattle.run_law.specs.Turn.{to_starts}
use Rattle.run_law.specs.declared.status.Status.TheVariants.{TurnsSpent}
use Rattle.run_steps.specs.Keeping.{KeepsRunning}
use Rattle.run_steps.specs.declared.running.Running.{Running}
use Rattle.server_top.specs.Ticks.{at_clock}
use Rattle.turn_clients.specs.Serving.{IsAsking, behind}

-- the next turn begins, or all were made
abbrev pub EndsTurn : Standing → Standing → Running → Option Running → Type 0
EndsTurn old new before (Some after) = Moves KeepsRunning old new to_starts at_clock before after
EndsTurn old new before None = MoveFails KeepsRunning old new to_starts before TurnsSpent

-- of the turns that were left one is over, and this is not the last
abbrev pub IsNext : Running → Running → Type 0
IsNext before after = (1 ≤ after.left) × (after.left + 1 ≡ before.left)

-- a client asks for a reload, or all turns were made
abbrev pub GoesOn : Standing → Standing → (Server → Point) → Running → Option (Running × ℕ) → Type 0
GoesOn old new from before (Some r) = Moves KeepsRunning old new from (at_reload r.1) before r.0
GoesOn old new from before None = MoveFails KeepsRunning old new from before TurnsSpent

-- one that asks is still there, in a turn that is made
pub record Asks (kept : Running) (place : ℕ) : Type 0 where
  pub asking : IsAsking place kept
  pub left : 1 ≤ kept.left

-- What is left of a run where a client of a place asked for a reload: its turns, and of this one the clients behind. More than 16 are there never.
abbrev pub left_of : Running → ℕ → ℕ
left_of kept place = 17 * kept.left + behind place kept

-- or where all clients of a turn were served
abbrev pub left_from : Option ℕ → Running → ℕ
left_from (Some place) kept = left_of kept place
left_from None kept = 17 * kept.left
