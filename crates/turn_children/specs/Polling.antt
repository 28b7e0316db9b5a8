-- How a command that runs is asked and ended.
use Rattle.std.specs.Prelude.{ℕ, ◌+◌, ◌≡◌, if◌then◌else◌, Option, Some, None}
use Rattle.f2b_base.specs.declared.job.Outcome.{Outcome}
use Rattle.f2b_base.specs.declared.job.Outcome.TheVariants.{Status as EndedWith}
use Rattle.f2b_world.specs.Told.{Standing}
use Rattle.f2b_world.specs.declared.answer.PollAnswer.{PollAnswer}
use Rattle.f2b_world.specs.declared.answer.PollAnswer.TheVariants.{Ended as PollEnded}
use Rattle.child_table.specs.Children.{ended, passed_by}
use Rattle.child_table.specs.Late.{is_late}
use Rattle.child_table.specs.declared.child.Child.{Child}
use Rattle.run_law.specs.Law.{Halts}
use Rattle.run_law.specs.Points.{Point, AtTurn, AtKill, Run}
use Rattle.run_law.specs.Polls.{child_ended}
use Rattle.run_law.specs.Server.{Server}
use Rattle.run_law.specs.Stages.{IsAt, Reaches}
use Rattle.run_law.specs.Turn.{to_polls}
use Rattle.run_law.specs.declared.status.Status.{Status}
use Rattle.run_steps.specs.Keeping.{KeepsRunning}
use Rattle.run_steps.specs.declared.running.Running.{Running}

-- the child of a place is late
abbrev pub at_kill : ℕ → Server → Point
at_kill place s = AtTurn (AtKill place) s

-- how a child ended, if it has
abbrev pub outcome_of : PollAnswer → Option Outcome
outcome_of (PollEnded status) = Some (EndedWith status)
outcome_of _ = None

-- the place behind a child that still runs, unless it is late
abbrev pub place_behind : ℕ → ℕ → Child → Option ℕ
place_behind now place c = if is_late now c then None else Some (place + 1)

-- the child of a place is gone, and all else is as before
pub record IsGone (place : ℕ) (before after : Running) : Type 0 where
  pub clocked : after.clocked ≡ before.clocked
  pub logs : after.logs ≡ before.logs
  pub children : after.children ≡ ended place before.children
  pub clients : after.clients ≡ before.clients
  pub left : after.left ≡ before.left

-- besides, it was a check of this job that has passed
pub record HasPassed (place job : ℕ) (before after : Running) : Type 0 where
  pub clocked : after.clocked ≡ before.clocked
  pub logs : after.logs ≡ before.logs
  pub children : after.children ≡ passed_by job (ended place before.children)
  pub clients : after.clients ≡ before.clients
  pub left : after.left ≡ before.left

-- the end of the child of a place was taken and said, from right behind the call that told of it
pub record EndBrings (old new : Standing) (place : ℕ) (child : Child) (outcome : Outcome) (before after : Running) : Type 0 where
  pub runs : (r : Run) (s : Server) (here : Point) → IsAt r here → KeepsRunning s before → Reaches KeepsRunning old new (child_ended outcome child place s r) (to_polls place) after

-- the run ended there
pub record EndFails (old new : Standing) (place : ℕ) (child : Child) (outcome : Outcome) (before : Running) (status : Status) : Type 0 where
  pub runs : (r : Run) (s : Server) (here : Point) → IsAt r here → KeepsRunning s before → Halts old.told new.told (child_ended outcome child place s r) status
