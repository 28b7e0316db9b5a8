-- The commands that run after some events, and what they answer.
use Rattle.std.specs.Prelude.{ℕ, ◌==◌, true, not, if◌then◌else◌, ltb, ℤ, pos, Option, Some, None, List, [], ◌∷◌, ◌++◌, map, filter, slice_get}
use Rattle.f2b_world.specs.declared.answer.PollAnswer.{PollAnswer}
use Rattle.f2b_world.specs.declared.answer.PollAnswer.TheVariants.{Running as StillRunning, Ended}
use Rattle.f2b_world.specs.declared.answer.StartAnswer.TheVariants.{Started}
use Rattle.f2b_world.specs.declared.event.Event.{Event}
use Rattle.f2b_world.specs.declared.event.Event.TheVariants.{ChildStart, ChildPoll, ChildKill}
use Rattle.f2b_mem.specs.Script.{counted}
use Rattle.f2b_mem.specs.declared.commands.Running.{Running}
use Rattle.f2b_mem.specs.declared.script.ChildPlan.{ChildPlan}

-- how many commands were started, and those that run
pub record Ran : Type 0 where
  pub started : ℕ
  pub running : List Running

abbrev pub ran_of : ℕ → List Running → Ran
ran_of started running = record { started = started; running = running }

-- the commands but for that of a job
abbrev pub without : ℕ → List Running → List Running
without job running = filter (λ (other : Running). not (other.job == job)) running

-- a command after that of a job was asked for once more
abbrev pub asked : ℕ → Running → Running
asked job running = record { job = running.job; number = running.number; polls = counted running.polls (running.job == job) }

-- A job's command that is started takes the place of the one before it. One that is killed runs no longer.
abbrev pub ran_step : Ran → Event → Ran
ran_step r (ChildStart job text Started) = ran_of (counted r.started true) (without job r.running ++ record { job = job; number = r.started; polls = 0 } ∷ [])
ran_step r (ChildPoll job answer) = ran_of r.started (map (asked job) r.running)
ran_step r (ChildKill job) = ran_of r.started (without job r.running)
ran_step r _ = r

abbrev pub ran_after : Ran → List Event → Ran
ran_after r [] = r
ran_after r (event ∷ events) = ran_after (ran_step r event) events

-- what runs after these events
abbrev pub ran_in : List Event → Ran
ran_in events = ran_after (ran_of 0 []) events

-- a command that is over, or never ends
abbrev pub ended : Option ℤ → PollAnswer
ended (Some status) = Ended status
ended None = StillRunning

-- a command that was asked for so often before, by its plan
abbrev pub ending : Option ChildPlan → ℕ → PollAnswer
ending None polls = Ended (pos 0)
ending (Some plan) polls = if ltb polls plan.polls then StillRunning else ended plan.status

-- what a job's command answers
abbrev pub polled : List ChildPlan → List Running → ℕ → PollAnswer
polled plans [] job = Ended (pos 0)
polled plans (running ∷ others) job = if running.job == job then ending (slice_get plans running.number) running.polls else polled plans others job
