-- The whole model: the jails, and the lanes of jobs beside them.
use Rattle.std.specs.Prelude.{◌^◌, Bool, cond, ◌||◌, nat_lt, List, [], ◌∷◌}
use Rattle.f2b_base.specs.Limits.{default_purge}
use Rattle.f2b_base.specs.declared.input.Input.{Input}
use Rattle.f2b_base.specs.declared.job.Job.{Job}
use Rattle.f2b_model.specs.declared.told.Told.{Told}
use Rattle.f2b_model.specs.declared.jail_now.JailNow.{JailNow}
use Rattle.f2b_model.specs.Active.{held}
use Rattle.f2b_model.specs.Jobs.{Ledger}
use Rattle.f2b_model.specs.Lanes.{Lanes, Books, books, books_now, lanes_issued, lanes_step, first_lanes, lanes_now, lanes_from}
use Rattle.f2b_model.specs.LanesTold.{lanes_told}
use Rattle.f2b_model.specs.Nows.{jails_now_of, jails_from}
use Rattle.f2b_model.specs.State.{Jail, JailsOf}
use Rattle.f2b_model.specs.Steps.{JailOps, moves, moves_now, is_spent, at_reading, step_by}
use Rattle.f2b_model.specs.Told.{jails_told}

-- jails of some kind, and lanes over jobs that are kept in some way
pub record Whole (J L : Type 0) : Type 0 where
  pub jails : JailsOf J
  pub lanes : Lanes L

module _ {J L : Type 0} (m : JailOps J) (b : Books L) where
  -- whether the serials of bans or the ids of jobs are used up: nothing happens any more
  abbrev pub is_whole_spent : Whole J L → Bool
  is_whole_spent w = is_spent w.jails || nat_lt (2 ^ 62) w.lanes.next_job

  -- The step: the jails make theirs, and the lanes take what it told, the bans at the reading and the bans after it.
  abbrev pub whole_step : Whole J L → Input → Whole J L
  whole_step w input =
      cond (is_whole_spent w) w (
      let after = step_by m w.jails input in
      record {
        jails = after;
        lanes = lanes_step b after.at input.what (held m (at_reading m input.secs w.jails)) (held m after) (jails_told m w.jails input) w.lanes;
      })

  -- what a step tells: of the jails, and of the lanes once what the jails tell has become jobs
  abbrev pub whole_told : Whole J L → Input → Told
  whole_told w input =
      cond (is_whole_spent w) (record { jails = []; lanes = [] }) (
      let after = step_by m w.jails input in
      let told = jails_told m w.jails input in
      record { jails = told; lanes = lanes_told b after.at input.what (lanes_issued b after.at told w.lanes) })

-- the state: all that happened in the jails that are there, and all jobs that were ever made with all their endings
abbrev pub State : Type 0
State = Whole Jail Ledger

-- its middle state: what still matters
abbrev pub Now : Type 0
Now = Whole JailNow (List Job)

-- the middle state of a state
abbrev pub now_of : State → Now
now_of s = record { jails = jails_now_of s.jails; lanes = lanes_now s.lanes }

-- the state that holds just what a middle state does
abbrev pub state_from : Now → State
state_from n = record { jails = jails_from n.jails; lanes = lanes_from n.lanes }

-- the step of a state
abbrev pub step : State → Input → State
step = whole_step moves books

-- the steps of inputs, in their order
abbrev pub steps : State → List Input → State
steps s [] = s
steps s (input ∷ inputs) = steps (step s input) inputs

-- the step of a middle state
abbrev pub step_now : Now → Input → Now
step_now = whole_step moves_now books_now

-- the steps of inputs, in their order
abbrev pub steps_now : Now → List Input → Now
steps_now n [] = n
steps_now n (input ∷ inputs) = steps_now (step_now n input) inputs

-- what the step of a state tells
abbrev pub told : State → Input → Told
told = whole_told moves books

-- what the step of a middle state tells
abbrev pub told_now : Now → Input → Told
told_now = whole_told moves_now books_now

-- the state before the first configuration: nothing is there, and bans that are over count for a day
abbrev pub empty_state : State
empty_state = record { jails = record { at = 0; purge = default_purge; jails = []; next_ban = 0 }; lanes = first_lanes }
