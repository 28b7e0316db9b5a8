-- What a server has come to, once it has read the clock.
use Rattle.std.specs.Prelude.{ℕ, max, min, Bool, if◌then◌else◌, List, [], map}
use Rattle.f2b_base.specs.Limits.{latest_reading}
use Rattle.f2b_base.specs.declared.input.Input.{Input}
use Rattle.f2b_base.specs.declared.input.What.{What}
use Rattle.f2b_base.specs.declared.outside.Reading.{Reading}
use Rattle.f2b_base.specs.declared.job.Job.{Job}
use Rattle.f2b_base.specs.declared.job.UpLane.{UpLane}
use Rattle.f2b_model.specs.Jobs.{pending}
use Rattle.f2b_model.specs.Lanes.{books}
use Rattle.f2b_model.specs.State.{Jail}
use Rattle.f2b_model.specs.Steps.{moves}
use Rattle.f2b_model.specs.Views.{view_of}
use Rattle.f2b_model.specs.Whole.{State, step, told, is_whole_spent}
use Rattle.child_table.specs.Children.{Children, nobody}
use Rattle.client_table.specs.Clients.{Client}
use Rattle.log_set.specs.Logs.{LogJail, Watching}
use Rattle.reconcile.specs.Loads.{Loaded}
use Rattle.run_law.specs.Logs.{log_jail, logs_of}
use Rattle.run_law.specs.Said.{lines_of}
use Rattle.slot_writes.specs.Entries.{Entry, Written, Full, Spent, entry_of}
use Rattle.slot_writes.specs.declared.position.Position.{Position}

pub record Server : Type 0 where
  -- the state after all inputs so far, the one that is being written among them
  pub state : State
  -- where the journal stands, once that one is written
  pub position : Position
  -- the greatest reading so far, and the last reading's word
  pub now : ℕ
  pub word : ℕ
  -- in the order of the jails and their watches
  pub logs : List Watching
  -- the commands that run, and the checks that have passed
  pub children : Children
  -- by their numbers
  pub clients : List Client
  -- the turns that are left
  pub left : ℕ

-- ---- what is derived

abbrev pub jails : Server → List Jail
jails s = s.state.jails.jails

-- as the set of the logs has them
abbrev pub log_jails : Server → List LogJail
log_jails s = map log_jail (jails s)

-- the jobs that are not settled, and the lanes that are up
abbrev pub jobs : Server → List Job
jobs s = pending s.state.lanes.jobs

abbrev pub lanes_up : Server → List UpLane
lanes_up s = s.state.lanes.up

abbrev pub is_stopping : Server → Bool
is_stopping s = s.state.lanes.stopping

-- whether serials or ids are used up
abbrev pub is_spent : Server → Bool
is_spent s = is_whole_spent moves books s.state

-- ---- the clock

-- a reading above the latest counts as it
abbrev pub moment_of : Reading → ℕ
moment_of answer = min answer.secs latest_reading

-- now never goes back
abbrev pub read_at : Reading → Server → Server
read_at answer s = record s { now = max s.now (moment_of answer); word = answer.word }

-- a server at its first reading goes on from what was loaded
abbrev pub begun : ℕ → Loaded → Reading → Server
begun turns l answer = record {
  state = l.state;
  position = l.position;
  now = max l.state.jails.at (moment_of answer);
  word = answer.word;
  logs = [];
  children = nobody;
  clients = [];
  left = turns;
}

-- ---- an input

-- what happened, at the last reading
abbrev pub input_at : Server → What → Input
input_at s what = record { secs = s.now; word = s.word; what = what }

-- what becomes of it in the journal; where serials or ids are used up it is not written
abbrev pub entry_in : Server → What → Entry
entry_in s what = if is_spent s then Spent else entry_of s.position (view_of s.state) (input_at s what)

-- where the journal stands behind an entry
abbrev pub behind_entry : Position → Entry → Position
behind_entry p (Written next writes) = next
behind_entry p (Full need) = p
behind_entry p Spent = p

-- the step of an input, which is written
abbrev pub taken : What → Server → Server
taken what s = record s { state = step s.state (input_at s what); position = behind_entry s.position (entry_in s what) }

abbrev pub told_lines : What → Server → List (List ℕ)
told_lines what s = lines_of s.now (told s.state (input_at s what))

-- the logs of the jails as they are now
abbrev pub following : Server → Server
following s = record s { logs = logs_of s.logs (jails s) }
