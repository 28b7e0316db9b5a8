-- Where a run stands.
--
-- A run has a point, and beside it what is the same at every point: the inputs, the calls that are still to write the last of them, the
-- lines that were said and those that are owed. What is left to write comes first, then owed lines, all of them in one call, and then the
-- call of the point. So no point knows of the journal or of lines: an event gives news, and `brings` does the rest.
use Rattle.std.specs.Prelude.{ℕ, List, Option}
use Rattle.f2b_base.specs.declared.input.Input.{Input}
use Rattle.child_table.specs.declared.child.Child.{Child}
use Rattle.jail_conf.specs.declared.settings.Settings.{Settings}
use Rattle.reconcile.specs.Loads.{Loaded}
use Rattle.run_law.specs.Paths.{Naming}
use Rattle.run_law.specs.Patterns.{Pattern}
use Rattle.run_law.specs.Server.{Server}
use Rattle.run_law.specs.declared.plan.Plan.{Plan}
use Rattle.run_law.specs.declared.status.Status.{Status}
use Rattle.slot_writes.specs.Writes.{Write}

-- at which call the reading of a configuration for a client stands
pub data Rereading : Type 0 where
  OfTree : Rereading
  -- at the first of the patterns that are still to be built
  OfMakes : Settings → List Pattern → Rereading
  -- at the names for the first path that is left
  OfNames : Settings → Naming → Rereading

-- at which call a turn stands
pub data Place : Type 0 where
  AtClock : Place
  -- at the log of that place in its list, from 0
  AtLook : ℕ → Place
  -- at the child of that place in the list of those that run, from 0
  AtPoll : ℕ → Place
  -- that child is late
  AtKill : ℕ → Place
  AtAccept : Place
  -- at the client of that place in their list, from 0: it is written to or read
  AtClient : ℕ → Place
  -- that client is over
  AtClose : ℕ → Place
  -- the configuration is read again, for that client
  AtReload : Rereading → ℕ → Place
  -- at the start of a child, with its command
  AtStart : Child → List ℕ → Place
  AtPause : Place

pub data Point : Type 0 where
  -- the start: at the configuration
  AtTree : Point
  -- at the first of the patterns that are still to be built
  AtMakes : Settings → List Pattern → Point
  -- at the naming of the journal's slots
  AtStore : Settings → Point
  -- clients are let in
  AtListen : Settings → Loaded → Point
  -- at the first reading of the clock
  AtFirst : Settings → Loaded → Point
  -- at the names for the first path that is left
  AtNames : Settings → Naming → Server → Point
  -- a turn
  AtTurn : Place → Server → Point
  Over : Status → Point

pub record Run : Type 0 where
  pub plan : Plan
  -- what the slots of the journal held as the run began
  pub slots : ℕ → List ℕ
  pub point : Point
  -- all lines that were said, in order
  pub said : List (List ℕ)
  -- the lines that come next
  pub owed : List (List ℕ)
  -- the inputs that are closed, in order
  pub closed : List Input
  -- the last input, if it is not closed
  pub unclosed : Option Input
  -- the calls that are still to write it, and its lines, which are owed once it is closed
  pub writes : List Write
  pub held : List (List ℕ)
