-- How one client is served, from right behind a call on it.
use Rattle.std.specs.Prelude.{ℕ, ◌≡◌, ◌<◌, ◌≤◌, ◌-◌, length, Bool, true, false, List, [], ◌∷◌, ◌++◌, Option, Some, None, option_map}
use Rattle.client_table.specs.Clients.{Client, after_read, changed_at, heard_at, unwritten_at}
use Rattle.f2b_world.specs.Told.{Standing}
use Rattle.f2b_world.specs.declared.answer.Accept.{Accept}
use Rattle.f2b_world.specs.declared.answer.Accept.TheVariants.{Conn}
use Rattle.f2b_world.specs.declared.answer.GateRead.{GateRead}
use Rattle.run_law.specs.Law.{Halts}
use Rattle.run_law.specs.Points.{Point, AtTurn, AtClose, Run}
use Rattle.run_law.specs.Reload.{at_reload}
use Rattle.run_law.specs.Requests.{to_heard}
use Rattle.run_law.specs.Server.{Server}
use Rattle.run_law.specs.Serving.{Service, point_on, responded, serves}
use Rattle.run_law.specs.Stages.{IsAt, Reaches}
use Rattle.run_law.specs.Turn.{behind_client, to_clients, to_starts}
use Rattle.run_law.specs.declared.status.Status.{Status}
use Rattle.run_steps.specs.Keeping.{KeepsRunning}
use Rattle.run_steps.specs.declared.running.Running.{Running}
use Rattle.turn_clients.specs.Responding.{told_by}
use Rattle.turn_clients.specs.declared.response.Response.{Response}

-- the number of a client that has connected, if one has
abbrev pub conn_in : Accept → Option ℕ
conn_in (Conn conn) = Some conn
conn_in _ = None

-- the client of a place is over
abbrev pub at_close : ℕ → Server → Point
at_close place s = AtTurn (AtClose place) s

-- behind a read the turn goes on there where the client of a place asked for that, and else behind that client
abbrev pub behind_read : Bool → ℕ → Server → Point
behind_read true place s = at_reload place s
behind_read false place s = behind_client place s

-- from the client of a place on, or there where one asked for that
abbrev pub onward_from : Option ℕ → ℕ → Server → Point
onward_from (Some next) place s = to_clients next s
onward_from None place s = at_reload place s

-- behind all clients, or where the client of a place asked for the configuration
abbrev pub served_to : Option ℕ → Server → Point
served_to None s = to_starts s
served_to (Some place) s = at_reload place s

-- how many clients stand behind a place
abbrev pub behind : ℕ → Running → ℕ
behind place kept = length kept.clients - place

-- it is written to whole
abbrev pub IsWritten : ℕ → Running → Type 0
IsWritten place kept = unwritten_at place kept.clients ≡ []

-- where it asked for the configuration it is written to whole
abbrev pub IsWrittenIf : Bool → ℕ → Running → Type 0
IsWrittenIf true place kept = IsWritten place kept
IsWrittenIf false place kept = Unit {0}

-- There are fewer behind the place to go on from than behind the one before; or one asked for the configuration: it is still there, and written to whole.
abbrev pub IsNearer : Running → ℕ → Running → Option ℕ → Type 0
IsNearer before place after (Some next) = behind next after < behind place before
IsNearer before place after None = (length after.clients ≡ length before.clients) × IsWritten place after

-- the client of a place is there, and written to whole
pub record IsAsking (place : ℕ) (kept : Running) : Type 0 where
  pub within : place < length kept.clients
  pub written : IsWritten place kept

-- the client of that place asked for the configuration, and there are no more behind it than there were
abbrev pub AsksBehind : Running → ℕ → Running → Option ℕ → Type 0
AsksBehind before from after (Some place) = IsAsking place after × (behind place after ≤ behind from before)
AsksBehind before from after None = Unit {0}

-- and behind it there are fewer
abbrev pub IsFarther : Running → ℕ → Running → Option ℕ → Type 0
IsFarther before place after (Some next) = IsAsking next after × (behind next after < behind place before)
IsFarther before place after None = Unit {0}

-- these are the clients, and all else is as before
pub record HasClients (cs : List Client) (before after : Running) : Type 0 where
  pub clocked : after.clocked ≡ before.clocked
  pub logs : after.logs ≡ before.logs
  pub children : after.children ≡ before.children
  pub clients : after.clients ≡ cs
  pub left : after.left ≡ before.left

-- What was heard of the client of a place is taken, and responded to so.
pub record HasHeard (place : ℕ) (answer : GateRead) (before after : Running) (given : Option Response) : Type 0 where
  pub clients : HasClients (responded (option_map told_by given) place (changed_at place (after_read before.clocked.now answer) before.clients)) before after
  pub responds : (s : Server) → KeepsRunning s before → option_map told_by given ≡ to_heard s.now s.state (heard_at answer place s.clients)

-- what a call came to was taken and said, from right behind that call
pub record Serves (old new : Standing) (service : Server → Service) (next : Server → Point) (before after : Running) : Type 0 where
  pub runs : (r : Run) (s : Server) (here : Point) → IsAt r here → KeepsRunning s before → Reaches KeepsRunning old new (serves (service s) s r) next after

-- the run ended there
pub record ServeFails (old new : Standing) (service : Server → Service) (before : Running) (status : Status) : Type 0 where
  pub runs : (r : Run) (s : Server) (here : Point) → IsAt r here → KeepsRunning s before → Halts old.told new.told (serves (service s) s r) status
