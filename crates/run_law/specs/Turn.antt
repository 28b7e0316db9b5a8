-- How a turn goes on, from its end to its beginning: where each part is entered. A part that has nothing to do is passed over.
use Rattle.std.specs.Prelude.{ℕ, ◌+◌, ◌==◌, ◌&&◌, nat_lt, not, Bool, length, Option, Some, None, if◌then◌else◌}
use Rattle.f2b_base.specs.declared.job.Job.{Job}
use Rattle.f2b_base.specs.declared.job.UpLane.{UpLane}
use Rattle.child_table.specs.declared.child.Task.TheVariants.{Check, Command}
use Rattle.client_table.specs.Clients.{Asks, Nothing, asks_at, have_unwritten, is_over_at, most_clients}
use Rattle.lane_moves.specs.CheckText.{check_text}
use Rattle.log_set.specs.Logs.{next_look}
use Rattle.run_law.specs.Children.{checked_first, startable}
use Rattle.run_law.specs.Points.{Place, Point, AtTurn, AtLook, AtPoll, AtAccept, AtClient, AtClose, AtStart, AtPause, Over}
use Rattle.run_law.specs.Server.{Server, is_stopping, jobs, lanes_up, log_jails}
use Rattle.run_law.specs.declared.status.Status.TheVariants.{Stopped}

-- a stop was asked for, all jobs are settled, and all replies are taken
abbrev pub is_drained : Server → Bool
is_drained s = is_stopping s && (length (jobs s) == 0 && not (have_unwritten s.clients))

abbrev pub at_pause : Server → Point
at_pause s = AtTurn AtPause s

unfoldable pub to_end : Server → Point
to_end s = if is_drained s then Over Stopped else at_pause s

-- at the start of a job's command, or of the check of its lane, which may take as long
abbrev pub start_place : ℕ → Job → Option UpLane → Place
start_place now job None = AtStart (record { job = job.id; task = Command; since = now; timeout = job.timeout }) job.text
start_place now job (Some lane) = AtStart (record { job = job.id; task = Check; since = now; timeout = job.timeout }) (check_text lane)

-- what is started for the next job, or what comes behind all starts
abbrev pub start_point : Option Job → Server → Point
start_point (Some job) s = AtTurn (start_place s.now job (checked_first s.children (lanes_up s) (jobs s) job.id)) s
start_point None s = to_end s

unfoldable pub to_starts : Server → Point
to_starts s = start_point (startable s.now s.children (jobs s)) s

-- A client that asks nothing is over. Behind each call such a one leaves at once, so a turn comes to none.
abbrev pub client_place : Asks → ℕ → Place
client_place Nothing i = AtClose i
client_place _ i = AtClient i

-- the client of a place, or what comes behind the last
abbrev pub to_clients : ℕ → Server → Point
to_clients i s = if nat_lt i (length s.clients) then AtTurn (client_place (asks_at i s.clients) i) s else to_starts s

-- behind a call on the client of a place, which ends where that client is over
abbrev pub behind_client : ℕ → Server → Point
behind_client i s = if is_over_at s.now i s.clients then AtTurn (AtClose i) s else to_clients (i + 1) s

-- one is let in while there is room, and then each of them is served
unfoldable pub to_accept : Server → Point
to_accept s = if nat_lt (length s.clients) most_clients then AtTurn AtAccept s else to_clients 0 s

-- the child of a place, or what comes behind the last
abbrev pub to_polls : ℕ → Server → Point
to_polls i s = if nat_lt i (length s.children.running) then AtTurn (AtPoll i) s else to_accept s

unfoldable pub to_children : Server → Point
to_children s = to_polls 0 s

-- the log of that place, or what comes behind the logs
abbrev pub look_point : Option ℕ → Server → Point
look_point (Some i) s = AtTurn (AtLook i) s
look_point None s = to_children s

-- the next log, from a place on
abbrev pub to_looks : ℕ → Server → Point
to_looks i s = look_point (next_look i (log_jails s) s.logs) s

-- once a stop was asked for, no log is looked at
unfoldable pub to_logs : Server → Point
to_logs s = if is_stopping s then to_children s else to_looks 0 s
