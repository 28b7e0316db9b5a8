-- The lines that the server says of what a step told, of logs and of its start.
use Rattle.std.specs.Prelude.{ℕ, ◌++◌, if◌then◌else◌, List, [], ◌∷◌, codes, flat_map, map}
use Rattle.std.specs.Fmt.{decimal, signed_decimal}
use Rattle.f2b_base.specs.Addresses.{printed}
use Rattle.f2b_base.specs.declared.addr.Addr.{Addr}
use Rattle.f2b_base.specs.declared.job.JobKind.{JobKind}
use Rattle.f2b_base.specs.declared.job.JobKind.TheVariants.{Start, Stop, Ban, Unban, Reban}
use Rattle.f2b_base.specs.declared.job.LaneId.{LaneId}
use Rattle.f2b_base.specs.declared.job.Outcome.{Outcome}
use Rattle.f2b_base.specs.declared.job.Outcome.TheVariants.{Status as EndedWith, NotStarted, TimedOut}
use Rattle.f2b_model.specs.declared.happening.Happening.{Happening}
use Rattle.f2b_model.specs.declared.happening.Happening.TheVariants.{Counts, Begins, Ends}
use Rattle.f2b_model.specs.declared.lane_happening.LaneHappening.{LaneHappening}
use Rattle.f2b_model.specs.declared.lane_happening.LaneHappening.TheVariants.{TryFails, CheckFails, Restarts}
use Rattle.f2b_model.specs.declared.told.Told.{Told}

-- a text behind the seconds since 1970, as a line that LF ends
unfoldable pub stamped : ℕ → List ℕ → List ℕ
stamped now text = decimal now ++ codes " " ++ text ++ codes "\n"

-- the line of a start
unfoldable pub ready_line : ℕ → List ℕ
ready_line now = stamped now (codes "INFO Server ready")

-- the line of a configuration that was read again, and is taken
unfoldable pub reloaded_line : ℕ → List ℕ
reloaded_line now = stamped now (codes "INFO Reloaded")

-- the line of a stop that was asked for
unfoldable pub stopping_line : ℕ → List ℕ
stopping_line now = stamped now (codes "INFO Stopping")

-- ---- what a step tells of the jails

-- what a jail did about an address
abbrev pub found_text : List ℕ → Addr → List ℕ
found_text name addr = codes "INFO [" ++ name ++ codes "] Found " ++ printed addr

abbrev pub ban_text : List ℕ → Addr → List ℕ
ban_text name addr = codes "NOTICE [" ++ name ++ codes "] Ban " ++ printed addr

abbrev pub unban_text : List ℕ → Addr → List ℕ
unban_text name addr = codes "NOTICE [" ++ name ++ codes "] Unban " ++ printed addr

-- a failure that counts, a ban that begins and one that ends
abbrev pub happening_text : Happening → List ℕ
happening_text (Counts jail addr) = found_text jail addr
happening_text (Begins jail ban matches) = ban_text jail ban.addr
happening_text (Ends jail ban) = unban_text jail ban.addr

-- the line of what a step told of a jail
unfoldable pub line_of : ℕ → Happening → List ℕ
line_of now happening = stamped now (happening_text happening)

-- ---- what a step tells of the lanes

-- the command that a job runs; a ban once more runs that of a ban
abbrev pub command_text : JobKind → List ℕ
command_text Start = codes "start"
command_text Stop = codes "stop"
command_text Ban = codes "ban"
command_text Unban = codes "unban"
command_text Reban = codes "ban"

-- why a command failed
abbrev pub cause_text : Outcome → List ℕ
cause_text (EndedWith status) = codes "status " ++ signed_decimal status
cause_text NotStarted = codes "not started"
cause_text TimedOut = codes "timed out"

-- the lane behind the word that its line begins with
abbrev pub lane_text : List ℕ → LaneId → List ℕ
lane_text word lane = word ++ codes " [" ++ lane.jail ++ codes "/" ++ lane.action ++ codes "] "

-- the job of a lane, by its command, behind the word of an error
abbrev pub job_text : LaneId → JobKind → List ℕ
job_text lane kind = lane_text (codes "ERROR") lane ++ command_text kind

unfoldable pub failed_line : ℕ → LaneId → JobKind → Outcome → List ℕ
failed_line now lane kind outcome = stamped now (job_text lane kind ++ codes " failed: " ++ cause_text outcome)

unfoldable pub given_up_line : ℕ → LaneId → JobKind → List ℕ
given_up_line now lane kind = stamped now (job_text lane kind ++ codes " given up")

unfoldable pub check_line : ℕ → LaneId → Outcome → List ℕ
check_line now lane outcome = stamped now (lane_text (codes "WARNING") lane ++ codes "check failed: " ++ cause_text outcome)

unfoldable pub restart_line : ℕ → LaneId → List ℕ
restart_line now lane = stamped now (lane_text (codes "INFO") lane ++ codes "restart")

-- A try that fails, a check that fails, and a lane that starts anew. Where the try was the last, a second line says that the job is
-- given up.
unfoldable pub lane_lines : ℕ → LaneHappening → List (List ℕ)
lane_lines now (TryFails lane kind outcome last) = failed_line now lane kind outcome ∷ (if last then given_up_line now lane kind ∷ [] else [])
lane_lines now (CheckFails lane outcome) = check_line now lane outcome ∷ []
lane_lines now (Restarts lane) = restart_line now lane ∷ []

-- ---- what a step tells

-- the lines of the jails, and behind them those of the lanes
unfoldable pub lines_of : ℕ → Told → List (List ℕ)
lines_of now told = map (line_of now) told.jails ++ flat_map (lane_lines now) told.lanes

-- ---- logs

-- a log or a directory that cannot be read, by the path that the jail names
unfoldable pub unread_line : ℕ → List ℕ → List ℕ → List ℕ
unread_line now jail path = stamped now (codes "WARNING [" ++ jail ++ codes "] cannot read " ++ path)

-- a log that is another one now
unfoldable pub rotated_line : ℕ → List ℕ → List ℕ → List ℕ
rotated_line now jail path = stamped now (codes "INFO [" ++ jail ++ codes "] rotated " ++ path)

-- ---- many lines

-- lines as they are said in one call, one behind the other
abbrev pub joined : List (List ℕ) → List ℕ
joined [] = []
joined (line ∷ lines) = line ++ joined lines
