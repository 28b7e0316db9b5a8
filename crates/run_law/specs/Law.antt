-- The law of a run: the one call that comes next, where each event leads, where a run begins and where it ends.
use Rattle.std.specs.Prelude.{ℕ, ◌≡◌, ◌<◌, ◌++◌, List, [], ◌∷◌, Option, Some, None, IfSome, slice_get}
use Rattle.f2b_model.specs.Storable.{IsStorableInput}
use Rattle.f2b_world.specs.Told.{History}
use Rattle.f2b_world.specs.Walks.{Walks}
use Rattle.f2b_world.specs.declared.answer.Said.TheVariants.{Done as SayDone, Failed as SayFailed}
use Rattle.f2b_world.specs.declared.answer.Wrote.TheVariants.{NoMemory as WroteNoMemory}
use Rattle.f2b_world.specs.declared.event.Event.{Event}
use Rattle.f2b_world.specs.declared.event.Event.TheVariants.{Say, DiskLen, DiskRead, DiskWrite, DiskSync, Make, Clock as ClockRead, Config, StoreAt, Names, Look as LookAt, ChildStart, ChildPoll, ChildKill, GateListen, GateAccept, GateRead, GateWrite, GateClose, Pause as Paused}
use Rattle.run_law.specs.Calls.{Call, AskAccept, AskSay, AskTree, AskClock, AskWrite, IsNext}
use Rattle.run_law.specs.Clock.{clock_call, clock_read}
use Rattle.run_law.specs.Disk.{IsLoading, measured, piece_read, synced, wrote}
use Rattle.run_law.specs.Looks.{look_call, looked_at}
use Rattle.run_law.specs.News.{goes_to, refused}
use Rattle.run_law.specs.Pause.{pause_call, paused}
use Rattle.run_law.specs.Points.{Place, AtClock, AtLook, AtPoll, AtKill, AtAccept, AtClient, AtClose, AtReload, AtStart, AtPause, Point, AtTree, AtMakes, AtStore, AtListen, AtFirst, AtNames, AtTurn, Over, Run}
use Rattle.run_law.specs.Polls.{kill_call, killed_at, poll_call, polled_at}
use Rattle.run_law.specs.Said.{joined}
use Rattle.run_law.specs.Server.{Server}
use Rattle.run_law.specs.Serving.{client_call, close_call, closes, lets_in, reads, serves, writes}
use Rattle.run_law.specs.Reading.{make_call, names_call}
use Rattle.run_law.specs.Reload.{reload_call, reloads}
use Rattle.run_law.specs.Start.{first_read, listen_call, listened, makes_on, names_read, store_call, store_named, tree_read}
use Rattle.run_law.specs.Starts.{child_started, start_call}
use Rattle.run_law.specs.Words.{plan_of}
use Rattle.run_law.specs.declared.plan.Plan.{Plan}
use Rattle.run_law.specs.declared.status.Status.{Status}
use Rattle.run_law.specs.declared.status.Status.TheVariants.{Usage, SinkFault, NoMemory}
use Rattle.slot_writes.specs.Writes.{Write}

-- ---- the call that comes next

abbrev pub turn_call : Plan → Place → Server → Option Call
turn_call plan AtClock s = clock_call
turn_call plan (AtLook i) s = look_call i s
turn_call plan (AtPoll i) s = poll_call i s
turn_call plan (AtKill i) s = kill_call i s
turn_call plan AtAccept s = Some AskAccept
turn_call plan (AtClient i) s = client_call i s
turn_call plan (AtClose i) s = close_call i s
turn_call plan (AtReload reading i) s = reload_call plan reading
turn_call plan (AtStart c text) s = start_call c text
turn_call plan AtPause s = pause_call

abbrev pub point_call : Plan → Point → Option Call
point_call plan AtTree = Some (AskTree plan.root)
point_call plan (AtMakes settings left) = make_call left
point_call plan (AtStore settings) = store_call settings
point_call plan (AtListen settings l) = listen_call settings
point_call plan (AtFirst settings l) = Some AskClock
point_call plan (AtNames settings naming s) = names_call naming.left
point_call plan (AtTurn place s) = turn_call plan place s
point_call plan (Over status) = None

-- owed lines come before the call of the point, all in one call, but not once a line could not be said
abbrev pub call_of : Plan → Point → List (List ℕ) → Option Call
call_of plan (Over SinkFault) owed = None
call_of plan point [] = point_call plan point
call_of plan point (line ∷ lines) = Some (AskSay (joined (line ∷ lines)))

-- what is left to write of an input comes before all else
abbrev pub call_behind : List Write → Option Call → Option Call
call_behind [] call = call
call_behind (w ∷ ws) call = Some (AskWrite w)

-- the one call that comes next, or none where the run ends
abbrev pub next_call : Run → Option Call
next_call r = call_behind r.writes (call_of r.plan r.point r.owed)

-- An event is the call that comes next, of an input that can be stored where it writes one; a write that found no memory is no event.
-- Slots are read just while the journal is loaded, as often as it needs.
abbrev pub MayCome : Run → Event → Type 0
MayCome r (DiskLen slot answer) = IsLoading r.point r.owed × (slot < 2)
MayCome r (DiskRead slot at len answer) = IsLoading r.point r.owed × (slot < 2)
MayCome r (DiskWrite slot at bytes WroteNoMemory) = ⊥
MayCome r (DiskWrite slot at bytes answer) = IsNext (next_call r) (DiskWrite slot at bytes answer) × IfSome r.unclosed IsStorableInput
MayCome r (DiskSync slot answer) = IsNext (next_call r) (DiskSync slot answer) × IfSome r.unclosed IsStorableInput
MayCome r event = IsNext (next_call r) event

-- ---- where an event leads

abbrev pub turns : Place → Event → Server → Run → Run
turns AtClock (ClockRead answer) s r = clock_read answer s r
turns (AtLook i) (LookAt path head from max answer) s r = looked_at (slice_get s.logs i) answer i s r
turns (AtPoll i) (ChildPoll job answer) s r = polled_at (slice_get s.children.running i) answer i s r
turns (AtKill i) (ChildKill job) s r = killed_at (slice_get s.children.running i) i s r
turns AtAccept (GateAccept answer) s r = serves (lets_in answer s) s r
turns (AtClient i) (GateRead conn max answer) s r = serves (reads answer i s) s r
turns (AtClient i) (GateWrite conn bytes answer) s r = serves (writes answer i s) s r
turns (AtClose i) (GateClose conn) s r = serves (closes i s) s r
turns (AtReload reading i) event s r = reloads reading event i s r
turns (AtStart c text) (ChildStart job command answer) s r = child_started answer c s r
turns AtPause (Paused ms) s r = paused s r
turns _ _ s r = r

abbrev pub moved : Point → Event → Run → Run
moved AtTree (Config root answer) r = tree_read answer r
moved (AtMakes settings left) (Make text answer) r = makes_on left answer settings r
moved (AtStore settings) (StoreAt socket answer) r = store_named settings r
moved (AtListen settings l) (GateListen socket answer) r = listened answer settings l r
moved (AtFirst settings l) (ClockRead answer) r = first_read answer settings l r
moved (AtNames settings naming s) (Names dir answer) r = names_read answer settings naming s r
moved (AtTurn place s) event r = turns place event s r
moved _ _ r = r

-- The owed lines were said; where they could not be, none of them counts as said, and the run is over. Calls on the disk are the same at
-- every point.
abbrev pub feed : Run → Event → Run
feed r (Say bytes SayDone) = record r { said = r.said ++ r.owed; owed = [] }
feed r (Say bytes SayFailed) = goes_to (Over SinkFault) r
feed r (DiskLen slot answer) = measured answer r
feed r (DiskRead slot at len answer) = piece_read answer r
feed r (DiskWrite slot at bytes answer) = wrote answer r
feed r (DiskSync slot answer) = synced answer r
feed r event = moved r.point event r

-- nothing more is asked of the points
abbrev pub Free : Run → History → Type 0
Free r g = Unit {0}

-- from one point of a run to another
abbrev pub Goes : Option History → Option History → Run → Run → Type 0
Goes old new r s = Walks feed MayCome Free old new r s

-- ---- where a run begins and ends

-- a run at a point, of which nothing was said, and which had no input
abbrev pub standing : Plan → (ℕ → List ℕ) → Point → Run
standing plan slots point = record {
  plan = plan;
  slots = slots;
  point = point;
  said = [];
  owed = [];
  closed = [];
  unclosed = None;
  writes = [];
  held = [];
}

abbrev pub opening : Plan → (ℕ → List ℕ) → Run
opening plan slots = standing plan slots AtTree

-- words outside the table are refused
abbrev pub begin_with : Option Plan → (ℕ → List ℕ) → Run
begin_with (Some plan) slots = opening plan slots
begin_with None slots = refused 0 Usage (opening (record { root = []; turns = 0; limit = 0 }) slots)

-- a run of these words, where the slots of the journal hold these bytes
abbrev pub begin : List (List ℕ) → (ℕ → List ℕ) → Run
begin words slots = begin_with (plan_of words) slots

-- the run is over with that status, and no call is left
pub record IsOver (status : Status) (r : Run) : Type 0 where
  pub point : r.point ≡ Over status
  pub none : next_call r ≡ None

-- a run may end with this status here; want of memory may end it anywhere
abbrev pub Ends : Status → Run → Type 0
Ends NoMemory r = Unit {0}
Ends status r = IsOver status r

-- from here the run ends with this status
pub record Halts (old new : Option History) (r : Run) (status : Status) : Type 0 where
  pub last : Run
  pub goes : Goes old new r last
  pub ends : Ends status last
