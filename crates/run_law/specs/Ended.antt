-- From which event each end of a run comes. No premise is needed: where an event leads is told for every run and every event.
use Rattle.std.specs.Prelude.{ℕ, ◌≡◌, ◌≤◌, ◌++◌, List, [], ◌∷◌, take, slice_get, true, Option, Some, None, Err}
use Rattle.client_frames.specs.declared.answer.Answer.{Answer}
use Rattle.client_table.specs.Clients.{Client, answered, changed_at}
use Rattle.f2b_base.specs.declared.input.Input.{Input}
use Rattle.f2b_base.specs.declared.input.What.{What}
use Rattle.f2b_base.specs.declared.outside.Tree.{Tree}
use Rattle.f2b_base.specs.declared.outside.TreeAnswer.TheVariants.{Tree as TreeGiven, TooLarge as TreeTooLarge}
use Rattle.f2b_world.specs.Faults.{OfSink, OfDisk, OfConfiguration}
use Rattle.f2b_world.specs.Told.{fault_of}
use Rattle.f2b_world.specs.Walks.{after}
use Rattle.f2b_world.specs.declared.answer.Listen.TheVariants.{Failed as ListenFailed}
use Rattle.f2b_world.specs.declared.answer.MakeAnswer.{MakeAnswer}
use Rattle.f2b_world.specs.declared.answer.MakeAnswer.TheVariants.{Syntax as WasSyntax, TooBig as WasTooBig}
use Rattle.f2b_world.specs.declared.answer.StoreAnswer.{StoreAnswer}
use Rattle.f2b_world.specs.declared.event.Event.{Event}
use Rattle.f2b_world.specs.declared.event.Event.TheVariants.{Make, Config, StoreAt, GateListen, GateAccept, GateRead, GateWrite, GateClose, Pause}
use Rattle.filter_regex.specs.declared.error.BuildKind.{BuildKind}
use Rattle.filter_regex.specs.declared.error.BuildKind.TheVariants.{Syntax, TooBig}
use Rattle.filter_regex.specs.declared.error.PatternPlace.{PatternPlace}
use Rattle.jail_conf.specs.Conf.{conf}
use Rattle.jail_conf.specs.declared.settings.Settings.{Settings}
use Rattle.reconcile.specs.Loads.{Loaded, loaded}
use Rattle.run_law.specs.Law.{Free, MayCome, begin, feed}
use Rattle.run_law.specs.News.{inputs_of, said_number, server_after}
use Rattle.run_law.specs.Patterns.{Pattern}
use Rattle.run_law.specs.Points.{AtAccept, AtClient, AtClose, AtReload, AtPause, Point, AtTree, AtMakes, AtStore, AtListen, AtFirst, AtNames, AtTurn, Run}
use Rattle.run_law.specs.Server.{Server, entry_in, input_at}
use Rattle.run_law.specs.Serving.{closes, lets_in, reads, writes}
use Rattle.run_law.specs.Turn.{is_drained}
use Rattle.run_law.specs.Words.{plan_of}
use Rattle.run_law.specs.declared.status.Status.{Status}
use Rattle.run_law.specs.declared.status.Status.TheVariants.{Stopped, TurnsSpent, Usage, ConfFault, ConfRefused, DiskFault, NotAJournal, JournalFull, GateFault, SinkFault, ConfTooLarge, PatternRefused, NumbersSpent, NoMemory}
use Rattle.slot_writes.specs.Entries.{Entry, Full, Spent}

-- ---- the server of a point

-- a server with the state of this point, and its place in the journal
abbrev pub IsServerAt : Point → Server → Type 0
IsServerAt (AtFirst settings l) s = (s.state ≡ l.state) × (s.position ≡ l.position)
IsServerAt (AtNames settings naming t) s = (s.state ≡ t.state) × (s.position ≡ t.position)
IsServerAt (AtTurn place t) s = (s.state ≡ t.state) × (s.position ≡ t.position)
IsServerAt _ s = ⊥

-- these clients there are behind the event: a call on clients changes them, and so does what is told the client for which a configuration
-- was read
abbrev pub AreClients : Point → Event → List Client → Type 0
AreClients (AtTurn AtAccept s) (GateAccept answer) clients = clients ≡ (lets_in answer s).clients
AreClients (AtTurn (AtClient i) s) (GateRead conn max answer) clients = clients ≡ (reads answer i s).clients
AreClients (AtTurn (AtClient i) s) (GateWrite conn bytes answer) clients = clients ≡ (writes answer i s).clients
AreClients (AtTurn (AtClose i) s) (GateClose conn) clients = clients ≡ (closes i s).clients
AreClients (AtTurn (AtReload reading i) s) event clients = (told : Answer) × (clients ≡ changed_at i (answered told) s.clients)
AreClients (AtTurn place s) event clients = clients ≡ s.clients
AreClients _ event clients = ⊥

-- ---- what an event came to

-- A pattern was to be built and was refused so.
pub record IsUnbuilt (jail : List ℕ) (place : PatternPlace) (answer : MakeAnswer) (point : Point) (event : Event) : Type 0 where
  pub settings : Settings
  pub pattern : Pattern
  pub later : List Pattern
  pub next : point ≡ AtMakes settings (pattern ∷ later)
  pub jail_is : pattern.jail ≡ jail
  pub place_is : pattern.place ≡ place
  pub text : List ℕ
  pub refused : event ≡ Make text answer

-- an answer that refuses a pattern so
abbrev pub unbuilt_as : BuildKind → MakeAnswer
unbuilt_as Syntax = WasSyntax
unbuilt_as TooBig = WasTooBig

-- The last input of the run behind the event, made where the run stood, is not written: it came to this.
pub record IsUnwritten (entry : Entry) (point : Point) (behind : Run) : Type 0 where
  pub server : Server
  pub stands : IsServerAt point server
  pub what : What
  pub last : behind.unclosed ≡ Some (input_at server what)
  pub comes : entry_in server what ≡ entry

-- It has no room: it needs so much, and a slot may get so long.
pub record HasNoRoom (need limit : ℕ) (point : Point) (behind : Run) : Type 0 where
  pub room : ℕ
  pub full : IsUnwritten (Full room) point behind
  pub need_is : need ≡ said_number room
  pub limit_is : limit ≡ full.server.position.limit

-- if something happened by the event, it is the last input of the run behind it
abbrev pub IsLastInput : Option What → Server → Run → Type 0
IsLastInput None s behind = Unit {0}
IsLastInput (Some what) s behind = (before : List Input) × (inputs_of behind ≡ before ++ input_at s what ∷ [])

-- Behind the event, and its input if it made one, a stop was asked for, all jobs are settled, and all replies are taken.
pub record LeavesDrained (point : Point) (event : Event) (behind : Run) : Type 0 where
  pub server : Server
  pub stands : IsServerAt point server
  pub clients : AreClients point event server.clients
  pub what : Option What
  pub last : IsLastInput what server behind
  pub drained : is_drained (server_after what server) ≡ true

-- ---- ends

-- The event ends a run that stands at this point, with this status; behind it the run is that.
abbrev pub EndsBy : Status → Point → Event → Run → Type 0
EndsBy Stopped point event behind = LeavesDrained point event behind
EndsBy TurnsSpent point event behind = (s : Server) × (ms : ℕ) × (point ≡ AtTurn AtPause s) × (s.left ≤ 1) × (event ≡ Pause ms)
EndsBy ConfFault point event behind = (point ≡ AtTree) × (fault_of event ≡ Some OfConfiguration)
EndsBy ConfTooLarge point event behind = (root : List ℕ) × (point ≡ AtTree) × (event ≡ Config root TreeTooLarge)
EndsBy (ConfRefused error) point event behind = (root : List ℕ) × (tree : Tree) × (point ≡ AtTree) × (event ≡ Config root (TreeGiven tree)) × (conf tree ≡ Err error)
EndsBy (PatternRefused jail place kind) point event behind = IsUnbuilt jail place (unbuilt_as kind) point event
EndsBy (NotAJournal slot at) point event behind = (settings : Settings) × (socket : List ℕ) × (answer : StoreAnswer) × (point ≡ AtStore settings) × (event ≡ StoreAt socket answer)
    × (loaded behind.plan.limit behind.slots ≡ Err (slot, at))
EndsBy GateFault point event behind = (settings : Settings) × (l : Loaded) × (socket : List ℕ) × (point ≡ AtListen settings l) × (event ≡ GateListen socket ListenFailed)
EndsBy DiskFault point event behind = fault_of event ≡ Some OfDisk
EndsBy SinkFault point event behind = fault_of event ≡ Some OfSink
EndsBy (JournalFull need limit) point event behind = HasNoRoom need limit point behind
EndsBy NumbersSpent point event behind = IsUnwritten Spent point behind
EndsBy _ point event behind = ⊥

-- in a run from here an event came so, where the run stood
abbrev pub Came : (Point → Event → Run → Type 0) → Run → List Event → Type 0
Came P r es = (k : ℕ) × (event : Event) × (slice_get es k ≡ Some event)
    × P (after feed MayCome Free r (take k es)).point event (feed (after feed MayCome Free r (take k es)) event)

-- What the status of a run comes from: words outside the table, want of memory, or an event.
abbrev pub IsEndedBy : List (List ℕ) → (ℕ → List ℕ) → Status → List Event → Type 0
IsEndedBy words slots Usage es = plan_of words ≡ None
IsEndedBy words slots NoMemory es = Unit {0}
IsEndedBy words slots status es = Came (EndsBy status) (begin words slots) es

-- a run that ends so was asked neither to stop nor for so many turns, and had memory
abbrev pub IsEarly : Status → Type 0
IsEarly Stopped = ⊥
IsEarly TurnsSpent = ⊥
IsEarly NoMemory = ⊥
IsEarly _ = Unit {0}
