-- What the clients of a run are replied.
use Rattle.std.specs.Prelude.{ℕ, ◌≡◌, ◌==◌, ◌+◌, Bool, true, false, if◌then◌else◌, List, [], ◌∷◌, ◌++◌, length, take, slice_get, Option, Some, None, Result, Ok, Err, codes}
use Rattle.std.specs.List.{flat_map}
use Rattle.client_frames.specs.Comes.{Heard, TooLong, Empty, BadWord, Is}
use Rattle.client_frames.specs.Frames.{reply}
use Rattle.client_frames.specs.declared.answer.Answer.{Answer}
use Rattle.client_replies.specs.Replies.{refused, sendable}
use Rattle.client_table.specs.Clients.{conn_at}
use Rattle.client_table.specs.Lives.{AreRequests, IsFault, refusals}
use Rattle.f2b_base.specs.declared.outside.TreeAnswer.TheVariants.{Tree as TreeGiven, Failed as TreeFailed, TooLarge as TreeTooLarge, NoMemory as TreeNoMemory}
use Rattle.f2b_base.specs.declared.view.View.{View}
use Rattle.f2b_world.specs.Told.{History}
use Rattle.f2b_world.specs.declared.answer.Accept.TheVariants.{Conn}
use Rattle.f2b_world.specs.declared.answer.GateWrite.{GateWrite}
use Rattle.f2b_world.specs.declared.answer.MakeAnswer.TheVariants.{Built, Syntax as WasSyntax, TooBig as WasTooBig}
use Rattle.f2b_world.specs.declared.event.Event.{Event}
use Rattle.f2b_world.specs.declared.event.Event.TheVariants.{Config, GateAccept, GateWrite as WriteTo, Make}
use Rattle.filter_regex.specs.declared.error.BuildKind.TheVariants.{Syntax, TooBig}
use Rattle.jail_conf.specs.Conf.{conf}
use Rattle.jail_conf.specs.declared.conf_error.ConfError.{ConfError}
use Rattle.jail_conf.specs.declared.settings.Settings.{Settings}
use Rattle.run_law.specs.Law.{begin}
use Rattle.run_law.specs.Patterns.{Pattern, patterns_of}
use Rattle.run_law.specs.Points.{AtClient, AtReload, AtTurn, Point}
use Rattle.run_law.specs.Refusals.{untaken_text}
use Rattle.run_law.specs.Requests.{Answers, ReadsAgain, Response, to_words}
use Rattle.run_law.specs.Served.{IsBeginning, Obeys, run_after}
use Rattle.run_law.specs.Server.{Server}
use Rattle.run_law.specs.Stops.{BeginsOn, held_in}
use Rattle.run_law.specs.declared.status.Status.{Status}
use Rattle.run_law.specs.declared.status.Status.TheVariants.{ConfFault, ConfRefused, ConfTooLarge, PatternRefused}
use Rattle.run_replies.specs.Talks.{came_in, is_closed, taken_in}

-- ---- what is replied to a reload

-- that the configuration is taken
abbrev pub taken : Answer
taken = record { accepted = true; text = codes "OK" }

-- that it is not
abbrev pub untaken : Status → Answer
untaken status = sendable (refused (untaken_text status))

-- by the answers to the patterns that are left: by the first that is not built, or it is taken
abbrev pub by_makes : List Pattern → List Event → Option Answer
by_makes [] es = Some taken
by_makes (p ∷ ps) (Make text Built ∷ es) = by_makes ps es
by_makes (p ∷ ps) (Make text WasSyntax ∷ es) = Some (untaken (PatternRefused p.jail p.place Syntax))
by_makes (p ∷ ps) (Make text WasTooBig ∷ es) = Some (untaken (PatternRefused p.jail p.place TooBig))
by_makes (p ∷ ps) _ = None

abbrev pub by_definition : Result Settings ConfError → List Event → Option Answer
by_definition (Ok settings) es = by_makes (patterns_of settings.defs) es
by_definition (Err error) es = Some (untaken (ConfRefused error))

-- by the answer to the reading of the tree, and those to its patterns, which are the next events; a tree for which there was no memory is read again
abbrev pub by_reading : List Event → Option Answer
by_reading (Config root (TreeGiven tree) ∷ es) = by_definition (conf tree) es
by_reading (Config root TreeFailed ∷ es) = Some (untaken ConfFault)
by_reading (Config root TreeTooLarge ∷ es) = Some (untaken ConfTooLarge)
by_reading (Config root TreeNoMemory ∷ es) = by_reading es
by_reading _ = None

-- ---- one answer

-- the answer is what the model replies, or by what the reading comes to that follows
abbrev pub IsAnswer : Response → List Event → Answer → Type 0
IsAnswer (Answers replied news) later given = given ≡ replied
IsAnswer ReadsAgain later given = by_reading later ≡ Some given

-- With this event a request of a client is whole: so many were before it, and with it there is one more, of these words.
pub record MakesWhole (conn : ℕ) (sooner : List Event) (event : Event) (count : ℕ) (asked : List (List ℕ)) : Type 0 where
  pub others : List (List (List ℕ))
  pub so_many : length others ≡ count
  pub before : AreRequests (came_in conn sooner) others false
  pub whole : AreRequests (came_in conn (sooner ++ event ∷ [])) (others ++ asked ∷ []) false

-- what a client is told of a frame that is refused
abbrev pub fault_text : Heard → List ℕ
fault_text (TooLong n) = codes "Frame too long"
fault_text Empty = codes "Empty frame"
fault_text (BadWord at) = codes "Bad word"
fault_text _ = []

-- the answer to a frame that is refused, which is the last that came
pub record IsAnswerToFault (frame : List ℕ) (given : Answer) : Type 0 where
  pub what : Heard
  pub fault : IsFault what
  pub is : Is what frame
  pub same : given ≡ refused (fault_text what)

-- how many requests of a client wait for their answer: one, while the configuration is read again for it
abbrev pub waiting : ℕ → Point → ℕ
waiting conn (AtTurn (AtReload reading client) s) = if conn_at client s.clients == conn then 1 else 0
waiting conn _ = 0

module _ (words : List (List ℕ)) (slots : ℕ → List ℕ) where
  -- The answer to the request of that place, among those that came of a client in the events `life` behind `start`: it is what the model replies at
  -- the moment, and over the state, of the server right before the event that made the request whole. A configuration that is read again is told of by
  -- the events that come next.
  pub record IsAnswerTo (conn : ℕ) (start life : List Event) (place : ℕ) (asked : List (List ℕ)) (given : Answer) : Type 0 where
    pub sooner : List Event
    pub event : Event
    pub later : List Event
    pub is : life ≡ sooner ++ event ∷ later
    pub whole : MakesWhole conn sooner event place asked
    pub server : Server
    pub client : ℕ
    pub stands : (run_after words slots (start ++ sooner)).point ≡ AtTurn (AtClient client) server
    pub same : IsAnswer (to_words server.now server.state asked) later given

  -- ---- one client

  -- Of the client with this number, which was accepted last in `start`, in the events `life` since then: what it took is a beginning of the frames of
  -- the answers, of which there is one to each of its requests that does not wait, in order, and one more where a frame of it was refused.
  pub record IsReplied (conn : ℕ) (start life : List Event) : Type 0 where
    pub requests : List (List (List ℕ))
    pub is_refused : Bool
    pub came : AreRequests (came_in conn life) requests is_refused
    pub answers : List Answer
    pub taken : IsBeginning (taken_in conn life) (flat_map reply answers)
    pub count : length answers + waiting conn (run_after words slots (start ++ life)).point ≡ length requests + refusals is_refused
    pub each : (place : ℕ) (asked : List (List ℕ)) (given : Answer) → slice_get requests place ≡ Some asked → slice_get answers place ≡ Some given
        → IsAnswerTo conn start life place asked given
    pub last : (given : Answer) → is_refused ≡ true → slice_get answers (length requests) ≡ Some given → IsAnswerToFault came.rest given

  -- ---- all clients

  -- each client from its accept on, as long as it is not closed
  pub record RepliesInOrder (es : List Event) : Type 0 where
    pub each : (before life later : List Event) (conn : ℕ) → es ≡ before ++ GateAccept (Conn conn) ∷ (life ++ later) → is_closed conn life ≡ false
        → IsReplied conn (before ++ GateAccept (Conn conn) ∷ []) life

  -- bytes are written to a client only where all inputs so far are closed
  pub record RepliesBehindInputs (es : List Event) : Type 0 where
    pub each : (k conn : ℕ) (bytes : List ℕ) (answer : GateWrite) → slice_get es k ≡ Some (WriteTo conn bytes answer) → (run_after words slots (take k es)).unclosed ≡ None

-- ---- the law

-- A run that obeys the law replies to each client what the model does, in order. Where it begins on a view, what it writes to a client tells of nothing
-- that a stop could take back.
pub record RepliedLaw : Type 0 where
  pub in_order : (words : List (List ℕ)) (slots : ℕ → List ℕ) (g : History) (es : List Event) → Obeys (begin words slots) g es → RepliesInOrder words slots es
  pub behind : (words : List (List ℕ)) (v : View) (g : History) (es : List Event) → BeginsOn v g → Obeys (begin words (held_in g)) g es
      → RepliesBehindInputs words (held_in g) es
