-- What a whole run is.
use Rattle.std.specs.Prelude.{ℕ, suc, ◌≡◌, ◌≢◌, ◌<◌, ◌++◌, List, [], ◌∷◌, take, slice_get, Option, Some, None}
use Rattle.f2b_base.specs.declared.view.View.{View}
use Rattle.f2b_world.specs.Told.{History, Adds, grown}
use Rattle.f2b_world.specs.Walks.{after, Along}
use Rattle.f2b_world.specs.declared.answer.Said.TheVariants.{Done}
use Rattle.f2b_world.specs.declared.event.Event.{Event}
use Rattle.f2b_world.specs.declared.event.Event.TheVariants.{Say, ChildPoll, ChildStart, Pause}
use Rattle.f2b_world.specs.declared.answer.StartAnswer.{StartAnswer}
use Rattle.f2b_base.specs.declared.job.Job.{Job}
use Rattle.child_table.specs.Children.{jobs_of}
use Rattle.child_table.specs.declared.child.Child.{Child}
use Rattle.run_law.specs.Children.{checked_first, startable}
use Rattle.f2b_world.specs.Told.{Standing}
use Rattle.run_law.specs.Ended.{IsEndedBy}
use Rattle.run_law.specs.Law.{MayCome, Free, Ends, feed, begin}
use Rattle.run_law.specs.Points.{AtClock, AtStart, AtPause, Point, AtTurn, Run}
use Rattle.run_law.specs.Said.{joined}
use Rattle.run_law.specs.Server.{Server, jobs, lanes_up}
use Rattle.run_law.specs.Stages.{HasCause}
use Rattle.run_law.specs.Stops.{BeginsOn, ComesInOrder, IsKept, IsRegular, IsStored, held_in}
use Rattle.run_law.specs.Turn.{start_place}
use Rattle.run_law.specs.Words.{plan_of}
use Rattle.run_law.specs.declared.plan.Plan.{Plan}
use Rattle.run_law.specs.declared.status.Status.{Status}
use Rattle.run_law.specs.declared.status.Status.TheVariants.{TurnsSpent, Usage, SinkFault, NoMemory}

-- each event is the call that comes next after those before it
abbrev pub Obeys : Run → History → List Event → Type 0
Obeys r g es = Along feed MayCome Free r g es

-- where the events leave a run of these words that began on these slots
abbrev pub run_after : List (List ℕ) → (ℕ → List ℕ) → List Event → Run
run_after words slots es = after feed MayCome Free (begin words slots) es

-- ---- what was said

-- the bytes that were said without a fault
abbrev pub said_by : List Event → List ℕ
said_by [] = []
said_by (Say bytes Done ∷ es) = bytes ++ said_by es
said_by (_ ∷ es) = said_by es

-- all lines that the events so far tell of a run, said or owed, as bytes; those of an input count once it is closed
abbrev pub lines_in : Run → List ℕ
lines_in r = joined (r.said ++ r.owed)

abbrev pub lines_by : List (List ℕ) → (ℕ → List ℕ) → List Event → List ℕ
lines_by words slots es = lines_in (run_after words slots es)

abbrev pub IsBeginning : List ℕ → List ℕ → Type 0
IsBeginning xs ys = (rest : List ℕ) × (ys ≡ xs ++ rest)

-- all was said where a run ends, but for a sink fault and want of memory
abbrev pub SaysAll : List (List ℕ) → (ℕ → List ℕ) → Status → List Event → Type 0
SaysAll words slots SinkFault es = Unit {0}
SaysAll words slots NoMemory es = Unit {0}
SaysAll words slots _ es = said_by es ≡ lines_by words slots es

-- At every point what was said is a beginning of the lines of the events so far; at each pause and at the end it is all of them.
pub record SaysInOrder (words : List (List ℕ)) (slots : ℕ → List ℕ) (status : Status) (es : List Event) : Type 0 where
  pub begins : (k : ℕ) → IsBeginning (said_by (take k es)) (lines_by words slots (take k es))
  pub paused : (k ms : ℕ) → slice_get es k ≡ Some (Pause ms) → said_by (take k es) ≡ lines_by words slots (take k es)
  pub ended : SaysAll words slots status es

-- ---- turns

-- how many pauses there were
abbrev pub pauses_in : List Event → ℕ
pauses_in [] = 0
pauses_in (Pause ms ∷ es) = suc (pauses_in es)
pauses_in (_ ∷ es) = pauses_in es

-- A run ends for its turns exactly where it has made as many pauses as it was asked for, and never makes more.
pub record CountsTurns (turns : ℕ) (status : Status) (es : List Event) : Type 0 where
  pub spent : status ≡ TurnsSpent → pauses_in es ≡ turns
  pub sooner : status ≢ TurnsSpent → status ≢ NoMemory → pauses_in es < turns

-- ---- commands

-- The child is started for this job, with this command: while fewer than 16 run, the job is the least among the first unsettled jobs of
-- the lanes that is due and does not run, and what runs is the check of its lane, where one comes first, and else its own command.
pub record IsStartFor (s : Server) (c : Child) (text : List ℕ) (job : Job) : Type 0 where
  pub next : startable s.now s.children (jobs s) ≡ Some job
  pub child : AtStart c text ≡ start_place s.now job (checked_first s.children (lanes_up s) (jobs s) job.id)

-- at this point a child is started under that number, with that command
abbrev pub StartsAt : Point → ℕ → List ℕ → Type 0
StartsAt (AtTurn (AtStart c text) s) id command = (job : Job) × IsStartFor s c text job × (id ≡ c.job) × (command ≡ text)
StartsAt _ id command = ⊥

-- at this point as many run as may, or no job may be started
abbrev pub IsAllStarted : Point → Type 0
IsAllStarted (AtTurn AtPause s) = startable s.now s.children (jobs s) ≡ None
IsAllStarted _ = ⊥

pub record StartsInTurn (words : List (List ℕ)) (slots : ℕ → List ℕ) (es : List Event) : Type 0 where
  pub starts : (k id : ℕ) (command : List ℕ) (answer : StartAnswer) → slice_get es k ≡ Some (ChildStart id command answer) → StartsAt (run_after words slots (take k es)).point id command
  pub paused : (k ms : ℕ) → slice_get es k ≡ Some (Pause ms) → IsAllStarted (run_after words slots (take k es)).point

-- the jobs whose command, or whose check, was polled
abbrev pub polls_in : List Event → List ℕ
polls_in [] = []
polls_in (ChildPoll job answer ∷ es) = job ∷ polls_in es
polls_in (_ ∷ es) = polls_in es

-- Each command that runs as a turn begins is polled once up to the pause of that turn, by the numbers of their jobs, and no other one is.
pub record PollsEachOnce (words : List (List ℕ)) (slots : ℕ → List ℕ) (es : List Event) : Type 0 where
  pub polls : (before turn later : List Event) (ms : ℕ) (s : Server) → es ≡ before ++ (turn ++ Pause ms ∷ later) → (run_after words slots before).point ≡ AtTurn AtClock s → pauses_in turn ≡ 0
      → polls_in turn ≡ jobs_of s.children.running

-- ---- stops

-- A run that begins on a view keeps its inputs, whenever a stop comes. No line is said and no command is started before the input that tells
-- it is closed.
pub record KeepsInputs (words : List (List ℕ)) (status : Status) (v : View) (g : History) (es : List Event) : Type 0 where
  -- a stop behind any number of events leaves the view after the closed inputs, or after all
  pub stops : (k : ℕ) → IsKept v (run_after words (held_in g) (take k es)) (grown g (take k es))
  -- where all are closed, reads give the view after them
  pub reads : (k : ℕ) → (run_after words (held_in g) (take k es)).unclosed ≡ None → IsStored v (run_after words (held_in g) (take k es)) (grown g (take k es))
  -- at a regular end all are closed
  pub ended : IsRegular status → (run_after words (held_in g) es).unclosed ≡ None
  pub first : (k : ℕ) (event : Event) → slice_get es k ≡ Some event → ComesInOrder (run_after words (held_in g) (take k es)) event

-- ---- the whole run

-- The run's events obey the law from the first to the last, the run ends with this status where no call is left, and by an event that ends a run so
-- or by its words, it made as many turns as were asked for, its lines were said in their order, its commands were started in their turn, each of them
-- was polled once a turn, and its inputs are kept, whatever view it began on.
pub record IsRun (old new : Option History) (words : List (List ℕ)) (status : Status) : Type 0 where
  pub law : Adds old new (λ g es. Obeys (begin words (held_in g)) g es × Ends status (run_after words (held_in g) es))
  pub ended : Adds old new (λ g es. IsEndedBy words (held_in g) status es)
  pub turns : Adds old new (λ g es. (plan : Plan) → plan_of words ≡ Some plan → CountsTurns plan.turns status es)
  pub lines : Adds old new (λ g es. SaysInOrder words (held_in g) status es)
  pub commands : Adds old new (λ g es. StartsInTurn words (held_in g) es)
  pub polls : Adds old new (λ g es. PollsEachOnce words (held_in g) es)
  pub inputs : Adds old new (λ g es. (v : View) → BeginsOn v g → KeepsInputs words status v g es)

-- The cause of each status, in every world: words outside the table, or a cause behind them. That all turns were made is told by the
-- events.
abbrev pub IsCaused : List (List ℕ) → Standing → Standing → Status → Type 0
IsCaused words old new TurnsSpent = Unit {0}
IsCaused words old new Usage = plan_of words ≡ None
IsCaused words old new status = HasCause old new status
