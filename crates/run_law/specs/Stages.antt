-- What a part of a run hands up: from where to where it goes, whatever the server is, with what the code keeps of it.
use Rattle.std.specs.Prelude.{ℕ, ◌≡◌, ◌≤◌, ◌++◌, ◌⊎◌, List, [], None, Contains, Ok, Err}
use Rattle.f2b_base.specs.declared.outside.Tree.{Tree}
use Rattle.f2b_world.specs.Faults.{Fault, OfSink, OfDisk, OfConfiguration, OfGate, OfPatterns, Rose}
use Rattle.f2b_world.specs.Reading.{reading}
use Rattle.f2b_world.specs.Told.{Adds, Standing}
use Rattle.filter_regex.specs.declared.error.BuildKind.TheVariants.{Syntax, TooBig}
use Rattle.filter_regex.specs.declared.error.PatternPlace.{PatternPlace}
use Rattle.jail_conf.specs.Conf.{conf}
use Rattle.jail_conf.specs.declared.conf_error.ConfError.{ConfError}
use Rattle.jail_conf.specs.declared.settings.Settings.{Settings}
use Rattle.run_law.specs.Law.{Goes, Halts}
use Rattle.run_law.specs.News.{News, after_news, brings, refused}
use Rattle.run_law.specs.Patterns.{Pattern, patterns_of}
use Rattle.run_law.specs.Points.{Point, Over, Run}
use Rattle.run_law.specs.Server.{Server}
use Rattle.run_law.specs.declared.status.Status.{Status}
use Rattle.run_law.specs.declared.status.Status.TheVariants.{Stopped, TurnsSpent, WorkloadDone, Usage, ConfFault, ConfRefused, DiskFault, GateFault, SinkFault, PatternRefused, NoMemory}

-- nothing is left to write, and all lines are said
pub record IsStill (r : Run) : Type 0 where
  pub written : r.writes ≡ []
  pub paid : r.owed ≡ []

-- the run stands at a point, with nothing left to write and all its lines said
pub record IsAt (r : Run) (there : Point) : Type 0 where
  pub point : r.point ≡ there
  pub still : IsStill r

-- ---- lines

-- lines may still be said
abbrev pub IsSaying : Point → Type 0
IsSaying (Over SinkFault) = ⊥
IsSaying _ = Unit {0}

-- these lines come next
pub record Owes (r : Run) (lines : List (List ℕ)) : Type 0 where
  pub written : r.writes ≡ []
  pub owed : r.owed ≡ lines
  pub saying : IsSaying r.point

-- these lines were said
pub record Says (old new : Standing) (lines : List (List ℕ)) : Type 0 where
  pub runs : (r : Run) → Owes r lines → Goes old.told new.told r (record r { said = r.said ++ lines; owed = [] })

-- the run ended while these lines were owed
pub record SayFails (old new : Standing) (lines : List (List ℕ)) (status : Status) : Type 0 where
  pub runs : (r : Run) → Owes r lines → Halts old.told new.told r status

-- a status whose line is said before the run ends
abbrev pub IsRefusal : Status → Type 0
IsRefusal Stopped = ⊥
IsRefusal TurnsSpent = ⊥
IsRefusal WorkloadDone = ⊥
IsRefusal SinkFault = ⊥
IsRefusal NoMemory = ⊥
IsRefusal _ = Unit {0}

-- a run that is refused so at a moment ends with this status once the refusal is said
pub record Refuses (old new : Standing) (now : ℕ) (refusal status : Status) : Type 0 where
  pub runs : (r : Run) → IsStill r → Halts old.told new.told (refused now refusal r) status

-- ---- causes

-- no count of faults fell, and the history went on
pub record IsSteady (old new : Standing) : Type 0 where
  pub counts : (kind : Fault) → old.faults kind ≤ new.faults kind
  pub history : Adds old.told new.told (λ g es. Unit {0})

-- a tree defines a jail with this pattern at this place, and its text has no reading
pub record IsNoPattern (jail : List ℕ) (place : PatternPlace) : Type 0 where
  pub tree : Tree
  pub settings : Settings
  pub defined : conf tree ≡ Ok settings
  pub pattern : Pattern
  pub stands : Contains (patterns_of settings.defs) pattern
  pub jail_is : pattern.jail ≡ jail
  pub place_is : pattern.place ≡ place
  pub none : reading pattern.text ≡ None

-- a tree is refused so
pub record IsNoConfiguration (error : ConfError) : Type 0 where
  pub tree : Tree
  pub refused : conf tree ≡ Err error

-- Behind the words a run ends early for a cause: a fault of the outside in a count that rose, a tree that is refused, or a pattern whose
-- text has no reading. That a limit was met, or that all is settled behind a
-- stop that was asked for, is told by the events alone.
abbrev pub HasCause : Standing → Standing → Status → Type 0
HasCause old new Stopped = Unit {0}
HasCause old new TurnsSpent = ⊥
HasCause old new WorkloadDone = ⊥
HasCause old new Usage = ⊥
HasCause old new ConfFault = Rose (old.faults OfConfiguration) (new.faults OfConfiguration)
HasCause old new (ConfRefused error) = IsNoConfiguration error
HasCause old new DiskFault = Rose (old.faults OfDisk) (new.faults OfDisk)
HasCause old new GateFault = Rose (old.faults OfGate) (new.faults OfGate)
HasCause old new SinkFault = Rose (old.faults OfSink) (new.faults OfSink)
HasCause old new (PatternRefused jail place Syntax) = IsNoPattern jail place
HasCause old new (PatternRefused jail place TooBig) = Rose (old.faults OfPatterns) (new.faults OfPatterns)
HasCause old new _ = Unit {0}

-- lines could not be said: the sink failed, or memory ran out
abbrev pub IsUnsaid : Standing → Standing → Status → Type 0
IsUnsaid old new SinkFault = Rose (old.faults OfSink) (new.faults OfSink)
IsUnsaid old new NoMemory = Unit {0}
IsUnsaid old new _ = ⊥

-- a run that is refused ends with the refusal's own status, or since its line could not be said
abbrev pub IsRefusedAs : Standing → Standing → Status → Status → Type 0
IsRefusedAs old new refusal status = (status ≡ refusal) ⊎ IsUnsaid old new status

-- ---- parts of a run

-- C is what the code keeps, and Keeps says of which server
module _ {C : Type 0} (Keeps : Server → C → Type 0) where
  -- the run comes to a point of a server that the code keeps
  pub record Reaches (old new : Standing) (r : Run) (point : Server → Point) (kept : C) : Type 0 where
    pub to : Run
    pub server : Server
    pub goes : Goes old.told new.told r to
    pub at : IsAt to (point server)
    pub keeps : Keeps server kept

  -- from one point of a turn to another
  pub record Moves (old new : Standing) (from to : Server → Point) (before after : C) : Type 0 where
    pub runs : (r : Run) (s : Server) → IsAt r (from s) → Keeps s before → Reaches old new r to after

  -- the run ends on the way
  pub record MoveFails (old new : Standing) (from : Server → Point) (before : C) (status : Status) : Type 0 where
    pub runs : (r : Run) (s : Server) → IsAt r (from s) → Keeps s before → Halts old.told new.told r status

  -- the run comes to a point, for this server
  pub record Brought (old new : Standing) (r : Run) (there : Point) (server : Server) (kept : C) : Type 0 where
    pub to : Run
    pub goes : Goes old.told new.told r to
    pub at : IsAt to there
    pub keeps : Keeps server kept

  -- What an event brought was taken and said, from right behind the event. `next` is any point at which lines may be said.
  pub record Brings (old new : Standing) (news : Server → News) (before after : C) : Type 0 where
    pub runs : (r : Run) (at next : Server → Point) (s : Server) → ((t : Server) → IsSaying (next t)) → IsAt r (at s) → Keeps s before
        → Brought old new (brings (news s) next s r) (next (after_news (news s) s)) (after_news (news s) s) after

  pub record BringFails (old new : Standing) (news : Server → News) (before : C) (status : Status) : Type 0 where
    pub runs : (r : Run) (at next : Server → Point) (s : Server) → ((t : Server) → IsSaying (next t)) → IsAt r (at s) → Keeps s before
        → Halts old.told new.told (brings (news s) next s r) status
