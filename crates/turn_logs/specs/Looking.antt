-- What a look at one log of a server comes to.
use Rattle.std.specs.Prelude.{ℕ, ◌≡◌, ◌+◌, Bool, List, [], ◌∷◌, Some, slice_get}
use Rattle.f2b_base.specs.declared.outside.FileLook.{FileLook}
use Rattle.f2b_world.specs.Told.{Standing}
use Rattle.f2b_world.specs.declared.answer.Look.{Look}
use Rattle.f2b_world.specs.declared.answer.Look.TheVariants.{File}
use Rattle.log_set.specs.Logs.{AnswersAt, Watching}
use Rattle.log_set.specs.declared.taken.Taken.{Taken}
use Rattle.run_law.specs.Law.{Halts}
use Rattle.run_law.specs.Looks.{look_taken, looked, now_is, rotated_lines}
use Rattle.run_law.specs.Points.{Point, AtTurn, AtLook, Run}
use Rattle.run_law.specs.Said.{unread_line}
use Rattle.run_law.specs.Server.{Server}
use Rattle.run_law.specs.Stages.{IsAt, Reaches}
use Rattle.run_law.specs.Turn.{to_looks}
use Rattle.run_law.specs.declared.status.Status.{Status}
use Rattle.run_steps.specs.Keeping.{KeepsRunning}
use Rattle.run_steps.specs.declared.running.Running.{Running}

-- at the look at the log of a place
abbrev pub at_look : ℕ → Server → Point
at_look i s = AtTurn (AtLook i) s

-- a file that was found answers what is asked of the log at a place
abbrev pub IsAnswerAt : Running → ℕ → Look → Type 0
IsAnswerAt kept i (File file) = AnswersAt kept.logs i file
IsAnswerAt kept i _ = Unit {0}

-- a look was taken over: the log at that place alone is as the look left it, and this was taken of it, whatever the server is
pub record TakesLook (before : Running) (i : ℕ) (file : FileLook) (after : Running) (taken : Taken) : Type 0 where
  pub keeps : (s : Server) (l : Watching) → slice_get s.logs i ≡ Some l → KeepsRunning s before → KeepsRunning (now_is i l file s) after
  pub takes : (s : Server) (l : Watching) → slice_get s.logs i ≡ Some l → KeepsRunning s before → taken ≡ look_taken s l file

-- these are the lines that the log at a place is another one, where it is, whatever the server is
pub record TellsRotated (kept : Running) (i : ℕ) (rotated : Bool) (lines : List (List ℕ)) : Type 0 where
  pub tells : (s : Server) (l : Watching) → slice_get s.logs i ≡ Some l → KeepsRunning s kept → lines ≡ rotated_lines s.now l rotated

-- these are the lines that it cannot be read
pub record TellsUnread (kept : Running) (i : ℕ) (lines : List (List ℕ)) : Type 0 where
  pub tells : (s : Server) (l : Watching) → slice_get s.logs i ≡ Some l → KeepsRunning s kept → lines ≡ unread_line s.now l.jail l.path ∷ []

-- what the answer of a look brought was taken and said, from right behind the look
pub record LookBrings (old new : Standing) (i : ℕ) (answer : Look) (before after : Running) : Type 0 where
  pub runs : (r : Run) (s : Server) (l : Watching) → slice_get s.logs i ≡ Some l → IsAt r (at_look i s) → KeepsRunning s before
      → Reaches KeepsRunning old new (looked answer l i s r) (to_looks (i + 1)) after

-- the run ended there
pub record LookFails (old new : Standing) (i : ℕ) (answer : Look) (before : Running) (status : Status) : Type 0 where
  pub runs : (r : Run) (s : Server) (l : Watching) → slice_get s.logs i ≡ Some l → IsAt r (at_look i s) → KeepsRunning s before
      → Halts old.told new.told (looked answer l i s r) status
